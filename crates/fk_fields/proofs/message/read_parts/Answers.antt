use Rattle.std.proofs.Common.{sym}
use Rattle.fk_fields.proofs.MessageParts.{right_parts}
use Rattle.fk_fields.proofs.message.read_parts.Goals as goal

pub returns-in-Ok : goal.returns-in-Ok
returns-in-Ok c =
    let address = c.in-Some.ensures in
    let ip = c.in-Some-find_ip.ensures in
    right_parts c.args.parts _ _ c.in-Some-find_ip.ip c.in-Ok.pairs address (sym ip) c.in-Ok.ensures.0 c.in-Ok.ensures.1
