use Rattle.std.proofs.Common.{arith}
use Rattle.std.proofs.lemmas.Grind.{common_steps}
use Rattle.fk_text.proofs.Symbols.{text_of-encode_of}
use Rattle.fk_text.proofs.Faults.{IsBytes_from}
use Rattle.fk_text.proofs.text.put_text.Goals as goal

pub returns : goal.returns
returns c =
    let e = text_of-encode_of c.args.bytes.now (IsBytes_from c.args.bytes.now c.type_inv.bytes) in
    let t = c.in_ok-text.ensures.text in
    let b = c.into_bytes.ensures in
    let v = c.into.ensures in
    grind (arith, common_steps)
