use Rattle.std.proofs.Common.{◌≡◌, ◌∙◌, length, ap, arith}
use Rattle.fk_fields.specs.Message.{message_text}
use Rattle.fk_fields.proofs.MessageLengths.{length-message}
use Rattle.fk_codec.proofs.writing.put_request.Goals as goal

pub put_text-requires : goal.put_text-requires
put_text-requires c =
    let short = length-message c.args.ip c.args.pairs.now c.requires in
    let same : length c.as_slice.result.now ≡ length (message_text c.args.ip c.args.pairs.now) = ap length (c.as_slice.ensures ∙ c.in_ok-message.ensures) in
    omega arith
