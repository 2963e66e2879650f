use Rattle.std.proofs.Common.{◌∙◌, ap, sym, arith}
use Rattle.fk_fields.specs.Message.{message_in}
use Rattle.fk_codec.proofs.Values.{asked_none, asked_read, asked_too_long, message_found}
use Rattle.fk_codec.proofs.tail.find_asked.Goals as goal

pub returns-then-part-gt256 : goal.returns-then-part-gt256
returns-then-part-gt256 c = sym (asked_too_long c.args.part.now (omega arith))

pub returns-in_err-message : goal.returns-in_err-message
returns-in_err-message c = c.from_residual.ensures ∙ sym (asked_none c.args.part.now c.in_err-message.ensures)

pub returns : goal.returns
returns c =
    c.ok.ensures.value ∙ message_found c.as_slice.result.now c.read_message.result c.read_message.ensures.fault
    ∙ ap message_in c.as_slice.ensures ∙ sym (asked_read c.args.part.now c.in_ok-message.message c.in_ok-message.ensures)
