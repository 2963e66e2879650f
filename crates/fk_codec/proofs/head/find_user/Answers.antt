use Rattle.std.proofs.Common.{◌∙◌, ap, sym, arith}
use Rattle.fk_fields.specs.FieldText.{is_user}
use Rattle.fk_codec.proofs.Values.{user_none, user_read, user_refused, user_too_long}
use Rattle.fk_codec.proofs.head.find_user.Goals as goal

pub returns-then-part-gt256 : goal.returns-then-part-gt256
returns-then-part-gt256 c = user_too_long c.args.part.now (omega arith)

pub returns-in_err-user : goal.returns-in_err-user
returns-in_err-user c = rw c.from_residual.ensures (user_none c.args.part.now c.in_err-user.ensures)

pub returns-then-is_user : goal.returns-then-is_user
returns-then-is_user c =
    user_read c.args.part.now c.in_ok-user.user c.in_ok-user.ensures
    (ap is_user (sym c.as_slice.ensures) ∙ sym c.is_user.ensures ∙ c.if-is_user.true)

pub returns-else-is_user : goal.returns-else-is_user
returns-else-is_user c =
    user_refused c.args.part.now c.in_ok-user.user c.in_ok-user.ensures
    (ap is_user (sym c.as_slice.ensures) ∙ sym c.is_user.ensures ∙ c.if-is_user.false)
