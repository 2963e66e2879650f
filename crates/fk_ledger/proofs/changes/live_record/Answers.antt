use Rattle.std.proofs.Common.{Some, None, sym, ◌∙◌}
use Rattle.fk_ledger.proofs.ChangeLists.{found_live, found_done}
use Rattle.fk_ledger.proofs.changes.live_record.Goals as goal

pub returns-then-is_done : goal.returns-then-is_done
returns-then-is_done c = found_done c.args.changes.now c.args.id (sym c.is_done.ensures ∙ c.if-is_done.true)

pub returns : goal.returns
returns c =
    c.opened_by.ensures ∙ found_live c.args.changes.now c.args.id (Some c.in_ok-opening.field-0.now) c.in_ok-opening.ensures (sym c.is_done.ensures ∙ c.if-is_done.false)

pub returns-in_err-opening : goal.returns-in_err-opening
returns-in_err-opening c = rw c.from_residual.ensures (found_live c.args.changes.now c.args.id None c.in_err-opening.ensures (sym c.is_done.ensures ∙ c.if-is_done.false))
