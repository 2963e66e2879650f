use Rattle.std.proofs.Common.{sym, ◌∙◌}
use Rattle.fk_ledger.proofs.ChangeLists.{any_seen, may_new}
use Rattle.fk_ledger.proofs.changes.is_new.Goals as goal

pub returns-then-is_number : goal.returns-then-is_number
returns-then-is_number c =
    let is = c.holds.ensures ∙ c.requires.digests c.args.digest.now.0 ∙ sym (any_seen c.args.changes.now c.args.digest.now.0) in
    let new = may_new c.args.changes.now c.args.digest.now.0 c.holds.result is in
    (λ yes. (c.is_number.ensures.0 c.if-is_number.true, new.0 yes), λ both. new.1 both.1)
