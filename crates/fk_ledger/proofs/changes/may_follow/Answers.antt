use Rattle.fk_ledger.proofs.OutlineLaws.{may_close}
use Rattle.fk_ledger.proofs.changes.may_follow.Goals as goal

pub returns-in-Done : goal.returns-in-Done
returns-in-Done c = rw c.in-Done.is (may_close c.args.changes.now c.args.outline.now c.in-Done.id c.is_live.result c.requires c.is_live.ensures)
