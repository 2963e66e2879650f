use Rattle.std.proofs.lemmas.List.Edits.{map_over_more}
use Rattle.fk_ledger.specs.Anew.{settled_as}
use Rattle.fk_ledger.proofs.anew.settle_closed.Goals as goal

pub loop-change-preserved : goal.loop-change-preserved
loop-change-preserved c =
    rw (c.settle_one.ensures, ← c.change-item.is)
    (map_over_more (settled_as c.args.live.now) c.deref_mut-change-items.result.now c.loop-change.change-items c.loop-change.change-index c.change-item.result c.loop-change-test.true c.loop-change.invariant c.change-item.is)
