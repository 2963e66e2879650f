use Rattle.std.proofs.Common.{◌≡◌, ◌++◌, map, take, drop}
use Rattle.fk_ledger.specs.Anew.{settled_as}
use Rattle.fk_ledger.proofs.anew.settle_closed.Given as goal

abbrev pub invariant-loop-change : goal.invariant-loop-change
invariant-loop-change l =
    l.change-items ≡ map (settled_as l.live) (take l.change-index l.initial.change-items) ++ drop l.change-index l.initial.change-items
