use Rattle.std.proofs.Common.{◌≡◌, ◌+◌, drop}
use Rattle.std.specs.List.{filter_map, sum_by}
use Rattle.fk_ledger.specs.Anew.{cost, kept_as}
use Rattle.fk_ledger.proofs.anew.room_left.Given as goal

abbrev pub invariant-loop-change : goal.invariant-loop-change
invariant-loop-change l =
    l.left + sum_by cost (filter_map (kept_as l.floor l.live) l.changes) ≡ l.room + sum_by cost (filter_map (kept_as l.floor l.live) (drop l.change-index l.changes))
