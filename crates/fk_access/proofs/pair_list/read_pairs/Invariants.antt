use Rattle.std.proofs.Common.{◌≤◌, length}
use Rattle.fk_values.specs.Values.{items_of}
use Rattle.fk_values.proofs.PairsRead.{IsPairsReading}
use Rattle.fk_access.proofs.pair_list.read_pairs.Given as goal

abbrev pub invariant-loop-item : goal.invariant-loop-item
invariant-loop-item l = record {
  reading : IsPairsReading (items_of l.value) l.items l.pairs;
  few : length l.pairs ≤ 64;
}

abbrev pub decreases-loop-item : goal.decreases-loop-item
decreases-loop-item l = length l.items
