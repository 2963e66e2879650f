use Rattle.std.proofs.Common.{◌≤◌, length}
use Rattle.fk_values.specs.Values.{items_of}
use Rattle.fk_access.proofs.NetsRead.{IsNetsReading}
use Rattle.fk_access.proofs.net_list.read_nets.Given as goal

abbrev pub invariant-loop-item : goal.invariant-loop-item
invariant-loop-item l = record {
  reading : IsNetsReading (items_of l.value) l.items l.nets;
  few : length l.nets ≤ 16;
}

abbrev pub decreases-loop-item : goal.decreases-loop-item
decreases-loop-item l = length l.items
