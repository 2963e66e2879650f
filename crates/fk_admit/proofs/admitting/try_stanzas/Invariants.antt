use Rattle.std.proofs.Common.{◌+◌, ◌≤◌, take}
use Rattle.std.specs.List.{sum_by}
use Rattle.fk_admit.specs.Admit.{blocks_for}
use Rattle.fk_admit.specs.Private.{arrival_of}
use Rattle.fk_admit.proofs.AllStanzas.{IsTrying}
use Rattle.fk_admit.proofs.admitting.try_stanzas.Given as goal

abbrev pub invariant-loop-at : goal.invariant-loop-at
invariant-loop-at g l = record {
  trying : IsTrying l.access (arrival_of l.fn.arriving) l.at l.first;
  least : l.fn.steps ≤ l.steps;
  most : l.steps ≤ l.fn.steps + sum_by (blocks_for (arrival_of l.fn.arriving)) (take l.at l.access);
}
