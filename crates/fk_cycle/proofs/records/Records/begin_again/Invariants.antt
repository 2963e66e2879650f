use Rattle.std.proofs.Common.{◌≡◌, ◌++◌, map, take, drop}
use Rattle.fk_cycle.proofs.RecordLemmas.{untried}
use Rattle.fk_cycle.proofs.records.Records.begin_again.Given as goal

abbrev pub invariant-loop-kept : goal.invariant-loop-kept
invariant-loop-kept l =
    l.kept-items ≡ map untried (take l.kept-index l.initial.kept-items) ++ drop l.kept-index l.initial.kept-items
