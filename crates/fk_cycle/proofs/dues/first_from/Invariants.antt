use Rattle.fk_cycle.specs.Private.{HasPassed}
use Rattle.fk_cycle.proofs.dues.first_from.Given as goal

abbrev pub invariant-loop-place : goal.invariant-loop-place
invariant-loop-place l = HasPassed l.at l.records.kept l.place l.come
