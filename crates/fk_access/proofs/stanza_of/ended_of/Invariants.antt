use Rattle.std.proofs.Common.{take}
use Rattle.std.specs.List.{AllZip}
use Rattle.fk_access.specs.Private.{IsTimedAt}
use Rattle.fk_access.proofs.stanza_of.ended_of.Given as goal

abbrev pub invariant-loop-at : goal.invariant-loop-at
invariant-loop-at l = record { each : AllZip IsTimedAt (take l.at l.body.ended) l.pairs.items }
