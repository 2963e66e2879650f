use Rattle.std.proofs.Common.{[], take, map}
use Rattle.fk_trace.specs.Ledger.{live}
use Rattle.fk_cycle.specs.Stands.{Stands}
use Rattle.fk_child.specs.Crew.{obligation_of}
use Rattle.fk_child.proofs.obligations.machine_for.Given as goal

abbrev pub invariant-loop-owed : goal.invariant-loop-owed
invariant-loop-owed l = Stands l.machine.kept [] [] (map obligation_of (take l.owed-index (live l.ledger.changes)))
