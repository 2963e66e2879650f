use Rattle.std.proofs.Common.{◌≡◌, drop}
use Rattle.fk_trace.specs.Ledger.{floor_from, floor_of}
use Rattle.fk_ledger.proofs.changes.floor_of.Given as goal

abbrev pub invariant-loop-change : goal.invariant-loop-change
invariant-loop-change l = floor_from l.lower (drop l.change-index l.changes) ≡ floor_of l.changes
