use Rattle.std.proofs.Common.{◌≡◌, take}
use Rattle.fk_trace.specs.Ledger.{opens}
use Rattle.fk_ledger.specs.Private.{ids_of}
use Rattle.fk_ledger.proofs.changes.live_ids.Given as goal

abbrev pub invariant-loop-change : goal.invariant-loop-change
invariant-loop-change l = l.ids.items ≡ ids_of l.changes (opens (take l.change-index l.changes))
