use Rattle.std.proofs.Common.{take, ◌+◌, ◌≤◌}
use Rattle.std.specs.HashSet.{hash_set_len, spare}
use Rattle.fk_ledger.specs.Index.{Indexes}
use Rattle.fk_ledger.proofs.index.index_anew.Given as goal

abbrev pub invariant-loop-change : goal.invariant-loop-change
invariant-loop-change l = Indexes l.index (take l.change-index l.changes) × (hash_set_len l.fn.index + spare l.fn.index ≤ spare l.index + l.change-index)
