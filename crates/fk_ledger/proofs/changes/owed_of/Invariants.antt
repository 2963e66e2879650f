use Rattle.std.proofs.Common.{◌≡◌, take, length, vec_capacity}
use Rattle.fk_ledger.proofs.changes.owed_of.Given as goal

abbrev pub invariant-loop-id : goal.invariant-loop-id
invariant-loop-id l = (l.owed.items ≡ take l.id-index l.ids) × (vec_capacity l.owed ≡ length l.ids)
