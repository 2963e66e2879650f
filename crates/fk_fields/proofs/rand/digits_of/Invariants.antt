use Rattle.std.proofs.Common.{◌≡◌, ℕ, ◌+◌, ◌%◌, ◌<◌, length, slice_index}
use Rattle.fk_fields.proofs.rand.digits_of.Given as goal

abbrev pub invariant-loop-i : goal.invariant-loop-i
invariant-loop-i l = (length l.digits ≡ 16) × ((k : ℕ) → k < l.i → slice_index l.digits k ≡ 48 + slice_index l.bytes k % 10)
