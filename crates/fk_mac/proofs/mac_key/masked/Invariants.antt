use Rattle.std.proofs.Common.{◌≡◌, ℕ, ◌<◌, length, slice_index, bit_xor}
use Rattle.fk_mac.proofs.mac_key.masked.Given as goal

abbrev pub invariant-loop-i : goal.invariant-loop-i
invariant-loop-i l = (length l.bytes ≡ 128) × ((k : ℕ) → k < l.i → slice_index l.bytes k ≡ bit_xor (slice_index l.block k) l.pad)
