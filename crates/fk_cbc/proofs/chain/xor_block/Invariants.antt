use Rattle.std.proofs.Common.{◌≡◌, ℕ, ◌<◌, ◌≤◌, get_or, length}
use Rattle.fk_aes.specs.Field.{◌⊕◌}
use Rattle.fk_cbc.proofs.chain.xor_block.Given as goal

abbrev pub invariant-loop-i : goal.invariant-loop-i
invariant-loop-i l = record {
  size : length l.block ≡ 16;
  added : (k : ℕ) → k < l.i → get_or l.block k 0 ≡ get_or l.fn.block k 0 ⊕ get_or l.other k 0;
  left : (k : ℕ) → l.i ≤ k → get_or l.block k 0 ≡ get_or l.fn.block k 0;
}
