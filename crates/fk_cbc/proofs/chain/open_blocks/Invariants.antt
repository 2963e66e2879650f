use Rattle.std.proofs.Common.{◌≡◌, ◌+◌, ◌<◌, ℕ, get_or}
use Rattle.fk_cbc.proofs.ChainLemmas.{OpenedUpTo}
use Rattle.fk_cbc.proofs.chain.open_blocks.Given as goal

abbrev pub invariant-loop-i : goal.invariant-loop-i
invariant-loop-i g l = record {
  opened : OpenedUpTo l.key l.fn.vector l.fn.text l.text l.i l.before;
  bytes : (j : ℕ) → get_or l.text j 0 < 256;
  counted : l.steps ≡ l.fn.steps + l.i;
}
