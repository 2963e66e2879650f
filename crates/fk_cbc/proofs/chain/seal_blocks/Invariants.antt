use Rattle.fk_cbc.proofs.ChainLemmas.{SealedUpTo}
use Rattle.fk_cbc.proofs.chain.seal_blocks.Given as goal

abbrev pub invariant-loop-i : goal.invariant-loop-i
invariant-loop-i l = SealedUpTo l.key l.fn.vector l.fn.text l.text l.i l.before
