use Rattle.std.proofs.Common.{arith}
use Rattle.fk_cbc.proofs.ChainLemmas.{SealedUpTo-all, SealedUpTo-more, SealedUpTo-none}
use Rattle.fk_cbc.proofs.chain.seal_blocks.Goals as goal

pub loop-i-init : goal.loop-i-init
loop-i-init c = SealedUpTo-none _ _ _ (λ j. omega (arith, c.type_inv.text j))

pub loop-i-preserved : goal.loop-i-preserved
loop-i-preserved c =
    SealedUpTo-more _ _ _ _ _ _ _ _ _ c.loop-i.invariant (omega arith) (omega arith) (omega arith) c.seal_block-before.ensures.written c.seal_block-before.ensures.encrypted

pub returns : goal.returns
returns c = SealedUpTo-all _ _ _ _ _ _ c.loop-i.invariant c.requires (omega arith)
