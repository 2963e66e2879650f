use Rattle.std.proofs.Common.{arith}
use Rattle.fk_cbc.proofs.ChainLemmas.{HasBytes-part, OpenedUpTo-all, OpenedUpTo-more, OpenedUpTo-none}
use Rattle.fk_cbc.proofs.chain.open_blocks.Goals as goal

pub loop-i-init : goal.loop-i-init
loop-i-init g c = record { opened = OpenedUpTo-none _ _ _; bytes = λ j. omega (arith, c.type_inv.text j); counted = omega arith }

pub open_block-before-requires : goal.open_block-before-requires
open_block-before-requires g c = record {
  key = c.requires.key;
  block = HasBytes-part 16 c.loop-i.text _ _ c.loop-i.invariant.bytes (omega arith) (omega arith);
}

pub loop-i-preserved : goal.loop-i-preserved
loop-i-preserved g c = record {
  opened = OpenedUpTo-more _ _ _ _ _ _ _ _ _ c.loop-i.invariant.opened (omega arith) (omega arith) c.open_block-before.ensures.bytes c.open_block-before.ensures.encrypted c.open_block-before.ensures.plain;
  bytes = λ j. omega (arith, c.type_inv.text j);
  counted = omega arith;
}

pub returns-clause-plain : goal.returns-clause-plain
returns-clause-plain g c = OpenedUpTo-all _ _ _ _ _ _ c.loop-i.invariant.opened c.requires.blocks (omega arith)
