use Rattle.std.proofs.Common.{arith}
use Rattle.fk_aes.proofs.ByteLists.{xor_bytes-from_elements}
use Rattle.fk_cbc.proofs.chain.xor_block.Goals as goal

pub returns : goal.returns
returns c =
    xor_bytes-from_elements c.loop-i.block c.args.block.now c.args.other.now (omega arith) (omega arith)
    (λ k l. c.loop-i.invariant.added k (omega arith))
