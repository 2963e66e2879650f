use Rattle.std.proofs.Common.{subst}
use Rattle.fk_mac.specs.MacKey.{HoldsMessage}
use Rattle.fk_mac.proofs.Blocks.{masked_front}
use Rattle.fk_mac.proofs.mac_key.MacKey.new.Goals as goal

pub returns : goal.returns
returns c =
    let front = masked_front c.args.kind c.args.key.now c.block_key-block.result in
    record {
      inner = subst (HoldsMessage c.behind.result c.args.kind) (front c.masked-inside.result 0x36 c.block_len-len.result c.block_len-len.ensures c.block_key-block.ensures c.masked-inside.ensures) c.behind.ensures;
      outer = subst (HoldsMessage c.behind-2.result c.args.kind) (front c.masked-outside.result 0x5c c.block_len-len.result c.block_len-len.ensures c.block_key-block.ensures c.masked-outside.ensures) c.behind-2.ensures;
    }
