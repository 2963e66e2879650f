use Rattle.std.proofs.Common.{◌≡◌, length, arith}
use Rattle.fk_mac.proofs.Blocks.{masked_places}
use Rattle.fk_mac.proofs.mac_key.masked.Goals as goal

pub returns : goal.returns
returns c =
    let bytes : length c.loop-i.bytes ≡ c.loop-i.i = omega arith in
    let block : length c.args.block.now ≡ c.loop-i.i = omega arith in
    masked_places c.args.pad c.loop-i.i c.args.block.now c.loop-i.bytes bytes block c.loop-i.invariant.1
