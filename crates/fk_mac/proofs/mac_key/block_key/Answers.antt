use Rattle.std.proofs.Common.{◌<◌, ◌≤◌, length, ◌∙◌, arith}
use Rattle.fk_mac.specs.Hmac.{block_len}
use Rattle.fk_mac.proofs.Blocks.{long_key_block, short_key_block}
use Rattle.fk_mac.proofs.mac_key.block_key.Goals as goal

pub returns-then-key-block_len : goal.returns-then-key-block_len
returns-then-key-block_len c =
    let long : block_len c.args.kind < length c.args.key.now = omega arith in
    long_key_block c.args.kind c.args.key.now c.as_slice.result.now c.zero_filled.result long (c.as_slice.ensures.value ∙ c.hash.ensures) c.as_slice.ensures.short c.zero_filled.ensures

pub returns : goal.returns
returns c =
    let fits : length c.args.key.now ≤ block_len c.args.kind = omega arith in
    short_key_block c.args.kind c.args.key.now c.zero_filled-2.result fits c.zero_filled-2.ensures
