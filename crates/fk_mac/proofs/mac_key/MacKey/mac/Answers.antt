use Rattle.std.proofs.Common.{◌++◌}
use Rattle.fk_mac.specs.Hmac.{block_key, inner_pad, masked, outer_pad}
use Rattle.fk_mac.proofs.Blocks.{hmac_is}
use Rattle.fk_mac.proofs.mac_key.MacKey.mac.Goals as goal

pub returns : goal.returns
returns c = λ kind key is.
    hmac_is kind key (c.args.head.now ++ c.args.tail.now) _ _ _
    (c.hash_with.ensures kind (masked inner_pad (block_key kind key)) is.inner) c.as_slice.ensures.value
    (c.hash_with-2.ensures kind (masked outer_pad (block_key kind key)) is.outer)
