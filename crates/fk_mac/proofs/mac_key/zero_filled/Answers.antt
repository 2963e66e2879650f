use Rattle.fk_mac.proofs.Blocks.{filled}
use Rattle.fk_mac.proofs.mac_key.zero_filled.Goals as goal

pub returns : goal.returns
returns c = filled c.args.bytes.now _ c.copy_from_slice.ensures.after
