use Rattle.std.proofs.Common.{◌≡◌, length, refl, rules}
use Rattle.fk_aes.specs.Words.{bytes_of}
use Rattle.fk_aes.proofs.ByteLists.{list-elements}
use Rattle.fk_aes.proofs.state.block_of.Goals as goal

pub returns : goal.returns
unfolding bytes_of
returns c =
    let four : length c.args.columns ≡ 4 = search rules in
    rw (list-elements c.args.columns 4 four, c.to_be_bytes.ensures, c.to_be_bytes-2.ensures, c.to_be_bytes-3.ensures, c.to_be_bytes-4.ensures) refl
