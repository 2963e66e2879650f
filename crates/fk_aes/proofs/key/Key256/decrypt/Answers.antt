use Rattle.std.proofs.Common.{◌≡◌, ℕ, List, length, ap, rules, ◌∙◌}
use Rattle.fk_base.specs.Bytes.{HasBytes}
use Rattle.fk_aes.specs.Cipher.{decipher, decipher_by}
use Rattle.fk_aes.specs.KeyExpansion.{key_expansion}
use Rattle.fk_aes.specs.Words.{bytes_of}
use Rattle.fk_aes.proofs.EquivalentLaws.{equivalent_decipher_by-is_decipher_by}
use Rattle.fk_aes.proofs.WordLemmas.{HasBytes-bytes_of}
use Rattle.fk_aes.proofs.key.Key256.decrypt.Goals as goal

pub returns-clause-block : goal.returns-clause-block
unfolding decipher
returns-clause-block g c =
    let w : List ℕ = bytes_of c.self.inside.schedule in
    let words : length c.self.inside.schedule ≡ 60 = search rules in
    let schedule : HasBytes 240 w = rw words at (HasBytes-bytes_of c.self.inside.schedule) in
    let block : HasBytes 16 c.args.block.now = record { size = search rules; each = c.fits-block } in
    c.decrypt_by.ensures
    ∙ equivalent_decipher_by-is_decipher_by w (bytes_of c.self.inside.inverse) c.args.block.now schedule block c.self.invariant.inverse
    ∙ ap (λ (v : List ℕ). decipher_by v c.args.block.now) (c.self.invariant.expanded ∙ ap key_expansion c.self.view_is)
