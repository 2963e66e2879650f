use Rattle.std.proofs.Common.{ℕ, List, ap, ◌∙◌}
use Rattle.fk_aes.specs.Cipher.{cipher, cipher_by}
use Rattle.fk_aes.specs.KeyExpansion.{key_expansion}
use Rattle.fk_aes.proofs.key.Key256.encrypt.Goals as goal

pub returns : goal.returns
unfolding cipher
returns c =
    c.encrypt_by.ensures ∙ ap (λ (w : List ℕ). cipher_by w c.args.block.now) (c.self.invariant.expanded ∙ ap key_expansion c.self.view_is)
