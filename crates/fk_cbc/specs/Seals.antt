-- The sealed form: a mark, the salt, and the padded plaintext in CBC under the key and the IV that come of key and salt.
use Rattle.std.specs.Prelude.{◌≡◌, ℕ, ◌-◌, ◌/◌, List, ◌++◌, codes, length, take, drop}
use Rattle.fk_base.specs.Bytes.{HasBytes}
use Rattle.fk_cbc.specs.Chain.{Encrypts}
use Rattle.fk_cbc.specs.KeyDerivation.{cipher_key, initial_vector}
use Rattle.fk_cbc.specs.Padding.{padded}

-- the eight bytes before the salt
abbrev pub salt_mark : List ℕ
salt_mark = codes "Salted__"

-- the sealed bytes are what a plaintext becomes under a key, with a salt of 8 bytes
pub record Seals (key salt plain sealed : List ℕ) : Type 0 where
  pub blocks : List ℕ
  pub salt_is : HasBytes 8 salt
  pub sealed_is : sealed ≡ salt_mark ++ salt ++ blocks
  pub encrypts : Encrypts (cipher_key key salt) (initial_vector key salt) (padded plain) blocks

-- the salt that stands in sealed bytes
abbrev pub salt_in : List ℕ → List ℕ
salt_in sealed = take 8 (drop 8 sealed)

-- how many blocks follow the salt
abbrev pub block_count : List ℕ → ℕ
block_count sealed = (length sealed - 16) / 16
