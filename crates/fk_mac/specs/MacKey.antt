-- What a contract sees of a key that is prepared: the messages that its two hashes have behind them.
use Rattle.std.specs.Prelude.{◌≡◌, ℕ, List}
use Rattle.fk_base.specs.declared.hash_kind.HashKind.{HashKind}
use Rattle.fk_base.specs.declared.hash_kind.HashKind.TheVariants.{Md5, Sha1, Sha256, Sha384, Sha512}
use Rattle.md5.specs.Md5 as RFC1321
use Rattle.sha1.specs.Sha1 as FIPS180
use Rattle.sha2.specs.Hashers.{Holds256, Holds384, Holds512}
use Rattle.fk_mac.specs.Hmac.{block_key, inner_pad, masked, outer_pad}
use Rattle.fk_mac.specs.declared.hash_state.HashState.{HashState}
use Rattle.fk_mac.specs.declared.hash_state.HashState.TheVariants.{OfMd5, OfSha1, OfSha256, OfSha384, OfSha512}
use Rattle.fk_mac.specs.declared.mac_key.MacKey.{MacKey}

-- the state is one of that hash, and has the message behind it
unfoldable pub HoldsMessage : HashState → HashKind → List ℕ → Type 0
HoldsMessage (OfMd5 s) kind message = (kind ≡ Md5) × RFC1321.Holds s message
HoldsMessage (OfSha1 s) kind message = (kind ≡ Sha1) × FIPS180.Holds s message
HoldsMessage (OfSha256 s) kind message = (kind ≡ Sha256) × Holds256 s message
HoldsMessage (OfSha384 s) kind message = (kind ≡ Sha384) × Holds384 s message
HoldsMessage (OfSha512 s) kind message = (kind ≡ Sha512) × Holds512 s message

-- k is that key, prepared for HMACs by that hash: one state is behind K XOR ipad, the other behind K XOR opad (RFC 2104, section 4)
pub record IsMacKey (k : MacKey) (kind : HashKind) (key : List ℕ) : Type 0 where
  pub inner : HoldsMessage k.inner kind (masked inner_pad (block_key kind key))
  pub outer : HoldsMessage k.outer kind (masked outer_pad (block_key kind key))
