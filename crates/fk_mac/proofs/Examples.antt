-- The second test case of RFC 2202 for MD5.
use Rattle.std.proofs.Common.{◌≡◌, [], ◌∷◌, codes, refl}
use Rattle.md5.specs.Md5.{md5, digest_bytes, hash_after, compress, rounds, block_words}
use Rattle.fk_base.specs.declared.hash_kind.HashKind.TheVariants.{Md5}
use Rattle.fk_mac.specs.Hmac.{hash_of, block_key, hmac}

pub jefe_md5 : hmac Md5 (codes "Jefe") (codes "what do ya want for nothing?")
    ≡ 0x75 ∷ 0x0c ∷ 0x78 ∷ 0x3e ∷ 0x6a ∷ 0xb0 ∷ 0xb5 ∷ 0x03 ∷ 0xea ∷ 0xa8 ∷ 0x6e ∷ 0x31 ∷ 0x0a ∷ 0x5d ∷ 0xb7 ∷ 0x38 ∷ []
unfolding hmac block_key hash_of md5 digest_bytes hash_after compress rounds block_words
jefe_md5 = refl
