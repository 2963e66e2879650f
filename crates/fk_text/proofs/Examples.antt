-- The examples of RFC 4648, section 10, and the SHA-256 of `abc`.
use Rattle.std.proofs.Common.{◌≡◌, [], ◌∷◌, map, codes, refl}
use Rattle.fk_text.specs.Text.{bits_of, group_numbers, text_of}

pub examples : map text_of (codes "" ∷ codes "f" ∷ codes "fo" ∷ codes "foo" ∷ codes "foob" ∷ codes "fooba" ∷ codes "foobar" ∷ [])
    ≡ codes "" ∷ codes "Zg" ∷ codes "Zm8" ∷ codes "Zm9v" ∷ codes "Zm9vYg" ∷ codes "Zm9vYmE" ∷ codes "Zm9vYmFy" ∷ []
unfolding bits_of group_numbers text_of
examples = refl

pub digest_example : text_of (
    0xba ∷ 0x78 ∷ 0x16 ∷ 0xbf ∷ 0x8f ∷ 0x01 ∷ 0xcf ∷ 0xea ∷ 0x41 ∷ 0x41 ∷ 0x40 ∷ 0xde ∷ 0x5d ∷ 0xae ∷ 0x22 ∷ 0x23 ∷ 0xb0 ∷ 0x03 ∷ 0x61 ∷ 0xa3 ∷ 0x96 ∷ 0x17 ∷ 0x7a ∷ 0x9c ∷ 0xb4 ∷ 0x10 ∷ 0xff ∷ 0x61 ∷ 0xf2 ∷ 0x00 ∷ 0x15 ∷ 0xad ∷ []
    )
    ≡ codes "ungWv48Bz+pBQUDeXa4iI7ADYaOWF3qctBD/YfIAFa0"
unfolding bits_of group_numbers text_of
digest_example = refl
