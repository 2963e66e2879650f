-- How long the five hashes are.
use Rattle.std.specs.Prelude.{ℕ, ◌+◌, ◌*◌, ◌/◌, ◌==◌, List, [], ◌∷◌, Option}
use Rattle.std.specs.List.{find}
use Rattle.fk_base.specs.declared.hash_kind.HashKind.{HashKind}
use Rattle.fk_base.specs.declared.hash_kind.HashKind.TheVariants.{Md5, Sha1, Sha256, Sha384, Sha512}

-- the hash's length in bytes (RFC 1321, FIPS 180-4)
abbrev pub hash_len : HashKind → ℕ
hash_len Md5 = 16
hash_len Sha1 = 20
hash_len Sha256 = 32
hash_len Sha384 = 48
hash_len Sha512 = 64

-- a letter of base64 for each six bits begun (RFC 4648, section 4, without padding)
abbrev pub text_len : HashKind → ℕ
text_len kind = (8 * hash_len kind + 5) / 6

-- the five hashes
abbrev pub hash_kinds : List HashKind
hash_kinds = Md5 ∷ Sha1 ∷ Sha256 ∷ Sha384 ∷ Sha512 ∷ []

-- the hash whose texts have this length
abbrev pub kind_by_len : ℕ → Option HashKind
kind_by_len len = find (λ kind. text_len kind == len) hash_kinds
