-- How long hashes, codes and their texts are.
use Rattle.std.proofs.Common.{◌≡◌, ℕ, zero, suc, ◌*◌, List, length, slice_index, refl, arith, length-append, w32}
use Rattle.std.specs.Int.{to_be_bytes}
use Rattle.sha1.specs.Sha1.{sha1, digest_bytes}
use Rattle.md5.proofs.StandardFacts.{length-md5}
use Rattle.sha2.proofs.Facts256.{length-sha256}
use Rattle.sha2.proofs.Facts512.{length-sha384, length-sha512}
use Rattle.fk_base.specs.HashKind.{hash_len, text_len}
use Rattle.fk_base.specs.declared.hash_kind.HashKind.{HashKind}
use Rattle.fk_base.specs.declared.hash_kind.HashKind.TheVariants.{Md5, Sha1, Sha256, Sha384, Sha512}
use Rattle.fk_text.specs.Text.{text_of}
use Rattle.fk_text.proofs.Symbols.{length-text_of}
use Rattle.fk_mac.specs.Hmac.{hash_of, hmac}

length-digest_bytes : (h : List ℕ) (n : ℕ) → length (digest_bytes h n) ≡ n * 4
unfolding digest_bytes
length-digest_bytes h zero = refl
length-digest_bytes h (suc n) =
    let before = length-digest_bytes h n in
    let last : length (to_be_bytes w32 (slice_index h n)) ≡ 4 = refl in
    omega (arith, length-append (digest_bytes h n) (to_be_bytes w32 (slice_index h n)))

length-sha1 : (m : List ℕ) → length (sha1 m) ≡ 20
unfolding sha1
length-sha1 m = length-digest_bytes _ 5

pub length-hash_of : (kind : HashKind) (message : List ℕ) → length (hash_of kind message) ≡ hash_len kind
unfolding hash_of
length-hash_of Md5 m = length-md5 m
length-hash_of Sha1 m = length-sha1 m
length-hash_of Sha256 m = length-sha256 m
length-hash_of Sha384 m = length-sha384 m
length-hash_of Sha512 m = length-sha512 m

pub length-hmac : (kind : HashKind) (key message : List ℕ) → length (hmac kind key message) ≡ hash_len kind
unfolding hmac
length-hmac kind key message = length-hash_of kind _

pub length-text : (kind : HashKind) (code : List ℕ) → length code ≡ hash_len kind → length (text_of code) ≡ text_len kind
length-text kind code is = rw (length-text_of code, is) refl
