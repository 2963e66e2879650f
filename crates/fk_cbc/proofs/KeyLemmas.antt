-- Digests have 16 bytes, so the key is the first two of the chain and the IV the third.
use Rattle.std.proofs.Common.{◌≡◌, ℕ, zero, suc, List, [], ◌++◌, length, get_or, take, drop, refl, ap, ◌∙◌, arith}
use Rattle.std.proofs.lemmas.List.{append-nil, drop_all, drop_at, take_all, take_at}
use Rattle.std.specs.Int.{w32, to_le_bytes}
use borrow.Rule.Slice.PartMut.{put_mid}
use Rattle.md5.specs.Md5.{md5, digest_bytes}
use Rattle.fk_base.specs.Bytes.{HasBytes}
use Rattle.fk_aes.proofs.ByteLists.{HasBytes-append, written_out}
use Rattle.fk_cbc.specs.KeyDerivation.{chained_digest, cipher_key, initial_vector}

HasBytes-word : (n : ℕ) → HasBytes 4 (to_le_bytes w32 n)
HasBytes-word n = written_out 4 (to_le_bytes w32 n) refl (omega arith, (omega arith, (omega arith, (omega arith, tt))))

HasBytes-none : HasBytes 0 []
HasBytes-none = written_out 0 [] refl tt

HasBytes-digest_bytes : (h : List ℕ) → HasBytes 16 (digest_bytes h 4)
unfolding digest_bytes
HasBytes-digest_bytes h =
    let at = λ (k : ℕ). get_or h k 0 in
    HasBytes-append 12 4 16 _ _ refl
    (HasBytes-append 8 4 12 _ _ refl
    (HasBytes-append 4 4 8 _ _ refl
    (HasBytes-append 0 4 4 _ _ refl HasBytes-none (HasBytes-word (at 0)))
    (HasBytes-word (at 1)))
    (HasBytes-word (at 2)))
    (HasBytes-word (at 3))

pub HasBytes-md5 : (m : List ℕ) → HasBytes 16 (md5 m)
unfolding md5
HasBytes-md5 m = HasBytes-digest_bytes _

pub HasBytes-chained_digest : (key salt : List ℕ) (i : ℕ) → HasBytes 16 (chained_digest key salt i)
unfolding chained_digest
HasBytes-chained_digest key salt zero = HasBytes-md5 _
HasBytes-chained_digest key salt (suc i) = HasBytes-md5 _

pub cipher_key-is : (key salt : List ℕ) → cipher_key key salt ≡ chained_digest key salt 0 ++ chained_digest key salt 1
unfolding cipher_key
cipher_key-is key salt =
    let a = chained_digest key salt 0 in
    let b = chained_digest key salt 1 in
    let c = chained_digest key salt 2 in
    let size = (HasBytes-append 16 16 32 a b refl (HasBytes-chained_digest key salt 0) (HasBytes-chained_digest key salt 1)).size in
    take_at (a ++ b) c 32 size

pub initial_vector-is : (key salt : List ℕ) → initial_vector key salt ≡ chained_digest key salt 2
unfolding initial_vector
initial_vector-is key salt =
    let a = chained_digest key salt 0 in
    let b = chained_digest key salt 1 in
    let c = chained_digest key salt 2 in
    let size = (HasBytes-append 16 16 32 a b refl (HasBytes-chained_digest key salt 0) (HasBytes-chained_digest key salt 1)).size in
    ap (take 16) (drop_at (a ++ b) c 32 size) ∙ take_all 16 c (omega (arith, (HasBytes-chained_digest key salt 2).size))

pub HasBytes-cipher_key : (key salt : List ℕ) → HasBytes 32 (cipher_key key salt)
HasBytes-cipher_key key salt = rw cipher_key-is (HasBytes-append 16 16 32 _ _ refl (HasBytes-chained_digest key salt 0) (HasBytes-chained_digest key salt 1))

pub HasBytes-initial_vector : (key salt : List ℕ) → HasBytes 16 (initial_vector key salt)
HasBytes-initial_vector key salt = rw initial_vector-is (HasBytes-chained_digest key salt 2)

-- a list of 32 whose second half is written over
pub put_mid-half : (a zs b : List ℕ) → length a ≡ 16 → length zs ≡ 16 → put_mid 16 16 (a ++ zs) b ≡ a ++ b
put_mid-half a zs b la lz =
    let none : drop 16 zs ≡ [] = drop_all 16 zs (omega arith) in
    rw (take_at a zs 16 la, drop_at a zs 16 la, none, append-nil) refl
