-- The key's block, and the two hashes of an HMAC over it.
use Rattle.std.proofs.Common.{◌≡◌, ℕ, ◌+◌, ◌-◌, ◌<◌, ◌≤◌, nat_lt, true, false, List, [], ◌++◌, length, take, drop, replicate, bit_xor, slice_index, refl, sym, ap, ◌∙◌, arith, append-nil}
use Rattle.std.proofs.lemmas.List.{take-map, take-replicate, drop-replicate, get_or-map, length-map}
use Rattle.std.proofs.Math.Seq.{take-append-add}
use Rattle.std.proofs.lemmas.Grind.{same_number_lists}
use Rattle.std.proofs.lemmas.Bool.{lt-ltb, le-ltb}
use Rattle.fk_base.specs.declared.hash_kind.HashKind.{HashKind}
use Rattle.fk_base.specs.declared.hash_kind.HashKind.TheVariants.{Md5, Sha1, Sha256, Sha384, Sha512}
use Rattle.fk_mac.specs.Hmac.{hash_of, block_len, short_key, block_key, masked, hmac}

pub least_block : (kind : HashKind) → (64 ≤ block_len kind) × (block_len kind ≤ 128)
least_block Md5 = (omega arith, omega arith)
least_block Sha1 = (omega arith, omega arith)
least_block Sha256 = (omega arith, omega arith)
least_block Sha384 = (omega arith, omega arith)
least_block Sha512 = (omega arith, omega arith)

-- bytes and zeros behind them, from an array of zeros
pub filled : (bytes front : List ℕ) → front ≡ bytes → front ++ drop (length bytes) (replicate 128 0) ≡ bytes ++ replicate (128 - length bytes) 0
filled bytes front is = rw (is, drop-replicate {X = ℕ} (length bytes) 128 0) refl

-- each byte XOR the pad, from its places
pub masked_places : (pad n : ℕ) (block bytes : List ℕ) → length bytes ≡ n → length block ≡ n
    → ((k : ℕ) → k < n → slice_index bytes k ≡ bit_xor (slice_index block k) pad) → bytes ≡ masked pad block
masked_places pad n block bytes lb lk places =
    let lm = length-map block (λ b. bit_xor b pad) in
    same_number_lists bytes (masked pad block) (omega arith)
    (λ k lt. places k (omega arith) ∙ sym (get_or-map (λ b. bit_xor b pad) block k 0 0 (omega arith)))

-- the front of the filled array is the key's block
front_block : (kind : HashKind) (key short : List ℕ) → short ≡ short_key kind key → length short ≤ block_len kind
    → take (block_len kind) (short ++ replicate (128 - length short) 0) ≡ block_key kind key
unfolding block_key
front_block kind key short is fits =
    let bounds = least_block kind in
    let n : ℕ = block_len kind in
    let room : ℕ = n - length short in
    let zeros : List ℕ = replicate (128 - length short) 0 in
    let whole : n ≡ length short + room = omega arith in
    let front : take n (short ++ zeros) ≡ short ++ take room zeros =
    ap (λ k. take k (short ++ zeros)) whole ∙ take-append-add short zeros room in
    let rest : take room zeros ≡ replicate room 0 = take-replicate {X = ℕ} room (128 - length short) 0 (omega arith) in
    front ∙ ap (λ r. short ++ r) rest ∙ ap (λ k. k ++ replicate (n - length k) 0) is

pub long_key_block : (kind : HashKind) (key short filled : List ℕ) → block_len kind < length key → short ≡ hash_of kind key → length short ≤ 64
    → filled ≡ short ++ replicate (128 - length short) 0 → take (block_len kind) filled ≡ block_key kind key
long_key_block kind key short filled long is fits e =
    let bounds = least_block kind in
    let n : ℕ = block_len kind in
    let t : nat_lt n (length key) ≡ true = lt-ltb n (length key) long in
    let s : short ≡ short_key kind key = rw t is in
    rw e (front_block kind key short s (omega arith))

pub short_key_block : (kind : HashKind) (key filled : List ℕ) → length key ≤ block_len kind
    → filled ≡ key ++ replicate (128 - length key) 0 → take (block_len kind) filled ≡ block_key kind key
short_key_block kind key filled fits e =
    let n : ℕ = block_len kind in
    let t : nat_lt n (length key) ≡ false = le-ltb n (length key) fits in
    let s : key ≡ short_key kind key = rw t refl in
    rw e (front_block kind key key s fits)

-- the front of the masked array is the masked block
pub masked_front : (kind : HashKind) (key block bytes : List ℕ) (pad n : ℕ) → n ≡ block_len kind → take (block_len kind) block ≡ block_key kind key
    → bytes ≡ masked pad block → take n bytes ≡ masked pad (block_key kind key)
masked_front kind key block bytes pad n en eb em = rw (em, en, take-map (λ b. bit_xor b pad) (block_len kind) block, eb) refl

-- the two hashes
pub hmac_is : (kind : HashKind) (key message inner slice outer : List ℕ) → inner ≡ hash_of kind (masked 0x36 (block_key kind key) ++ message) → slice ≡ inner
    → outer ≡ hash_of kind (masked 0x5c (block_key kind key) ++ (slice ++ [])) → outer ≡ hmac kind key message
unfolding hmac
hmac_is kind key message inner slice outer inner_is slice_is outer_is =
    outer_is ∙ ap (λ m. hash_of kind (masked 0x5c (block_key kind key) ++ m)) (append-nil slice ∙ slice_is ∙ inner_is)
