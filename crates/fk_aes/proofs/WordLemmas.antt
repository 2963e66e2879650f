-- Words and their bytes: sums, and the words, round keys and columns that stand in a list of bytes.
use Rattle.std.proofs.Common.{◌≡◌, ℕ, zero, suc, ◌+◌, ◌*◌, ◌/◌, ◌%◌, ◌^◌, ◌<◌, ◌≤◌, List, [], ◌∷◌, ◌++◌, length, get_or, take, drop, refl, sym, ap, ◌∙◌, arith}
use Rattle.std.specs.Int.{from_be_bytes, to_be_bytes, w32}
use Rattle.std.proofs.lemmas.List.{get_or-drop, get_or-take, length-drop, length-take}
use Rattle.std.proofs.lemmas.Nat.{be_bytes_4, xor_mod, xor_shr}
use Rattle.fk_base.specs.Bytes.{HasBytes}
use Rattle.fk_aes.specs.Field.{◌⊕◌, xor_bytes}
use Rattle.fk_aes.specs.KeyExpansion.{word_at}
use Rattle.fk_aes.specs.State.{add_round_key, round_key}
use Rattle.fk_aes.specs.Words.{bytes_of}
use Rattle.fk_aes.proofs.ByteLists.{AllBytes, HasBytes-append, byte_in, list-elements, written_out}

-- ---- one word

-- the word of four bytes
pub word_of_bytes : (bs : List ℕ) (n : ℕ) → length bs ≡ 4 → AllBytes bs → n ≡ from_be_bytes w32 bs → to_be_bytes w32 n ≡ bs
word_of_bytes bs n four each is = be_bytes_4 bs n four (byte_in bs each) is

byte-xor : (k x y : ℕ) → (x ⊕ y) / 2 ^ k % 2 ^ 8 ≡ (x / 2 ^ k % 2 ^ 8) ⊕ (y / 2 ^ k % 2 ^ 8)
byte-xor k x y = ap (λ (n : ℕ). n % 2 ^ 8) (xor_shr x y k) ∙ xor_mod (x / 2 ^ k) (y / 2 ^ k) 8

-- the bytes of a sum of words
pub word-xor : (x y : ℕ) → to_be_bytes w32 (x ⊕ y) ≡ xor_bytes (to_be_bytes w32 x) (to_be_bytes w32 y)
unfolding xor_bytes
word-xor x y = λ i. byte-xor 24 x y i ∷ byte-xor 16 x y i ∷ byte-xor 8 x y i ∷ xor_mod x y 8 i ∷ []

byte_below : (n : ℕ) → n % 256 < 256
byte_below n = omega arith

pub HasBytes-word : (n : ℕ) → HasBytes 4 (to_be_bytes w32 n)
HasBytes-word n = written_out 4 _ refl (byte_below _, (byte_below _, (byte_below _, (byte_below _, tt))))

-- ---- many words

pub bytes_of-cons : (n : ℕ) (ns : List ℕ) → bytes_of (n ∷ ns) ≡ to_be_bytes w32 n ++ bytes_of ns
unfolding bytes_of
bytes_of-cons n ns = refl

pub HasBytes-bytes_of : (ns : List ℕ) → HasBytes (4 * length ns) (bytes_of ns)
unfolding bytes_of
HasBytes-bytes_of [] = written_out 0 [] refl tt
HasBytes-bytes_of (n ∷ ns) =
    HasBytes-append 4 (4 * length ns) (4 * length (n ∷ ns)) (to_be_bytes w32 n) (bytes_of ns) (omega arith) (HasBytes-word n) (HasBytes-bytes_of ns)

pub bytes_of-append : (ns ms : List ℕ) → bytes_of (ns ++ ms) ≡ bytes_of ns ++ bytes_of ms
unfolding bytes_of
bytes_of-append [] ms = refl
bytes_of-append (n ∷ ns) ms = ap (λ (t : List ℕ). to_be_bytes w32 n ++ t) (bytes_of-append ns ms)

four_more : (k : ℕ) → 4 * suc k ≡ suc (suc (suc (suc (4 * k))))
four_more k = omega arith

drop-nil : (k : ℕ) → drop {A = ℕ} k [] ≡ []
drop-nil zero = refl
drop-nil (suc k) = refl

take-nil : (k : ℕ) → take {A = ℕ} k [] ≡ []
take-nil zero = refl
take-nil (suc k) = refl

pub drop-bytes_of : (k : ℕ) (ns : List ℕ) → drop (4 * k) (bytes_of ns) ≡ bytes_of (drop k ns)
unfolding bytes_of
drop-bytes_of zero ns = refl
drop-bytes_of (suc k) [] = drop-nil (4 * suc k)
drop-bytes_of (suc k) (n ∷ ns) = rw (four_more k) (drop-bytes_of k ns)

pub take-bytes_of : (k : ℕ) (ns : List ℕ) → take (4 * k) (bytes_of ns) ≡ bytes_of (take k ns)
unfolding bytes_of
take-bytes_of zero ns = refl
take-bytes_of (suc k) [] = take-nil (4 * suc k)
take-bytes_of (suc k) (n ∷ ns) = rw (four_more k) (ap (λ (t : List ℕ). to_be_bytes w32 n ++ t) (take-bytes_of k ns))

get_or-nil : (k : ℕ) → get_or {A = ℕ} [] k 0 ≡ 0
get_or-nil zero = refl
get_or-nil (suc k) = refl

-- the words of bytes that are those of words
pub word_at-bytes_of : (ns : List ℕ) (i : ℕ) → word_at (bytes_of ns) i ≡ to_be_bytes w32 (get_or ns i 0)
unfolding bytes_of
word_at-bytes_of [] i = λ j. get_or-nil (4 * i) j ∷ get_or-nil (4 * i + 1) j ∷ get_or-nil (4 * i + 2) j ∷ get_or-nil (4 * i + 3) j ∷ []
word_at-bytes_of (n ∷ ns) zero = refl
word_at-bytes_of (n ∷ ns) (suc i) =
    let e1 : 4 * suc i + 1 ≡ suc (suc (suc (suc (4 * i + 1)))) = omega arith in
    let e2 : 4 * suc i + 2 ≡ suc (suc (suc (suc (4 * i + 2)))) = omega arith in
    let e3 : 4 * suc i + 3 ≡ suc (suc (suc (suc (4 * i + 3)))) = omega arith in
    rw (e1, e2, e3, four_more i) (word_at-bytes_of ns i)

-- four elements from a place on
four_at : (ns : List ℕ) (k : ℕ) → k + 4 ≤ length ns
    → take 4 (drop k ns) ≡ get_or ns k 0 ∷ get_or ns (k + 1) 0 ∷ get_or ns (k + 2) 0 ∷ get_or ns (k + 3) 0 ∷ []
four_at ns k l =
    let four : length (take 4 (drop k ns)) ≡ 4 = omega (arith, length-take 4 (drop k ns), length-drop k ns) in
    let at = λ (j : ℕ) (lt : j < 4). get_or-take 4 (drop k ns) j 0 lt ∙ get_or-drop k ns j 0 in
    let first : k + 0 ≡ k = omega arith in
    list-elements (take 4 (drop k ns)) 4 four
    ∙ (λ i. at 0 (omega arith) i ∷ at 1 (omega arith) i ∷ at 2 (omega arith) i ∷ at 3 (omega arith) i ∷ [])
    ∙ ap (λ (j : ℕ). get_or ns j 0 ∷ get_or ns (k + 1) 0 ∷ get_or ns (k + 2) 0 ∷ get_or ns (k + 3) 0 ∷ []) first

-- ---- round keys

-- the words of the round key n
abbrev pub key_words : List ℕ → ℕ → List ℕ
key_words ns n = get_or ns (4 * n) 0 ∷ get_or ns (4 * n + 1) 0 ∷ get_or ns (4 * n + 2) 0 ∷ get_or ns (4 * n + 3) 0 ∷ []

pub round_key-bytes_of : (ns : List ℕ) (n : ℕ) → n < 15 → length ns ≡ 60 → round_key (bytes_of ns) n ≡ bytes_of (key_words ns n)
round_key-bytes_of ns n l h =
    let place : 16 * n ≡ 4 * (4 * n) = omega arith in
    ap (λ (k : ℕ). take 16 (drop k (bytes_of ns))) place
    ∙ ap (take 16) (drop-bytes_of (4 * n) ns)
    ∙ take-bytes_of 4 (drop (4 * n) ns)
    ∙ ap bytes_of (four_at ns (4 * n) (omega arith))

-- four words added to four
four_sums : (a b c d p q r t : ℕ) → bytes_of ((a ⊕ p) ∷ (b ⊕ q) ∷ (c ⊕ r) ∷ (d ⊕ t) ∷ []) ≡ xor_bytes (bytes_of (a ∷ b ∷ c ∷ d ∷ [])) (bytes_of (p ∷ q ∷ r ∷ t ∷ []))
unfolding bytes_of xor_bytes
four_sums a b c d p q r t = λ i. word-xor a p i ++ (word-xor b q i ++ (word-xor c r i ++ (word-xor d t i ++ [])))

-- a round key added word by word
pub add_round_key-words : (s ns : List ℕ) (n : ℕ) → n < 15 → length s ≡ 4 → length ns ≡ 60
    → bytes_of ((get_or s 0 0 ⊕ get_or ns (4 * n) 0) ∷ (get_or s 1 0 ⊕ get_or ns (4 * n + 1) 0) ∷ (get_or s 2 0 ⊕ get_or ns (4 * n + 2) 0) ∷ (get_or s 3 0 ⊕ get_or ns (4 * n + 3) 0) ∷ [])
    ≡ add_round_key (bytes_of s) (bytes_of ns) n
unfolding add_round_key
add_round_key-words s ns n l four h =
    rw (round_key-bytes_of ns n l h)
    (four_sums (get_or s 0 0) (get_or s 1 0) (get_or s 2 0) (get_or s 3 0) (get_or ns (4 * n) 0) (get_or ns (4 * n + 1) 0) (get_or ns (4 * n + 2) 0) (get_or ns (4 * n + 3) 0)
    ∙ ap (λ (t : List ℕ). xor_bytes (bytes_of t) (bytes_of (key_words ns n))) (sym (list-elements s 4 four)))

-- ---- lists of bytes, word by word

pub four_words : (bs : List ℕ) (a b c d : ℕ) → length bs ≡ 16
    → to_be_bytes w32 a ≡ word_at bs 0 → to_be_bytes w32 b ≡ word_at bs 1 → to_be_bytes w32 c ≡ word_at bs 2 → to_be_bytes w32 d ≡ word_at bs 3
    → bytes_of (a ∷ b ∷ c ∷ d ∷ []) ≡ bs
unfolding bytes_of
four_words bs a b c d l ea eb ec ed = (λ i. ea i ++ (eb i ++ (ec i ++ (ed i ++ [])))) ∙ sym (list-elements bs 16 l)

pub eight_words : (bs : List ℕ) (a b c d e f g h : ℕ) → length bs ≡ 32
    → to_be_bytes w32 a ≡ word_at bs 0 → to_be_bytes w32 b ≡ word_at bs 1 → to_be_bytes w32 c ≡ word_at bs 2 → to_be_bytes w32 d ≡ word_at bs 3
    → to_be_bytes w32 e ≡ word_at bs 4 → to_be_bytes w32 f ≡ word_at bs 5 → to_be_bytes w32 g ≡ word_at bs 6 → to_be_bytes w32 h ≡ word_at bs 7
    → bytes_of (a ∷ b ∷ c ∷ d ∷ e ∷ f ∷ g ∷ h ∷ []) ≡ bs
unfolding bytes_of
eight_words bs a b c d e f g h l ea eb ec ed ee ef eg eh =
    (λ i. ea i ++ (eb i ++ (ec i ++ (ed i ++ (ee i ++ (ef i ++ (eg i ++ (eh i ++ [])))))))) ∙ sym (list-elements bs 32 l)
