-- The key schedule: its words are bytes, and each depends only on those before it.
use Rattle.std.proofs.Common.{◌≡◌, ℕ, zero, suc, ◌+◌, ◌-◌, ◌*◌, ◌/◌, ◌%◌, ◌<◌, ◌≤◌, ◌==◌, Bool, true, false, List, [], ◌∷◌, ◌++◌, length, get_or, slice_index, set, take, refl, sym, ap, ◌∙◌, arith, inl, inr}
use Rattle.std.specs.Prelude.{if◌then◌else◌}
use Rattle.std.specs.Int.{to_be_bytes, w32}
use Rattle.std.proofs.lemmas.Bool.{agree_below_at, cases_eq, eqb-true, ne_eqb}
use Rattle.std.proofs.lemmas.List.{get_or-set_other, get_or-set_same, get_or-take, length-append, length-map, take-append-le, take_all, take_more_set}
use Rattle.fk_aes.specs.declared.expansion.TheConstants.{ROUND_CONSTANTS}
use Rattle.fk_base.specs.Bytes.{HasBytes}
use Rattle.fk_aes.specs.EquivalentInverse.{IsInverseSchedule}
use Rattle.fk_aes.specs.Field.{◌⊕◌, xor_bytes, xtime}
use Rattle.fk_aes.specs.KeyExpansion.{addend, first_words, key_expansion, next_word, power_of_x, rot_word, round_constant, sub_word, word_at}
use Rattle.fk_aes.specs.State.{at_column, inv_mix_column, inv_mix_columns, round_key}
use Rattle.fk_aes.specs.Substitution.{sub_byte}
use Rattle.fk_aes.specs.Words.{bytes_of}
use Rattle.fk_aes.proofs.ByteLists.{HasBytes-append, HasBytes-map, HasBytes-xor_bytes, length-xor_bytes, written_out}
use Rattle.fk_aes.proofs.FieldLemmas.{xtime-below}
use Rattle.fk_aes.proofs.SubstitutionLemmas.{sub_byte-below}
use Rattle.fk_aes.proofs.WordLemmas.{HasBytes-bytes_of, bytes_of-append, round_key-bytes_of, word-xor, word_at-bytes_of}

power_of_x-below : (n : ℕ) → power_of_x n < 256
unfolding power_of_x
power_of_x-below zero = omega arith
power_of_x-below (suc n) = xtime-below (power_of_x n) (power_of_x-below n)

HasBytes-word_at : (w : List ℕ) (i : ℕ) → ((k : ℕ) → get_or w k 0 < 256) → HasBytes 4 (word_at w i)
HasBytes-word_at w i h = written_out 4 _ refl (h (4 * i), (h (4 * i + 1), (h (4 * i + 2), (h (4 * i + 3), tt))))

HasBytes-sub_word : (a : List ℕ) → HasBytes 4 a → HasBytes 4 (sub_word a)
HasBytes-sub_word a h = HasBytes-map sub_byte 4 a sub_byte-below h

HasBytes-rot_word : (a : List ℕ) → HasBytes 4 a → HasBytes 4 (rot_word a)
HasBytes-rot_word a h = written_out 4 _ refl (h.each 1, (h.each 2, (h.each 3, (h.each 0, tt))))

pub HasBytes-round_constant : (j : ℕ) → HasBytes 4 (round_constant j)
HasBytes-round_constant j = written_out 4 _ refl (power_of_x-below (j - 1), (omega arith, (omega arith, (omega arith, tt))))

HasBytes-if : (b : Bool) (xs ys : List ℕ) → HasBytes 4 xs → HasBytes 4 ys → HasBytes 4 (if b then xs else ys)
HasBytes-if true xs ys hx hy = hx
HasBytes-if false xs ys hx hy = hy

HasBytes-addend : (i : ℕ) (a : List ℕ) → HasBytes 4 a → HasBytes 4 (addend i a)
unfolding addend
HasBytes-addend i a h =
    HasBytes-if (i % 8 == 0) _ _
    (HasBytes-xor_bytes 4 _ _ (HasBytes-sub_word (rot_word a) (HasBytes-rot_word a h)) (HasBytes-round_constant (i / 8)))
    (HasBytes-if (i % 8 == 4) _ _ (HasBytes-sub_word a h) h)

HasBytes-next_word : (w : List ℕ) (i : ℕ) → ((k : ℕ) → get_or w k 0 < 256) → HasBytes 4 (next_word w i)
unfolding next_word
HasBytes-next_word w i h =
    HasBytes-xor_bytes 4 _ _ (HasBytes-word_at w (i - 8) h) (HasBytes-addend i (word_at w (i - 1)) (HasBytes-word_at w (i - 1) h))

HasBytes-first_words : (key : List ℕ) (n : ℕ) → HasBytes 32 key → HasBytes (4 * n + 32) (first_words key n)
unfolding first_words
HasBytes-first_words key zero h = h
HasBytes-first_words key (suc n) h =
    let before : HasBytes (4 * n + 32) (first_words key n) = HasBytes-first_words key n h in
    HasBytes-append (4 * n + 32) 4 (4 * suc n + 32) _ _ (omega arith) before (HasBytes-next_word (first_words key n) (8 + n) before.each)

pub HasBytes-key_expansion : (key : List ℕ) → HasBytes 32 key → HasBytes 240 (key_expansion key)
unfolding key_expansion
HasBytes-key_expansion key h = HasBytes-first_words key 52 h

-- ---- the schedule begins with the key

length-addend : (i : ℕ) (a : List ℕ) → length a ≡ 4 → length (addend i a) ≡ 4
unfolding addend
length-addend i a h =
    length-if (i % 8 == 0) _ _
    (length-xor_bytes (sub_word (rot_word a)) (round_constant (i / 8)) refl)
    (length-if (i % 8 == 4) _ _ (length-map a sub_byte ∙ h) h)
  where
    length-if : (b : Bool) (xs ys : List ℕ) → length xs ≡ 4 → length ys ≡ 4 → length (if b then xs else ys) ≡ 4
    length-if true xs ys hx hy = hx
    length-if false xs ys hx hy = hy

length-next_word : (w : List ℕ) (i : ℕ) → length (next_word w i) ≡ 4
unfolding next_word
length-next_word w i = length-xor_bytes (word_at w (i - 8)) (addend i (word_at w (i - 1))) (sym (length-addend i (word_at w (i - 1)) refl))

length-first_words : (key : List ℕ) (n : ℕ) → length key ≡ 32 → length (first_words key n) ≡ 4 * n + 32
unfolding first_words
length-first_words key zero h = h
length-first_words key (suc n) h =
    omega (arith, length-append (first_words key n) (next_word (first_words key n) (8 + n)), length-first_words key n h, length-next_word (first_words key n) (8 + n))

take-first_words : (key : List ℕ) (n : ℕ) → length key ≡ 32 → take 32 (first_words key n) ≡ key
unfolding first_words
take-first_words key zero h = take_all 32 key (omega arith)
take-first_words key (suc n) h =
    take-append-le 32 (first_words key n) _ (omega (arith, length-first_words key n h)) ∙ take-first_words key n h

pub take-key_expansion : (key : List ℕ) → length key ≡ 32 → take 32 (key_expansion key) ≡ key
unfolding key_expansion
take-key_expansion key h = take-first_words key 52 h

-- ---- the schedule as it is filled

first_words-suc : (key : List ℕ) (n : ℕ) → first_words key (suc n) ≡ first_words key n ++ next_word (first_words key n) (8 + n)
unfolding first_words
first_words-suc key n = refl

-- a word of the first i
word_before : (s : List ℕ) (i j : ℕ) → j < i → word_at (bytes_of (take i s)) j ≡ to_be_bytes w32 (get_or s j 0)
word_before s i j l = word_at-bytes_of (take i s) j ∙ ap (λ (n : ℕ). to_be_bytes w32 n) (get_or-take i s j 0 l)

next_word-is : (s : List ℕ) (i a : ℕ) → 8 ≤ i → to_be_bytes w32 a ≡ addend i (to_be_bytes w32 (get_or s (i - 1) 0))
    → to_be_bytes w32 (get_or s (i - 8) 0 ⊕ a) ≡ next_word (bytes_of (take i s)) i
unfolding next_word
next_word-is s i a l is =
    let back = word_before s i (i - 8) (omega arith) in
    let last = word_before s i (i - 1) (omega arith) in
    word-xor (get_or s (i - 8) 0) a ∙ sym (λ j. xor_bytes (back j) ((ap (addend i) last ∙ sym is) j))

bytes_of-one : (n : ℕ) → bytes_of (n ∷ []) ≡ to_be_bytes w32 n
unfolding bytes_of
bytes_of-one n = refl

-- one word more
pub first_words-more : (key s : List ℕ) (i a : ℕ) → 8 ≤ i → i < length s → to_be_bytes w32 a ≡ addend i (to_be_bytes w32 (get_or s (i - 1) 0))
    → bytes_of (take i s) ≡ first_words key (i - 8)
    → bytes_of (take (i + 1) (set s i (get_or s (i - 8) 0 ⊕ a))) ≡ first_words key (i + 1 - 8)
first_words-more key s i a low high is h =
    let v : ℕ = get_or s (i - 8) 0 ⊕ a in
    let at : 8 + (i - 8) ≡ i = omega arith in
    let next : i + 1 - 8 ≡ suc (i - 8) = omega arith in
    rw (next, first_words-suc key (i - 8), at, ← h)
    (ap bytes_of (take_more_set s i v high) ∙ bytes_of-append (take i s) (v ∷ [])
    ∙ ap (λ (t : List ℕ). bytes_of (take i s) ++ t) (bytes_of-one v ∙ next_word-is s i a low is))

-- ---- the schedule of the equivalent inverse cipher as it is filled

-- the words 4 to i - 1 of t are those of s mixed, and the others are the same
pub record IsMixedBefore (i : ℕ) (s t : List ℕ) : Type 0 where
  pub mixed : (k : ℕ) → 4 ≤ k → k < i → to_be_bytes w32 (get_or t k 0) ≡ at_column inv_mix_column (to_be_bytes w32 (get_or s k 0)) 0
  pub front : (k : ℕ) → k < 4 → get_or t k 0 ≡ get_or s k 0
  pub behind : (k : ℕ) → i ≤ k → get_or t k 0 ≡ get_or s k 0

pub none_mixed : (s : List ℕ) → IsMixedBefore 4 s s
none_mixed s = record { mixed = λ k low high. absurd (omega arith); front = λ k l. refl; behind = λ k l. refl }

pub one_more_mixed : (s t : List ℕ) (i v : ℕ) → 4 ≤ i → i < length t → to_be_bytes w32 v ≡ at_column inv_mix_column (to_be_bytes w32 (get_or s i 0)) 0
    → IsMixedBefore i s t → IsMixedBefore (i + 1) s (set t i v)
one_more_mixed s t i v low high is before = record {
  mixed = λ k l m. elim (cases_eq k i) [
    | inl e ↦ rw (e, get_or-set_same t i v 0 high) is
    | inr ne ↦ rw (get_or-set_other t i k v 0 ne) (before.mixed k l (omega arith))
  ];
  front = λ k l. get_or-set_other t i k v 0 (omega arith) ∙ before.front k l;
  behind = λ k l. get_or-set_other t i k v 0 (omega arith) ∙ before.behind k (omega arith);
}

four_mixed : (a b c d p q r t : ℕ) → to_be_bytes w32 a ≡ at_column inv_mix_column (to_be_bytes w32 p) 0 → to_be_bytes w32 b ≡ at_column inv_mix_column (to_be_bytes w32 q) 0
    → to_be_bytes w32 c ≡ at_column inv_mix_column (to_be_bytes w32 r) 0 → to_be_bytes w32 d ≡ at_column inv_mix_column (to_be_bytes w32 t) 0
    → bytes_of (a ∷ b ∷ c ∷ d ∷ []) ≡ inv_mix_columns (bytes_of (p ∷ q ∷ r ∷ t ∷ []))
unfolding bytes_of inv_mix_columns inv_mix_column
four_mixed a b c d p q r t ea eb ec ed = λ i. ea i ++ (eb i ++ (ec i ++ (ed i ++ [])))

module _ (s t : List ℕ) (ls : length s ≡ 60) (lt : length t ≡ 60) (is : IsMixedBefore 56 s t) where
  unmixed_key : (n : ℕ) → n < 15 → ((k : ℕ) → 4 * n ≤ k → k < 4 * n + 4 → get_or t k 0 ≡ get_or s k 0) → round_key (bytes_of t) n ≡ round_key (bytes_of s) n
  unmixed_key n l same =
      let word = λ (k : ℕ) (low : 4 * n ≤ k) (high : k < 4 * n + 4). same k low high in
      round_key-bytes_of t n l lt
      ∙ (λ i. bytes_of (word (4 * n) (omega arith) (omega arith) i ∷ word (4 * n + 1) (omega arith) (omega arith) i ∷ word (4 * n + 2) (omega arith) (omega arith) i ∷ word (4 * n + 3) (omega arith) (omega arith) i ∷ []))
      ∙ sym (round_key-bytes_of s n l ls)

  mixed_key : (n : ℕ) → 0 < n → n < 14 → round_key (bytes_of t) n ≡ inv_mix_columns (round_key (bytes_of s) n)
  mixed_key n low high =
      let word = λ (k : ℕ) (l : 4 ≤ k) (h : k < 56). is.mixed k l h in
      round_key-bytes_of t n (omega arith) lt
      ∙ four_mixed _ _ _ _ _ _ _ _ (word (4 * n) (omega arith) (omega arith)) (word (4 * n + 1) (omega arith) (omega arith)) (word (4 * n + 2) (omega arith) (omega arith)) (word (4 * n + 3) (omega arith) (omega arith))
      ∙ sym (ap inv_mix_columns (round_key-bytes_of s n (omega arith) ls))

  pub all_mixed : IsInverseSchedule (bytes_of s) (bytes_of t)
  all_mixed = record {
    size = (HasBytes-bytes_of t).size ∙ ap (λ (n : ℕ). 4 * n) lt;
    keys = λ n l. elim (cases_eq n 0) [
      | inl e ↦ rw e (unmixed_key 0 (omega arith) (λ k low high. is.front k (omega arith)))
      | inr ne ↦ elim (cases_eq n 14) [
        | inl e ↦ rw e (unmixed_key 14 (omega arith) (λ k low high. is.behind k (omega arith)))
        | inr nf ↦ rw (ne_eqb n 0 ne, ne_eqb n 14 nf) (mixed_key n (omega arith) (omega arith))
      ]
    ];
  }

-- the first bytes of the round constants that are used, as the code has them
pub round_constant-entry : (i : ℕ) → i < 7 → slice_index ROUND_CONSTANTS i ≡ power_of_x i
unfolding power_of_x xtime
round_constant-entry i l =
    eqb-true _ _ (agree_below_at (λ k. slice_index ROUND_CONSTANTS k == power_of_x k) (λ _. true) 7 i refl l)
