-- The bits of a text past its last whole byte, four letters at a time.
use Rattle.std.proofs.Common.{◌≡◌, ◌↔◌, ℕ, zero, suc, ◌+◌, ◌-◌, ◌*◌, ◌/◌, ◌%◌, ◌<◌, List, [], ◌∷◌, ◌++◌, length, drop, slice_index, All, ap, ◌∙◌, arith}
use Rattle.std.proofs.Math.Seq.{drop-append-add}
use Rattle.fk_text.specs.TextFault.{letter_number, six_bits, letter_bits, unused_bits, HasZeroRest}

-- four letters are three whole bytes
pub unused_bits-four : (w x y z : ℕ) (text : List ℕ) → unused_bits (w ∷ x ∷ y ∷ z ∷ text) ≡ unused_bits text
unfolding letter_bits
unused_bits-four w x y z text =
    let front : List ℕ = six_bits (letter_number w) ++ (six_bits (letter_number x) ++ (six_bits (letter_number y) ++ six_bits (letter_number z))) in
    let n : ℕ = length text in
    let at : 6 * length (w ∷ x ∷ y ∷ z ∷ text) / 8 * 8 ≡ 24 + 6 * n / 8 * 8 = omega arith in
    ap (λ k. drop k (letter_bits (w ∷ x ∷ y ∷ z ∷ text))) at ∙ drop-append-add front (letter_bits text) (6 * n / 8 * 8)

-- the last of a text with four more letters before it
last-four : (w x y z : ℕ) (text : List ℕ) → 0 < length text
    → slice_index (w ∷ x ∷ y ∷ z ∷ text) (length (w ∷ x ∷ y ∷ z ∷ text) - 1) ≡ slice_index text (length text - 1)
last-four w x y z text some =
    let at : length (w ∷ x ∷ y ∷ z ∷ text) - 1 ≡ suc (suc (suc (suc (length text - 1)))) = omega arith in
    ap (λ k. slice_index (w ∷ x ∷ y ∷ z ∷ text) k) at

four_zeros : (n : ℕ) → n % 16 ≡ 0 → All (λ bit. bit ≡ 0) (n / 8 % 2 ∷ n / 4 % 2 ∷ n / 2 % 2 ∷ n % 2 ∷ [])
four_zeros n h zero d lt = omega arith
four_zeros n h (suc zero) d lt = omega arith
four_zeros n h (suc (suc zero)) d lt = omega arith
four_zeros n h (suc (suc (suc zero))) d lt = omega arith
four_zeros n h (suc (suc (suc (suc k)))) d lt = absurd (omega arith)

four_zeros_only : (n : ℕ) → All (λ bit. bit ≡ 0) (n / 8 % 2 ∷ n / 4 % 2 ∷ n / 2 % 2 ∷ n % 2 ∷ []) → n % 16 ≡ 0
four_zeros_only n h =
    let a : n / 8 % 2 ≡ 0 = h 0 0 (omega arith) in
    let b : n / 4 % 2 ≡ 0 = h 1 0 (omega arith) in
    let c : n / 2 % 2 ≡ 0 = h 2 0 (omega arith) in
    let d : n % 2 ≡ 0 = h 3 0 (omega arith) in
    omega arith

two_zeros : (n : ℕ) → n % 4 ≡ 0 → All (λ bit. bit ≡ 0) (n / 2 % 2 ∷ n % 2 ∷ [])
two_zeros n h zero d lt = omega arith
two_zeros n h (suc zero) d lt = omega arith
two_zeros n h (suc (suc k)) d lt = absurd (omega arith)

two_zeros_only : (n : ℕ) → All (λ bit. bit ≡ 0) (n / 2 % 2 ∷ n % 2 ∷ []) → n % 4 ≡ 0
two_zeros_only n h =
    let a : n / 2 % 2 ≡ 0 = h 0 0 (omega arith) in
    let b : n % 2 ≡ 0 = h 1 0 (omega arith) in
    omega arith

-- two letters are a byte and four bits
pub rest_of_two : (w x : ℕ) → HasZeroRest (w ∷ x ∷ []) ↔ (letter_number x % 16 ≡ 0)
unfolding letter_bits
rest_of_two w x = (four_zeros_only (letter_number x), four_zeros (letter_number x))

-- three letters are two bytes and two bits
pub rest_of_three : (w x y : ℕ) → HasZeroRest (w ∷ x ∷ y ∷ []) ↔ (letter_number y % 4 ≡ 0)
unfolding letter_bits
rest_of_three w x y = (two_zeros_only (letter_number y), two_zeros (letter_number y))

pub rest_of_none : HasZeroRest []
unfolding letter_bits
rest_of_none k d lt = absurd (omega arith)

-- a text of whole groups of four has no rest
pub whole_rest : (text : List ℕ) → length text % 4 ≡ 0 → HasZeroRest text
whole_rest [] h = rest_of_none
whole_rest (w ∷ []) h = absurd (omega arith)
whole_rest (w ∷ x ∷ []) h = absurd (omega arith)
whole_rest (w ∷ x ∷ y ∷ []) h = absurd (omega arith)
whole_rest (w ∷ x ∷ y ∷ z ∷ text) h =
    rw (unused_bits-four w x y z text) (whole_rest text (omega arith))

-- the rest of a text of two letters past the groups of four
pub two_rest : (text : List ℕ) → length text % 4 ≡ 2 → HasZeroRest text ↔ (letter_number (slice_index text (length text - 1)) % 16 ≡ 0)
two_rest [] h = absurd (omega arith)
two_rest (w ∷ []) h = absurd (omega arith)
two_rest (w ∷ x ∷ []) h = rest_of_two w x
two_rest (w ∷ x ∷ y ∷ []) h = absurd (omega arith)
two_rest (w ∷ x ∷ y ∷ z ∷ text) h =
    rw (unused_bits-four w x y z text, last-four w x y z text (omega arith)) (two_rest text (omega arith))

-- the rest of a text of three letters past the groups of four
pub three_rest : (text : List ℕ) → length text % 4 ≡ 3 → HasZeroRest text ↔ (letter_number (slice_index text (length text - 1)) % 4 ≡ 0)
three_rest [] h = absurd (omega arith)
three_rest (w ∷ []) h = absurd (omega arith)
three_rest (w ∷ x ∷ []) h = absurd (omega arith)
three_rest (w ∷ x ∷ y ∷ []) h = rest_of_three w x y
three_rest (w ∷ x ∷ y ∷ z ∷ text) h =
    rw (unused_bits-four w x y z text, last-four w x y z text (omega arith)) (three_rest text (omega arith))
