-- A text, cut from one list of bits, is what RFC 4648 does with three bytes at a time.
use Rattle.std.proofs.Common.{length, ◌≡◌, ℕ, suc, ◌+◌, ◌*◌, ◌/◌, ◌%◌, ◌==◌, ◌<◌, List, [], ◌∷◌, map, refl, sym, ap, ◌∙◌, arith}
use Rattle.std.proofs.lemmas.Bool.{eqb-true}
use Rattle.std.proofs.lemmas.List.{append-nil, length-map}
use Rattle.base64.specs.Rfc4648.{encode_symbols}
use Rattle.base64.specs.GeneralPurpose.{encode_of}
use Rattle.base64.specs.Engines.{standard_no_pad}
use Rattle.base64.proofs.Tables.{all_below_at}
use Rattle.fk_base.specs.Bytes.{IsBytes}
use Rattle.fk_text.specs.Text.{alphabet, letter_of, six_number, bits_of, group_numbers, text_of}

-- six bits of one byte, as a number
high_six : (a : ℕ) → a < 256 → six_number (a / 128 % 2) (a / 64 % 2) (a / 32 % 2) (a / 16 % 2) (a / 8 % 2) (a / 4 % 2) ≡ a / 4
high_six a lt = eqb-true _ _ (all_below_at (λ a. six_number (a / 128 % 2) (a / 64 % 2) (a / 32 % 2) (a / 16 % 2) (a / 8 % 2) (a / 4 % 2) == a / 4) 256 a refl lt)

low_two : (a : ℕ) → a < 256 → 32 * (a / 2 % 2) + 16 * (a % 2) ≡ a % 4 * 16
low_two a lt = eqb-true _ _ (all_below_at (λ a. 32 * (a / 2 % 2) + 16 * (a % 2) == a % 4 * 16) 256 a refl lt)

high_four : (b : ℕ) → b < 256 → 8 * (b / 128 % 2) + 4 * (b / 64 % 2) + 2 * (b / 32 % 2) + b / 16 % 2 ≡ b / 16
high_four b lt = eqb-true _ _ (all_below_at (λ b. 8 * (b / 128 % 2) + 4 * (b / 64 % 2) + 2 * (b / 32 % 2) + b / 16 % 2 == b / 16) 256 b refl lt)

low_four : (b : ℕ) → b < 256 → 32 * (b / 8 % 2) + 16 * (b / 4 % 2) + 8 * (b / 2 % 2) + 4 * (b % 2) ≡ b % 16 * 4
low_four b lt = eqb-true _ _ (all_below_at (λ b. 32 * (b / 8 % 2) + 16 * (b / 4 % 2) + 8 * (b / 2 % 2) + 4 * (b % 2) == b % 16 * 4) 256 b refl lt)

high_two : (c : ℕ) → c < 256 → 2 * (c / 128 % 2) + c / 64 % 2 ≡ c / 64
high_two c lt = eqb-true _ _ (all_below_at (λ c. 2 * (c / 128 % 2) + c / 64 % 2 == c / 64) 256 c refl lt)

low_six : (c : ℕ) → c < 256 → six_number (c / 32 % 2) (c / 16 % 2) (c / 8 % 2) (c / 4 % 2) (c / 2 % 2) (c % 2) ≡ c % 64
low_six c lt = eqb-true _ _ (all_below_at (λ c. six_number (c / 32 % 2) (c / 16 % 2) (c / 8 % 2) (c / 4 % 2) (c / 2 % 2) (c % 2) == c % 64) 256 c refl lt)

second : (a b : ℕ) → a < 256 → b < 256
    → six_number (a / 2 % 2) (a % 2) (b / 128 % 2) (b / 64 % 2) (b / 32 % 2) (b / 16 % 2) ≡ a % 4 * 16 + b / 16
second a b la lb = omega (arith, low_two a la, high_four b lb)

second_last : (a : ℕ) → a < 256 → six_number (a / 2 % 2) (a % 2) 0 0 0 0 ≡ a % 4 * 16
second_last a la = omega (arith, low_two a la)

third : (b c : ℕ) → b < 256 → c < 256
    → six_number (b / 8 % 2) (b / 4 % 2) (b / 2 % 2) (b % 2) (c / 128 % 2) (c / 64 % 2) ≡ b % 16 * 4 + c / 64
third b c lb lc = omega (arith, low_four b lb, high_two c lc)

third_last : (b : ℕ) → b < 256 → six_number (b / 8 % 2) (b / 4 % 2) (b / 2 % 2) (b % 2) 0 0 ≡ b % 16 * 4
third_last b lb = omega (arith, low_four b lb)

-- the numbers of the symbols, three bytes at a time
unfoldable pub numbers_of : List ℕ → List ℕ
numbers_of [] = []
numbers_of (a ∷ []) = a / 4 ∷ a % 4 * 16 ∷ []
numbers_of (a ∷ b ∷ []) = a / 4 ∷ (a % 4 * 16 + b / 16) ∷ b % 16 * 4 ∷ []
numbers_of (a ∷ b ∷ c ∷ bytes) = a / 4 ∷ (a % 4 * 16 + b / 16) ∷ (b % 16 * 4 + c / 64) ∷ c % 64 ∷ numbers_of bytes

-- the groups of the bits have these numbers
pub group_numbers-bits_of : (bytes : List ℕ) → IsBytes bytes → group_numbers (bits_of bytes) ≡ numbers_of bytes
unfolding group_numbers bits_of numbers_of
group_numbers-bits_of [] h = refl
group_numbers-bits_of (a ∷ []) h = rw (high_six a (h 0), second_last a (h 0)) refl
group_numbers-bits_of (a ∷ b ∷ []) h =
    rw (high_six a (h 0), second a b (h 0) (h 1), third_last b (h 1)) refl
group_numbers-bits_of (a ∷ b ∷ c ∷ bytes) h =
    rw (
      high_six a (h 0),
      second a b (h 0) (h 1),
      third b c (h 1) (h 2),
      low_six c (h 2),
      group_numbers-bits_of bytes (λ i. h (suc (suc (suc i)))),
    ) refl

symbols_by_number : (bytes : List ℕ) → encode_symbols alphabet bytes ≡ map letter_of (numbers_of bytes)
unfolding encode_symbols numbers_of
symbols_by_number [] = refl
symbols_by_number (a ∷ []) = refl
symbols_by_number (a ∷ b ∷ []) = refl
symbols_by_number (a ∷ b ∷ c ∷ bytes) = rw (symbols_by_number bytes) refl

-- the letters of these numbers are the text
pub text_of-numbers : (bytes : List ℕ) → IsBytes bytes → text_of bytes ≡ map letter_of (numbers_of bytes)
unfolding text_of
text_of-numbers bytes h = ap (λ ns. map letter_of ns) (group_numbers-bits_of bytes h)

-- the text is what the engine with the standard alphabet and without padding writes
pub text_of-encode_of : (bytes : List ℕ) → IsBytes bytes → text_of bytes ≡ encode_of standard_no_pad bytes
text_of-encode_of bytes h =
    text_of-numbers bytes h ∙ sym (symbols_by_number bytes) ∙ sym (append-nil (encode_symbols alphabet bytes))

-- eight bits for each byte
length-bits_of : (bytes : List ℕ) → length (bits_of bytes) ≡ 8 * length bytes
unfolding bits_of
length-bits_of [] = refl
length-bits_of (b ∷ bytes) =
    let others = length-bits_of bytes in
    omega arith

-- a number for each six bits begun
length-group_numbers : (bits : List ℕ) → length (group_numbers bits) ≡ (length bits + 5) / 6
unfolding group_numbers
length-group_numbers [] = refl
length-group_numbers (a ∷ []) = refl
length-group_numbers (a ∷ b ∷ []) = refl
length-group_numbers (a ∷ b ∷ c ∷ []) = refl
length-group_numbers (a ∷ b ∷ c ∷ d ∷ []) = refl
length-group_numbers (a ∷ b ∷ c ∷ d ∷ e ∷ []) = refl
length-group_numbers (a ∷ b ∷ c ∷ d ∷ e ∷ f ∷ bits) =
    let others = length-group_numbers bits in
    omega arith

-- a letter for each six bits begun
pub length-text_of : (bytes : List ℕ) → length (text_of bytes) ≡ (8 * length bytes + 5) / 6
unfolding text_of
length-text_of bytes =
    let b = length-bits_of bytes in
    let g = length-group_numbers (bits_of bytes) in
    length-map (group_numbers (bits_of bytes)) letter_of ∙ omega arith
