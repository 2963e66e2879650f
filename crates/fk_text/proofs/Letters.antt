-- A letter and its number.
use Rattle.std.proofs.Common.{◌≡◌, ◌≢◌, ℕ, ◌+◌, ◌-◌, ◌==◌, ◌<◌, ◌≤◌, nat_le, ◌&&◌, cond, refl, sym, ap, ◌∙◌, arith}
use Rattle.std.proofs.lemmas.Bool.{eqb-true, leb-true}
use Rattle.std.proofs.lemmas.List.Sums.{passes_at_first}
use Rattle.std.proofs.lemmas.List.{get_or_default}
use Rattle.base64.proofs.Tables.{all_below_at}
use Rattle.fk_text.specs.Text.{alphabet, letter_of}
use Rattle.fk_text.specs.TextFault.{IsLetter, letter_number}

-- the number by the ranges of RFC 4648's table 1
abbrev pub number_by_range : ℕ → ℕ
number_by_range c =
    cond (nat_le 65 c && nat_le c 90) (c - 65)
    (cond (nat_le 97 c && nat_le c 122) (c - 97 + 26)
    (cond (nat_le 48 c && nat_le c 57) (c - 48 + 52)
    (cond (c == 43) 62 (cond (c == 47) 63 64))))

pub letter_number_is : (c : ℕ) → c < 256 → letter_number c ≡ number_by_range c
unfolding letter_number
letter_number_is c lt =
    eqb-true (letter_number c) (number_by_range c)
    (all_below_at (λ x. letter_number x == number_by_range x) 256 c refl lt)

-- a number's letter has that number
pub letter_number-letter_of : (n : ℕ) → n < 64 → letter_number (letter_of n) ≡ n
unfolding letter_number
letter_number-letter_of n lt =
    eqb-true (letter_number (letter_of n)) n
    (all_below_at (λ x. letter_number (letter_of x) == x) 64 n refl lt)

-- a number below 64 is that of a letter
pub number_of_letter : (c : ℕ) → letter_number c < 64 → letter_of (letter_number c) ≡ c
unfolding letter_number
number_of_letter c lt = eqb-true _ _ (passes_at_first (λ x. x == c) alphabet 0 lt)

-- the letters are exactly the bytes with a number below 64
pub letter_from_number : (c : ℕ) → letter_number c < 64 → IsLetter c
letter_from_number c lt =
    (letter_number c, lt, get_or_default alphabet (letter_number c) c 0 lt ∙ number_of_letter c lt)

pub letter_number_below : (c : ℕ) → IsLetter c → letter_number c < 64
letter_number_below c (k, lt, is) =
    let e : letter_of k ≡ c = get_or_default alphabet k 0 c lt ∙ is in
    let n : letter_number c ≡ k = ap letter_number (sym e) ∙ letter_number-letter_of k lt in
    omega arith

-- each number is at most 64
pub letter_number_top : (c : ℕ) → c < 256 → letter_number c ≤ 64
unfolding letter_number
letter_number_top c lt =
    leb-true (letter_number c) 64 (all_below_at (λ x. nat_le (letter_number x) 64) 256 c refl lt)

pub IsLetter_unless : (c : ℕ) → c < 256 → letter_number c ≢ 64 → IsLetter c
IsLetter_unless c lt ne = letter_from_number c (omega (arith, letter_number_top c lt))
