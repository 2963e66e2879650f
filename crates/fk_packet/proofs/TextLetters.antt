-- The letters of texts, and the ten that begin the text of all sealed bytes.
use Rattle.std.proofs.Common.{◌≡◌, ℕ, ◌+◌, ◌/◌, ◌%◌, ◌-◌, ◌<◌, ◌≤◌, Bool, true, false, not, List, [], ◌∷◌, ◌++◌, length, map, take, drop, get_or, Option, Some, None, refl, sym, ap, ◌∙◌, inl, inr, arith}
use Rattle.std.specs.Prelude.{◌==◌, nat_eq, nat_lt, cond, MatchOption}
use Rattle.std.specs.List.{AllByRecursion, list_all, position, position_or_len, prefix_len, starts_with}
use Rattle.std.proofs.lemmas.Bool.{cases_Bool, cases_lt, ltb-false, ltb-true, lt-ltb, ne_eqb, not-true}
use Rattle.std.proofs.lemmas.Bool.Decides.{nat_tests}
use Rattle.std.proofs.lemmas.List.{get_or-drop}
use Rattle.std.proofs.lemmas.List.Folds.{list_all_at}
use Rattle.std.proofs.lemmas.List.Sums.{AllPass-from_list_all, list_all-from_AllPass, prefix_len-le-length, prefix_len_passes, prefix_len_stops}
use Rattle.fk_text.specs.Found.{is_letter}
use Rattle.fk_text.specs.Text.{alphabet, bits_of, group_numbers, letter_of, six_number, text_of}
use Rattle.fk_text.specs.TextFault.{letter_number}
use Rattle.fk_text.proofs.Letters.{letter_number-letter_of, letter_number_is}
use Rattle.fk_cbc.specs.Seals.{salt_mark}
use Rattle.fk_packet.specs.Shape.{prefix}

-- whether a byte is a letter, by the ranges of the alphabet
pub ruleset by_ranges = (nat_tests, letter_number_is)

-- the first byte that is no letter

number_at_most : (c : ℕ) → letter_number c ≤ 64
unfolding letter_number
number_at_most c = prefix_len-le-length (λ x. not (x == c)) alphabet

below : (n : ℕ) → n ≤ 64 → not (n == 64) ≡ nat_lt n 64
below n most = elim (cases_lt n 64) [
  | inl lt ↦
      let ne : (n == 64) ≡ false = ne_eqb n 64 (λ e. let no : ⊥ = omega arith in no) in
      rw (ne, lt-ltb n 64 lt) refl
  | inr past ↦
      let is : n ≡ 64 = omega arith in
      rw is refl
]

same_test : (c : ℕ) → not (letter_number c == 64) ≡ is_letter c
same_test c = below (letter_number c) (number_at_most c)

prefix_same : (p q : ℕ → Bool) → ((x : ℕ) → p x ≡ q x) → (xs : List ℕ) → prefix_len p xs ≡ prefix_len q xs
prefix_same p q same [] = refl
prefix_same p q same (x ∷ xs) = rw (same x, prefix_same p q same xs) refl

no_place : (n len : ℕ) → cond (nat_lt n len) (Some n) None ≡ None → len ≤ n
no_place n len e =
    elim (cases_Bool (nat_lt n len)) [ inl in' ↦ absurd (let f : Some n ≡ None = rw in' at e in cc) | inr out ↦ ltb-false n len out ]

some_place : (n len at : ℕ) → cond (nat_lt n len) (Some n) None ≡ Some at → (n < len) × (n ≡ at)
some_place n len at e = elim (cases_Bool (nat_lt n len)) [
  | inl in' ↦ (ltb-true n len in', let f : Some n ≡ Some at = rw in' at e in cc)
  | inr out ↦ absurd (let f : None ≡ Some at = rw out at e in cc)
]

all_letters : (xs : List ℕ) → position (λ c. letter_number c == 64) xs ≡ None → list_all is_letter xs ≡ true
all_letters xs none =
    let past = no_place (position_or_len (λ c. letter_number c == 64) xs) (length xs) none in
    let same = prefix_same (λ c. not (letter_number c == 64)) is_letter same_test xs in
    list_all-from_AllPass is_letter xs (λ k d lt. prefix_len_passes is_letter xs k d (omega arith))

first_other : (xs : List ℕ) (at : ℕ) → position (λ c. letter_number c == 64) xs ≡ Some at → (list_all is_letter xs ≡ false) × (prefix_len is_letter xs ≡ at)
first_other xs at some =
    let place = some_place (position_or_len (λ c. letter_number c == 64) xs) (length xs) at some in
    let same = prefix_same (λ c. not (letter_number c == 64)) is_letter same_test xs in
    let inside : prefix_len is_letter xs < length xs = omega (arith, place.0) in
    (list_all_at is_letter xs (prefix_len is_letter xs) 0 inside (prefix_len_stops is_letter xs 0 inside), sym same ∙ place.1)

pub first_other_is : (xs : List ℕ) (found : Option ℕ) → found ≡ position (λ c. letter_number c == 64) xs
    → MatchOption found (list_all is_letter xs ≡ true) (λ place. (list_all is_letter xs ≡ false) × (prefix_len is_letter xs ≡ place))
first_other_is xs None none = all_letters xs (sym none)
first_other_is xs (Some at) some = first_other xs at (sym some)

-- each letter of a text

bits_small : (bytes : List ℕ) → AllByRecursion (λ b. b < 2) (bits_of bytes)
unfolding bits_of
bits_small [] = tt
bits_small (b ∷ bytes) =
    let rest = bits_small bytes in
    (omega arith, (omega arith, (omega arith, (omega arith, (omega arith, (omega arith, (omega arith, (omega arith, rest))))))))

groups_small : (bits : List ℕ) → AllByRecursion (λ b. b < 2) bits → AllByRecursion (λ n. n < 64) (group_numbers bits)
unfolding group_numbers
groups_small [] small = tt
groups_small (a ∷ []) small = let s = small.0 in (omega arith, tt)
groups_small (a ∷ b ∷ []) small = let s = small.0 in let t = small.1.0 in (omega arith, tt)
groups_small (a ∷ b ∷ c ∷ []) small = let s = small.0 in let t = small.1.0 in let u = small.1.1.0 in (omega arith, tt)
groups_small (a ∷ b ∷ c ∷ d ∷ []) small =
    let s = small.0 in let t = small.1.0 in let u = small.1.1.0 in let v = small.1.1.1.0 in (omega arith, tt)
groups_small (a ∷ b ∷ c ∷ d ∷ e ∷ []) small =
    let s = small.0 in let t = small.1.0 in let u = small.1.1.0 in let v = small.1.1.1.0 in let w = small.1.1.1.1.0 in (omega arith, tt)
groups_small (a ∷ b ∷ c ∷ d ∷ e ∷ f ∷ bits) small =
    let s = small.0 in let t = small.1.0 in let u = small.1.1.0 in let v = small.1.1.1.0 in let w = small.1.1.1.1.0 in let x = small.1.1.1.1.1.0 in
    (omega arith, groups_small bits small.1.1.1.1.1.1)

letters_of_numbers : (ns : List ℕ) → AllByRecursion (λ n. n < 64) ns → list_all is_letter (map letter_of ns) ≡ true
letters_of_numbers [] small = refl
letters_of_numbers (n ∷ ns) small =
    let is : is_letter (letter_of n) ≡ true = ap (λ k. nat_lt k 64) (letter_number-letter_of n small.0) ∙ lt-ltb n 64 small.0 in
    rw (is, letters_of_numbers ns small.1) refl

pub letters_of_text : (bytes : List ℕ) → list_all is_letter (text_of bytes) ≡ true
unfolding text_of
letters_of_text bytes = letters_of_numbers (group_numbers (bits_of bytes)) (groups_small (bits_of bytes) (bits_small bytes))

-- the front of the text of sealed bytes

pub front_letters : (rest : List ℕ) → take 10 (text_of (salt_mark ++ rest)) ≡ prefix
unfolding text_of bits_of group_numbers
front_letters rest = refl

-- the last four letters of the alphabet are not the first of the prefix
late_letter : (n : ℕ) → 60 ≤ n → n < 64 → nat_eq 85 (letter_of n) ≡ false
late_letter n least most =
    let all = AllPass-from_list_all (λ c. not (nat_eq 85 c)) (drop 60 alphabet) refl (n - 60) 0 (omega arith) in
    let place : 60 + (n - 60) ≡ n = omega arith in
    let same : get_or (drop 60 alphabet) (n - 60) 0 ≡ letter_of n = get_or-drop 60 alphabet (n - 60) 0 ∙ ap letter_of place in
    ap (nat_eq 85) (sym same) ∙ not-true (nat_eq 85 (get_or (drop 60 alphabet) (n - 60) 0)) all

-- what follows the ten letters does not begin with them
pub behind_prefix : (s : ℕ) (rest back : List ℕ) → starts_with nat_eq (drop 10 (text_of (salt_mark ++ s ∷ rest)) ++ back) prefix ≡ false
unfolding text_of bits_of group_numbers
behind_prefix s rest back =
    let n = six_number 1 1 1 1 (s / 128 % 2) (s / 64 % 2) in
    let late : nat_eq 85 (letter_of n) ≡ false = late_letter n (omega arith) (omega arith) in
    rw late refl
