-- What the tests of a number's text say of its digits.
use Rattle.std.proofs.Common.{◌++◌, ◌/◌, ◌%◌, length-append, append_assoc, inl, inr, ◌≡◌, ℕ, ◌+◌, ◌-◌, ◌*◌, ◌^◌, ◌<◌, ◌≤◌, true, false, not, cond, List, ◌∷◌, length, get_or, take, Option, Some, None, refl, sym, ◌∙◌, ap, arith}
use Rattle.std.specs.Prelude.{nat_lt, ◌==◌, Result, Ok, Err, IfOk, MatchResult}
use Rattle.std.specs.Int.{IsInRange}
use Rattle.std.specs.List.{position_or_len}
use Rattle.std.specs.Char.{is_ascii_digit, digit_value}
use Rattle.std.specs.Fmt.{decimal}
use Rattle.std.specs.Str.Parse.{AllDigits, digits_value}
use Rattle.std.proofs.lemmas.Bool.{ltb-false, le-ltb, ne_eqb, eqb-false, cases_Bool, cases_lt}
use Rattle.std.proofs.lemmas.Bool.Decides.{nat_tests}
use Rattle.std.proofs.lemmas.List.Sums.{prefix_len_passes, prefix_len_is}
use Rattle.std.proofs.lemmas.Fmt.{digits_decimal, digits_value-decimal, decimal-digits_value, decimal_nonempty, first_decimal, decimal_digit, decimal_step}
use Rattle.std.proofs.lemmas.Str.Parse.{IsNumeralModel, numerals_by_value, tells_by_index, digits_value-take-le}
use Rattle.std.proofs.lemmas.Int.Digits.{digits_value_more}
use Rattle.fk_base.specs.Decimal.{decimal_value, first_non_digit, first_num_fault, digits_fault, has_leading_zero}
use Rattle.fk_base.specs.declared.decimal.NumFault.{NumFault}

-- where the test finds no place, it passes nowhere
none_from_position : (n len : ℕ) → cond (nat_lt n len) (Some n) None ≡ None → len ≤ n
none_from_position n len e =
    elim (cases_Bool (nat_lt n len)) [ inl below ↦ absurd (let f = rw below at e in cc) | inr above ↦ ltb-false n len above ]

digit_from_tests : (c : ℕ) → not (not (is_ascii_digit c)) ≡ true → IsInRange 48 57 c
digit_from_tests c e = grind (arith, nat_tests)

pub digit_at : (ds : List ℕ) (k : ℕ) → first_non_digit ds ≡ None → k < length ds → IsInRange 48 57 (get_or ds k 0)
digit_at ds k none within =
    let all = none_from_position (position_or_len (λ c. not (is_ascii_digit c)) ds) (length ds) none in
    digit_from_tests (get_or ds k 0) (prefix_len_passes (λ c. not (not (is_ascii_digit c))) ds k 0 (omega arith))

-- the digits' value is std's, with std's test for digits
pub numerals : IsNumeralModel (λ ds. (k : ℕ) → k < length ds → IsInRange 48 57 (get_or ds k 0)) (digits_value 10)
numerals = numerals_by_value _ tells_by_index

pub all_digits : (ds : List ℕ) → first_non_digit ds ≡ None → AllDigits 10 ds
all_digits ds none = numerals.to ds (λ k within. digit_at ds k none within)

digit_value_is : (c : ℕ) → IsInRange 48 57 c → digit_value c ≡ c - 48
digit_value_is c h = grind (arith, nat_tests)

-- one more digit
pub value_more : (ds : List ℕ) (i : ℕ) → first_non_digit ds ≡ None → i < length ds →
    decimal_value (take (i + 1) ds) ≡ decimal_value (take i ds) * 10 + (get_or ds i 0 - 48)
value_more ds i none within =
    digits_value_more 10 ds i within ∙ ap (λ d. decimal_value (take i ds) * 10 + d) (digit_value_is (get_or ds i 0) (digit_at ds i none within))

-- a front's value is at most that of the whole
pub value_front : (ds : List ℕ) (i : ℕ) → decimal_value (take i ds) ≤ decimal_value ds
value_front ds i = digits_value-take-le 10 ds i (omega arith)

-- what a text of which no test fails is
pub record IsNumberText (limit : ℕ) (text : List ℕ) : Type 0 where
  pub some : 0 < length text
  pub digits : first_non_digit text ≡ None
  pub front : has_leading_zero text ≡ false
  pub fits : decimal_value text ≤ limit

after_digits : (limit : ℕ) (text : List ℕ) → 0 < length text → (place : Option ℕ) → first_non_digit text ≡ place →
    digits_fault limit text place ≡ None → IsNumberText limit text
after_digits limit text some (Some place) is none = absurd (cc)
after_digits limit text some None is none =
    elim (cases_Bool (has_leading_zero text)) [
      | inl zero ↦ absurd (let f = rw zero at none in cc)
      | inr front ↦ elim (cases_Bool (nat_lt limit (decimal_value text))) [
        | inl large ↦ absurd (let f = rw (front, large) at none in cc)
        | inr fits ↦ record { some = some; digits = is; front = front; fits = ltb-false limit (decimal_value text) fits }
      ]
    ]

pub number_text : (limit : ℕ) (text : List ℕ) → first_num_fault limit text ≡ None → IsNumberText limit text
number_text limit text none =
    elim (cases_Bool (length text == 0)) [
      | inl empty ↦ absurd (let f = rw empty at none in cc)
      | inr some ↦ after_digits limit text (let ne = eqb-false (length text) 0 some in omega arith) (first_non_digit text) refl (rw some at none)
    ]

pub no_fault : (limit : ℕ) (text : List ℕ) → IsNumberText limit text → first_num_fault limit text ≡ None
no_fault limit text is =
    rw (ne_eqb (length text) 0 (let some = is.some in omega arith), is.digits, is.front, le-ltb limit (decimal_value text) is.fits) refl

pub only_zero : (text : List ℕ) → 0 < length text → has_leading_zero text ≡ false → get_or text 0 0 ≡ 48 → length text ≡ 1
only_zero text some front zero = grind (arith, nat_tests)

-- a text that passes the tests is the one text of its value
pub decimal-decimal_value : (limit : ℕ) (text : List ℕ) → limit < 2 ^ 64 → first_num_fault limit text ≡ None →
    text ≡ decimal (decimal_value text)
decimal-decimal_value limit text small none =
    let is = number_text limit text none in
    let fits = is.fits in
    sym (decimal-digits_value numerals text (λ k within. digit_at text k is.digits within) is.some
    (λ zero. only_zero text is.some is.front zero) (omega arith))

tests_from_digit : (c : ℕ) → IsInRange 48 57 c → not (not (is_ascii_digit c)) ≡ true
tests_from_digit c h = grind (arith, nat_tests)

no_place : (ds : List ℕ) → ((k : ℕ) → k < length ds → IsInRange 48 57 (get_or ds k 0)) → first_non_digit ds ≡ None
no_place ds all =
    let at_end : position_or_len (λ c. not (is_ascii_digit c)) ds ≡ length ds =
    prefix_len_is (λ c. not (not (is_ascii_digit c))) ds (length ds) 0 (omega arith) (λ k within. tests_from_digit (get_or ds k 0) (all k within)) (λ past. absurd (omega arith)) in
    rw (at_end, le-ltb (length ds) (length ds) (omega arith)) refl

pub decimal_value-decimal : (n : ℕ) → n < 2 ^ 64 → decimal_value (decimal n) ≡ n
decimal_value-decimal n small = digits_value-decimal numerals n small

pub front_of_decimal : (n : ℕ) → n < 2 ^ 64 → has_leading_zero (decimal n) ≡ false
front_of_decimal n small = elim (cases_lt 0 n) [
  | inl some ↦ let first = first_decimal n some small in grind (arith, nat_tests)
  | inr zero ↦ let is : n ≡ 0 = omega arith in rw (is, decimal_digit 0 (omega arith)) refl
]

pub digits_of_decimal : (n : ℕ) → n < 2 ^ 64 → first_non_digit (decimal n) ≡ None
digits_of_decimal n small = no_place (decimal n) (digits_decimal numerals n small)

-- the text of a number passes the tests
pub first_num_fault-decimal : (limit n : ℕ) → n ≤ limit → n < 2 ^ 64 → first_num_fault limit (decimal n) ≡ None
first_num_fault-decimal limit n fits small =
    no_fault limit (decimal n) (record {
      some = decimal_nonempty n small;
      digits = digits_of_decimal n small;
      front = front_of_decimal n small;
      fits = rw (decimal_value-decimal n small) fits;
    })

pub decimal_has_no_fault : (limit n : ℕ) (text : List ℕ) (fault : NumFault) → n ≤ limit → limit < 2 ^ 64 → text ≡ decimal n →
    first_num_fault limit text ≡ Some fault → ⊥
decimal_has_no_fault limit n text fault fits small is failed =
    let none = first_num_fault-decimal limit n fits (omega arith) in
    let same = ap (first_num_fault limit) is in
    cc

-- a result that names the first failed test, or else the value, is a number exactly on the number's text
pub IfOk-decimal : (limit : ℕ) (text : List ℕ) (r : Result ℕ NumFault) → limit < 2 ^ 64 →
    IfOk r (λ n. n ≡ decimal_value text) →
    MatchResult r (λ _. first_num_fault limit text ≡ None) (λ fault. first_num_fault limit text ≡ Some fault) →
    IfOk r (λ n. text ≡ decimal n)
IfOk-decimal limit text (Ok n) small value none = decimal-decimal_value limit text small none ∙ ap decimal (sym value)
IfOk-decimal limit text (Err fault) small value is = tt

pub Ok-decimal : (limit : ℕ) (text : List ℕ) (r : Result ℕ NumFault) → limit < 2 ^ 64 →
    IfOk r (λ n. n ≡ decimal_value text) →
    MatchResult r (λ _. first_num_fault limit text ≡ None) (λ fault. first_num_fault limit text ≡ Some fault) →
    (n : ℕ) → n ≤ limit → text ≡ decimal n → r ≡ Ok n
Ok-decimal limit text (Ok v) small value none n fits is =
    ap (λ (k : ℕ). Ok k) (value ∙ ap decimal_value is ∙ decimal_value-decimal n (omega arith))
Ok-decimal limit text (Err fault) small value failed n fits is =
    absurd (decimal_has_no_fault limit n text fault fits small is failed)

-- a digit more fits before a text, where the whole fits
pub room_for_digit : (n v room : ℕ) (text end : List ℕ) → n < 2 ^ 64 → decimal n ++ text ≡ decimal v ++ end →
    length (decimal v) + length end ≤ room → length text < room
room_for_digit n v room text end small same fits =
    let lengths : length (decimal n) + length text ≡ length (decimal v) + length end = simp length-append at (ap length same) in
    let some = decimal_nonempty n small in
    omega arith

-- the last digit goes from the number to the text behind it
pub decimal-move_digit : (n : ℕ) (text : List ℕ) → 10 ≤ n → n < 2 ^ 64 →
    decimal (n / 10) ++ ((48 + n % 10) ∷ text) ≡ decimal n ++ text
decimal-move_digit n text large small = rw (decimal_step n large small) (sym (simp append_assoc))

pub decimal_one_digit : (n : ℕ) (text : List ℕ) → n < 10 → (48 + n) ∷ text ≡ decimal n ++ text
decimal_one_digit n text small = rw (decimal_digit n small) refl
