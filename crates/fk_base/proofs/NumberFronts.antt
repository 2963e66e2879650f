-- The longest front of a text that can begin a number.
use Rattle.std.proofs.Common.{◌≡◌, ℕ, ◌+◌, ◌-◌, ◌*◌, ◌/◌, ◌%◌, ◌^◌, ◌<◌, ◌≤◌, List, [], ◌∷◌, ◌++◌, length, get_or, take, drop, inl, inr, refl, sym, ◌∙◌, ap, subst, arith, length-append, append_assoc, None}
use Rattle.std.specs.Int.{IsInRange}
use Rattle.std.specs.Fmt.{decimal}
use Rattle.std.proofs.lemmas.Bool.{cases_lt}
use Rattle.std.proofs.lemmas.Fmt.{decimal_digit, decimal_step, decimal_nonempty, first_decimal}
use Rattle.std.proofs.lemmas.List.{append-nil, take_more, take_at, get_or_at, take_rest}
use Rattle.fk_base.specs.Decimal.{decimal_value, first_non_digit}
use Rattle.fk_base.specs.Shape.{CanBegin, IsLongestFront}
use Rattle.fk_base.specs.Private.{IsNumberFront, IsNumberText, IsRestFault}
use Rattle.fk_base.proofs.Numerals.{decimal_value-decimal, digits_of_decimal, digit_at, value_more, value_front, front_of_decimal, only_zero}
use Rattle.fk_base.proofs.Fronts.{longest_from_dead, wrong_from_longest, IsRestFault-slice}

-- what a number's front and the byte behind it must be
pub record CanGrow (most value byte : ℕ) : Type 0 where
  pub some : 0 < value
  pub digit : IsInRange 48 57 byte
  pub fits : value * 10 + (byte - 48) ≤ most

-- no number's text has a zero in front of another byte
zero_grows : (v n c : ℕ) (rest : List ℕ) → v ≡ 0 → n < 2 ^ 64 → decimal v ++ (c ∷ rest) ≡ decimal n → ⊥
zero_grows v n c rest none small same =
    let text : decimal v ≡ 48 ∷ [] = ap decimal none ∙ decimal_digit 0 (omega arith) in
    let whole : decimal n ≡ 48 ∷ (c ∷ rest) = sym same ∙ ap (λ (x : List ℕ). x ++ (c ∷ rest)) text in
    let one : length (decimal n) ≡ 1 = only_zero (decimal n) (decimal_nonempty n small) (front_of_decimal n small) (ap (λ (x : List ℕ). get_or x 0 0) whole) in
    let two = ap length whole in
    omega arith

-- a front of a number's text, one byte longer than the text of another
grows : (v c n : ℕ) (rest : List ℕ) (most : ℕ) → v < 2 ^ 64 → n ≤ most → most < 2 ^ 64 →
    decimal v ++ (c ∷ rest) ≡ decimal n → CanGrow most v c
grows v c n rest most small fits bound same =
    let digits : first_non_digit (decimal n) ≡ None = digits_of_decimal n (omega arith) in
    let at : get_or (decimal n) (length (decimal v)) 0 ≡ c =
    ap (λ (x : List ℕ). get_or x (length (decimal v)) 0) (sym same) ∙ get_or_at (decimal v) c rest 0 (length (decimal v)) refl in
    let within : length (decimal v) < length (decimal n) =
    (let both = length-append (decimal v) (c ∷ rest) in let size = ap length same in omega arith) in
    let digit : IsInRange 48 57 c = subst (IsInRange 48 57) at (digit_at (decimal n) (length (decimal v)) digits within) in
    let front : take (length (decimal v)) (decimal n) ≡ decimal v =
    ap (take (length (decimal v))) (sym same) ∙ take_at (decimal v) (c ∷ rest) (length (decimal v)) refl in
    let value = decimal_value-decimal v small in
    let step = value_more (decimal n) (length (decimal v)) digits within in
    let step' : decimal_value (take (length (decimal v) + 1) (decimal n)) ≡ v * 10 + (c - 48) =
    step ∙ rw (front, value, at) refl in
    let whole = value_front (decimal n) (length (decimal v) + 1) in
    let is = decimal_value-decimal n (omega arith) in
    record {
      some = elim (cases_lt 0 v) [ inl some ↦ some | inr none ↦ absurd (zero_grows v n c rest (omega arith) (omega arith) same) ];
      digit = digit;
      fits = omega arith;
    }

-- a byte that begins the text of a number
begins : (c n least : ℕ) (rest : List ℕ) → n < 2 ^ 64 → least ≤ 1 → least ≤ n → c ∷ rest ≡ decimal n →
    IsInRange 48 57 c × (least ≤ c - 48)
begins c n least rest small low above same =
    let at : get_or (decimal n) 0 0 ≡ c = ap (λ (x : List ℕ). get_or x 0 0) (sym same) in
    let digit : IsInRange 48 57 c =
    subst (IsInRange 48 57) at (digit_at (decimal n) 0 (digits_of_decimal n small) (decimal_nonempty n small)) in
    elim (cases_lt 0 n) [
      | inl some ↦ (digit, (let first = first_decimal n some small in omega arith))
      | inr none ↦ (digit, omega arith)
    ]

nothing_begins : (least most : ℕ) → least ≤ 1 → 9 ≤ most → CanBegin (IsNumberText least most) []
nothing_begins least most low high = (decimal 1, (1, low, omega arith, refl))

-- a text that begins with no digit, or with one that is too low
pub no_number : (least most : ℕ) (text : List ℕ) → least ≤ 1 → 9 ≤ most → most < 2 ^ 64 →
    (0 < length text → IsInRange 48 57 (get_or text 0 0) × (least ≤ get_or text 0 0 - 48) → ⊥) →
    IsLongestFront (IsNumberText least most) text 0
no_number least most [] low high bound other =
    record { inside = omega arith; begins = nothing_begins least most low high; longest = λ more within c. within }
no_number least most (x ∷ text) low high bound other = record {
  inside = omega arith;
  begins = nothing_begins least most low high;
  longest = longest_from_dead (IsNumberText least most) (x ∷ text) 0
      (λ c. other (omega arith) (begins x c.1.0 least c.0 (let most' = c.1.2 in omega arith) low c.1.1 c.1.3));
}

-- a number's text with one more digit
pub grown : (text : List ℕ) (len v most : ℕ) → len < length text → take len text ≡ decimal v → most < 2 ^ 64 →
    CanGrow most v (get_or text len 0) → take (len + 1) text ≡ decimal (v * 10 + (get_or text len 0 - 48))
grown text len v most within digits bound g =
    let byte = get_or text len 0 in
    let some = g.some in let digit = g.digit in let fits = g.fits in
    let m = v * 10 + (byte - 48) in
    let front : m / 10 ≡ v = omega arith in
    let last : 48 + m % 10 ≡ byte = omega arith in
    take_more text len 0 within ∙
    rw (digits, decimal_step m (omega arith) (omega arith), front, last) refl

-- where no digit can come behind it, a number is the longest front
pub stuck : (least most : ℕ) (text : List ℕ) (len v : ℕ) → most < 2 ^ 64 → len < length text → least ≤ v → v ≤ most →
    take len text ≡ decimal v → (CanGrow most v (get_or text len 0) → ⊥) → IsNumberFront least most text v len
stuck least most text len v bound within low high digits other = record {
  low = low;
  high = high;
  digits = digits;
  front = record {
    inside = omega arith;
    begins = ([], (v, low, high, append-nil (take len text) ∙ digits));
    longest = longest_from_dead (IsNumberText least most) text len
        (λ c. other (grows v (get_or text len 0) c.1.0 c.0 most (omega arith) c.1.2 bound
        (sym (append_assoc (decimal v) (get_or text len 0 ∷ []) c.0) ∙
        ap (λ (x : List ℕ). x ++ (get_or text len 0 ∷ []) ++ c.0) (sym digits) ∙
        ap (λ (x : List ℕ). x ++ c.0) (sym (take_more text len 0 within)) ∙ c.1.3)));
  };
}

-- a number that is all of the text is the longest front
pub all_read : (least most : ℕ) (text : List ℕ) (len v : ℕ) → len ≤ length text → length text ≤ len → least ≤ v → v ≤ most →
    take len text ≡ decimal v → IsNumberFront least most text v len
all_read least most text len v inside past low high digits = record {
  low = low;
  high = high;
  digits = digits;
  front = record {
    inside = inside;
    begins = ([], (v, low, high, append-nil (take len text) ∙ digits));
    longest = λ more within c. omega arith;
  };
}

-- the text of one digit
pub one_digit : (text : List ℕ) → 0 < length text → IsInRange 48 57 (get_or text 0 0) →
    take 1 text ≡ decimal (get_or text 0 0 - 48)
one_digit text some digit =
    let byte = get_or text 0 0 in
    let same : 48 + (byte - 48) ≡ byte = omega arith in
    take_more text 0 0 some ∙ rw (decimal_digit (byte - 48) (omega arith), same) refl

-- a number's text has some byte
pub some_in_number : (least most : ℕ) (text : List ℕ) → most < 2 ^ 64 → IsNumberText least most text → 0 < length text
some_in_number least most text bound is =
    let fits = is.2 in
    let some = decimal_nonempty is.0 (omega arith) in
    rw is.3 some

pub longer_than_number : (least most : ℕ) (text : List ℕ) (from value len : ℕ) →
    IsNumberFront least most (take (length text - from) (drop from text)) value len →
    (len ≡ length (take (length text - from) (drop from text)) → ⊥) →
    IsRestFault (IsNumberText least most) text from (from + len)
longer_than_number least most text from value len n more =
    let rest : take (length text - from) (drop from text) ≡ drop from text = take_rest text from in
    let inside = n.front.inside in
    IsRestFault-slice (IsNumberText least most) text from len n.front
    (λ is. wrong_from_longest (IsNumberText least most) (take (length text - from) (drop from text)) len n.front
    (omega arith) (subst (IsNumberText least most) (sym rest) is))

pub rest_is_no_number : (least most : ℕ) (text : List ℕ) (from : ℕ) → most < 2 ^ 64 →
    IsLongestFront (IsNumberText least most) (take (length text - from) (drop from text)) 0 →
    IsRestFault (IsNumberText least most) text from from
rest_is_no_number least most text from bound f =
    let rest : take (length text - from) (drop from text) ≡ drop from text = take_rest text from in
    let same : from + 0 ≡ from = omega arith in
    subst (λ (n : ℕ). IsRestFault (IsNumberText least most) text from n) same
    (IsRestFault-slice (IsNumberText least most) text from 0 f
    (λ is. wrong_from_longest (IsNumberText least most) (take (length text - from) (drop from text)) 0 f
    (some_in_number least most _ bound (subst (IsNumberText least most) (sym rest) is))
    (subst (IsNumberText least most) (sym rest) is)))
