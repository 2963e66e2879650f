-- A byte in decimal with a dot behind it, and four bytes joined by dots.
use Rattle.std.proofs.Common.{◌≡◌, ℕ, ◌+◌, ◌-◌, ◌^◌, ◌<◌, ◌≤◌, List, [], ◌∷◌, ◌++◌, length, get_or, take, drop, inl, inr, refl, sym, ◌∙◌, ap, subst, arith, length-append, append_assoc}
use Rattle.std.specs.Int.{IsInRange}
use Rattle.std.specs.Fmt.{decimal}
use Rattle.std.proofs.lemmas.Bool.{cases_lt, cases_order}
use Rattle.std.proofs.lemmas.Fmt.{decimal_nonempty, length-decimal-le}
use Rattle.std.proofs.lemmas.List.{append-nil, take-append-drop, take_at, get_or_at, get_or_append_left, get_or-take, length-take-le, take_rest}
use Rattle.fk_base.specs.Shape.{CanBegin, IsLongestFront}
use Rattle.fk_base.specs.Private.{IsDottedByte, IsNumberFront, IsNumberText, IsPartFault}
use Rattle.fk_base.proofs.Numerals.{digit_at, digits_of_decimal}
use Rattle.fk_base.proofs.Fronts.{IsPrefixFree, split_longer}

-- a byte has three digits at most
pub length-decimal_byte : (n : ℕ) → n < 2 ^ 8 → length (decimal n) ≤ 3
length-decimal_byte n small = length-decimal-le 3 n (omega arith) (omega arith) (omega arith)

decimal_at : (n k : ℕ) → n < 2 ^ 64 → k < length (decimal n) → IsInRange 48 57 (get_or (decimal n) k 0)
decimal_at n k small within = digit_at (decimal n) k (digits_of_decimal n small) within

-- a dot behind one number is not inside another
no_dot_inside : (m n : ℕ) (u v : List ℕ) → n < 2 ^ 64 → decimal m ++ (46 ∷ u) ≡ decimal n ++ (46 ∷ v) →
    length (decimal m) < length (decimal n) → ⊥
no_dot_inside m n u v small same shorter =
    let dot : get_or (decimal n) (length (decimal m)) 0 ≡ 46 =
    sym (get_or_append_left (decimal n) (46 ∷ v) 0 (length (decimal m)) shorter) ∙
    ap (λ (x : List ℕ). get_or x (length (decimal m)) 0) (sym same) ∙
    get_or_at (decimal m) 46 u 0 (length (decimal m)) refl in
    let digit = decimal_at n (length (decimal m)) small shorter in
    omega arith

pub same_numbers : (m n : ℕ) (u v : List ℕ) → m < 2 ^ 64 → n < 2 ^ 64 → decimal m ++ (46 ∷ u) ≡ decimal n ++ (46 ∷ v) →
    decimal m ≡ decimal n
same_numbers m n u v small small' same = elim (cases_order (length (decimal m)) (length (decimal n))) [
  | inl size ↦ sym (take_at (decimal m) (46 ∷ u) (length (decimal m)) refl) ∙ ap (take (length (decimal m))) same ∙
      take_at (decimal n) (46 ∷ v) (length (decimal m)) (sym size)
  | inr (inl shorter) ↦ absurd (no_dot_inside m n u v small' same shorter)
  | inr (inr longer) ↦ absurd (no_dot_inside n m v u small (sym same) longer)
]

-- no dotted byte is a front of another
pub dotted_bytes_apart : IsPrefixFree IsDottedByte
dotted_bytes_apart a b u v is_a is_b same =
    let small = is_a.1 in
    let small' = is_b.1 in
    let whole : decimal is_a.0 ++ (46 ∷ u) ≡ decimal is_b.0 ++ (46 ∷ v) =
    sym (append_assoc (decimal is_a.0) (46 ∷ []) u) ∙ ap (λ (x : List ℕ). x ++ u) (sym is_a.2) ∙ same ∙
    ap (λ (x : List ℕ). x ++ v) is_b.2 ∙ append_assoc (decimal is_b.0) (46 ∷ []) v in
    is_a.2 ∙ ap (λ (x : List ℕ). x ++ (46 ∷ [])) (same_numbers is_a.0 is_b.0 u v (omega arith) (omega arith) whole) ∙ sym is_b.2

-- where no dotted byte begins a text, its longest front is that of a byte's digits
no_longer : (t : List ℕ) (len : ℕ) → IsLongestFront (IsNumberText 0 255) t len →
    ((part rest : List ℕ) → IsDottedByte part → t ≡ part ++ rest → ⊥) →
    (more : ℕ) → more ≤ length t → CanBegin IsDottedByte (take more t) → more ≤ len
no_longer t len f none more within c =
    let size : length (take more t) ≡ more = length-take-le more t within in
    let n = c.1.0 in
    let small = c.1.1 in
    elim (cases_lt (length (decimal n)) more) [
      | inr fits ↦
          let d = split_longer (take more t) (decimal n) c.0 (46 ∷ []) c.1.2 (omega arith) in
          f.longest more within (d.0, (n, omega arith, omega arith, sym d.1))
      | inl past ↦ absurd (
          let whole = c.1.2 in
          let both = length-append (decimal n) (46 ∷ []) in
          let d = split_longer (decimal n ++ (46 ∷ [])) (take more t) [] c.0 (append-nil (decimal n ++ (46 ∷ [])) ∙ sym whole) (omega arith) in
          none (decimal n ++ (46 ∷ [])) (d.0 ++ drop more t) (n, small, refl)
          (sym (take-append-drop more t) ∙ ap (λ (x : List ℕ). x ++ drop more t) d.1 ∙ append_assoc (decimal n ++ (46 ∷ [])) d.0 (drop more t)))
    ]

part_fault : (t : List ℕ) (from len : ℕ) → IsLongestFront (IsNumberText 0 255) (take (length t - from) (drop from t)) len →
    CanBegin IsDottedByte (take len (drop from t)) →
    ((part rest : List ℕ) → IsDottedByte part → drop from t ≡ part ++ rest → ⊥) → IsPartFault IsDottedByte t from (from + len)
part_fault t from len f can none =
    let g : IsLongestFront (IsNumberText 0 255) (drop from t) len =
    subst (λ (x : List ℕ). IsLongestFront (IsNumberText 0 255) x len) (take_rest t from) f in
    let size : from + len - from ≡ len = omega arith in
    record {
      past = omega arith;
      front = subst (λ (n : ℕ). IsLongestFront IsDottedByte (drop from t) n) (sym size)
          (record { inside = g.inside; begins = can; longest = no_longer (drop from t) len g none });
      none = none;
    }

-- where a dotted byte begins the text, its digits are the longest front
digits_first : (t : List ℕ) (len : ℕ) → IsLongestFront (IsNumberText 0 255) t len → (part rest : List ℕ) → (is : IsDottedByte part) →
    t ≡ part ++ rest → (t ≡ decimal is.0 ++ (46 ∷ rest)) × (length (decimal is.0) ≤ len) × (length (decimal is.0) < length t)
digits_first t len f part rest is whole =
    let n = is.0 in
    let small = is.1 in
    let split : t ≡ decimal n ++ (46 ∷ rest) =
    whole ∙ ap (λ (x : List ℕ). x ++ rest) is.2 ∙ append_assoc (decimal n) (46 ∷ []) rest in
    let both = length-append (decimal n) (46 ∷ rest) in
    let sizes = ap length split in
    let front : take (length (decimal n)) t ≡ decimal n =
    ap (take (length (decimal n))) split ∙ take_at (decimal n) (46 ∷ rest) (length (decimal n)) refl in (
      split,
      f.longest (length (decimal n)) (omega arith)
          ([], (n, omega arith, omega arith, append-nil (take (length (decimal n)) t) ∙ front)),
      omega arith,
    )

-- a byte's digits, and no dot behind them
pub no_dot_behind : (t : List ℕ) (from v len : ℕ) →
    IsNumberFront 0 255 (take (length t - from) (drop from t)) v len →
    (len < length (take (length t - from) (drop from t)) → get_or (take (length t - from) (drop from t)) len 0 ≡ 46 → ⊥) →
    IsPartFault IsDottedByte t from (from + len)
no_dot_behind t from v len n other =
    let rest : take (length t - from) (drop from t) ≡ drop from t = take_rest t from in
    let high = n.high in
    let digits : take len (drop from t) ≡ decimal v = ap (take len) (sym rest) ∙ n.digits in
    part_fault t from len n.front (46 ∷ [], (v, omega arith, ap (λ (x : List ℕ). x ++ (46 ∷ [])) digits))
    (λ part tail is whole.
    let d = digits_first (take (length t - from) (drop from t)) len n.front part tail is (rest ∙ whole) in
    let k = length (decimal is.0) in
    let at_dot : get_or (take (length t - from) (drop from t)) k 0 ≡ 46 =
    ap (λ (x : List ℕ). get_or x k 0) d.0 ∙ get_or_at (decimal is.0) 46 tail 0 k refl in
    elim (cases_lt k len) [
      | inl inside ↦
          let same : get_or (decimal v) k 0 ≡ 46 =
          ap (λ (x : List ℕ). get_or x k 0) (sym n.digits) ∙ get_or-take len (take (length t - from) (drop from t)) k 0 inside ∙ at_dot in
          let sizes : length (take len (take (length t - from) (drop from t))) ≡ length (decimal v) = ap length n.digits in
          let cut : length (take len (take (length t - from) (drop from t))) ≡ len = length-take-le len (take (length t - from) (drop from t)) n.front.inside in
          let digit = decimal_at v k (omega arith) (omega arith) in
          omega arith
      | inr past ↦
          let here : k ≡ len = (let within = d.1 in omega arith) in
          other (let short = d.2 in omega arith) (subst (λ (i : ℕ). get_or (take (length t - from) (drop from t)) i 0 ≡ 46) here at_dot)
    ])

-- no digits at all
pub no_digits : (t : List ℕ) (from : ℕ) → IsLongestFront (IsNumberText 0 255) (take (length t - from) (drop from t)) 0 →
    IsPartFault IsDottedByte t from from
no_digits t from f =
    let rest : take (length t - from) (drop from t) ≡ drop from t = take_rest t from in
    let same : from + 0 ≡ from = omega arith in
    subst (λ (n : ℕ). IsPartFault IsDottedByte t from n) same
    (part_fault t from 0 f (decimal 0 ++ (46 ∷ []), (0, omega arith, refl))
    (λ part tail is whole.
    let d = digits_first (take (length t - from) (drop from t)) 0 f part tail is (rest ∙ whole) in
    let within = d.1 in
    let small = is.1 in
    let some = decimal_nonempty is.0 (omega arith) in
    omega arith))
