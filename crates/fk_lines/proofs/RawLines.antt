-- A text cut at its first line feed, and a text without one.
use Rattle.std.proofs.Common.{◌≡◌, ℕ, ◌+◌, ◌-◌, ◌<◌, ◌≤◌, true, false, cond, List, [], ◌∷◌, ◌++◌, length, get_or, take, drop, Option, Some, None, refl, sym, ap, ◌∙◌, arith, inl, inr, add-one}
use Rattle.std.specs.Prelude.{◌==◌, nat_lt}
use Rattle.std.specs.List.{All, onto_first, position, position_or_len}
use Rattle.std.proofs.Math.Seq.{drop-cons}
use Rattle.std.proofs.lemmas.Bool.{cases_Bool, eqb-true, ltb-true, ltb-false}
use Rattle.std.proofs.lemmas.List.{take-append-drop, length-take-le, get_or-take}
use Rattle.std.proofs.lemmas.List.Elements.{All-from_get_or, All-tail, All-take}
use Rattle.std.proofs.lemmas.List.Sums.{fails_before_first, passes_at_first}
use Rattle.fk_lines.specs.Lines.{raw_lines, lines_from, is_skipped, bare_line, reading_of}

no_place : (n len : ℕ) → cond (nat_lt n len) (Some n) None ≡ None → len ≤ n
no_place n len e =
    elim (cases_Bool (nat_lt n len)) [ inl below ↦ absurd (let f : Some n ≡ None = rw below at e in cc) | inr above ↦ ltb-false n len above ]

some_place : (n len at : ℕ) → cond (nat_lt n len) (Some n) None ≡ Some at → (n < len) × (n ≡ at)
some_place n len at e = elim (cases_Bool (nat_lt n len)) [
  | inl below ↦ (ltb-true n len below, let f : Some n ≡ Some at = rw below at e in cc)
  | inr above ↦ absurd (let f : None ≡ Some at = rw above at e in cc)
]

raw_lines-at : (xs ys : List ℕ) → All (λ b. (b == 10) ≡ false) xs → raw_lines (xs ++ 10 ∷ ys) ≡ xs ∷ raw_lines ys
raw_lines-at [] ys all = refl
raw_lines-at (x ∷ xs) ys all =
    let other : (x == 10) ≡ false = all 0 0 (omega arith) in
    rw other (ap (onto_first x) (raw_lines-at xs ys (All-tail (λ b. (b == 10) ≡ false) x xs all)))

raw_lines-one : (x : ℕ) (xs : List ℕ) → All (λ b. (b == 10) ≡ false) (x ∷ xs) → raw_lines (x ∷ xs) ≡ (x ∷ xs) ∷ []
raw_lines-one x [] all =
    let other : (x == 10) ≡ false = all 0 0 (omega arith) in
    rw other refl
raw_lines-one x (y ∷ ys) all =
    let other : (x == 10) ≡ false = all 0 0 (omega arith) in
    rw other (ap (onto_first x) (raw_lines-one y ys (All-tail (λ b. (b == 10) ≡ false) x (y ∷ ys) all)))

-- at the first line feed the first line ends
pub raw_lines-first : (text : List ℕ) (at : ℕ) → position (λ b. b == 10) text ≡ Some at
    → raw_lines text ≡ take at text ∷ raw_lines (drop (at + 1) text)
raw_lines-first text at found =
    let place = some_place (position_or_len (λ b. b == 10) text) (length text) at found in
    let feed : get_or text at 0 ≡ 10 =
    eqb-true (get_or text at 0) 10 (ap (λ n. get_or text n 0 == 10) (sym place.1) ∙ passes_at_first (λ b. b == 10) text 0 place.0) in
    let within : at < length text = (let lt = place.0 in let e = place.1 in omega arith) in
    let split : text ≡ take at text ++ 10 ∷ drop (at + 1) text =
    sym (take-append-drop at text) ∙ ap (λ t. take at text ++ t) (drop-cons text at 0 within ∙ rw (feed, add-one) refl) in
    ap raw_lines split ∙ raw_lines-at (take at text) (drop (at + 1) text)
    (All-from_get_or (λ b. (b == 10) ≡ false) (take at text) 0
    (λ k lt. let short = length-take-le at text (omega arith) in
    let below : k < at = omega arith in
    ap (λ b. b == 10) (get_or-take at text k 0 below) ∙ fails_before_first (λ b. b == 10) text k 0 (let e = place.1 in omega arith)))

-- without a line feed the text is one line
pub raw_lines-whole : (text : List ℕ) → 0 < length text → position (λ b. b == 10) text ≡ None → raw_lines text ≡ text ∷ []
raw_lines-whole [] some none = absurd (omega arith)
raw_lines-whole (x ∷ xs) some none =
    let past = no_place (position_or_len (λ b. b == 10) (x ∷ xs)) (length (x ∷ xs)) none in
    raw_lines-one x xs (All-from_get_or (λ b. (b == 10) ≡ false) (x ∷ xs) 0
    (λ k lt. fails_before_first (λ b. b == 10) (x ∷ xs) k 0 (omega arith)))

-- a line that is skipped, and one that is not
pub lines_from-skipped : (number : ℕ) (raw : List ℕ) (raws : List (List ℕ)) → is_skipped (bare_line raw) ≡ true
    → lines_from number (raw ∷ raws) ≡ lines_from (number + 1) raws
unfolding lines_from
lines_from-skipped number raw raws is = rw is refl

pub lines_from-kept : (number : ℕ) (raw : List ℕ) (raws : List (List ℕ)) → is_skipped (bare_line raw) ≡ false
    → lines_from number (raw ∷ raws) ≡ record { number = number; reading = reading_of (bare_line raw) } ∷ lines_from (number + 1) raws
unfolding lines_from
lines_from-kept number raw raws is = rw is refl

pub lines_from-end : (number : ℕ) (text : List ℕ) → length text ≡ 0 → lines_from number (raw_lines text) ≡ []
unfolding lines_from
lines_from-end number [] none = refl
lines_from-end number (x ∷ xs) none = absurd (omega arith)
