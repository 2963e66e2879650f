-- The first place of a byte in a text, and the one way in which a text is cut there.
use Rattle.std.proofs.Common.{◌≡◌, ℕ, ◌^◌, ◌<◌, ◌≤◌, ◌⊎◌, inl, inr, Bool, true, false, List, [], ◌∷◌, ◌++◌, length, refl, sym, ap, ◌∙◌, arith, cond, Option, Some, None, take, drop, ◌+◌, get_or, add-one, length-append}
use Rattle.std.specs.Prelude.{◌==◌, nat_lt}
use Rattle.std.specs.List.{All, AllByRecursion, join_with_byte, list_all, position, position_or_len, slice_split}
use Rattle.std.specs.Int.{IsInRange}
use Rattle.std.specs.Fmt.{decimal}
use Rattle.std.proofs.Math.Seq.{drop-cons}
use Rattle.std.proofs.lemmas.Bool.{cases_Bool, eq-eqb, eqb-true, ne_eqb, ltb-true, ltb-false}
use Rattle.std.proofs.lemmas.List.{append_cancel_left, take-append-drop, get_or_at, length-take-le, get_or-take}
use Rattle.std.proofs.lemmas.List.Elements.{All-from_get_or, All-weaker}
use Rattle.std.proofs.lemmas.List.Splits.{slice_split_none, slice_split_at, join_with_byte-slice_split}
use Rattle.std.proofs.lemmas.List.Sums.{AllPass-from_list_all, fails_before_first, passes_at_first}
use Rattle.std.proofs.lemmas.Fmt.{digits_decimal}
use Rattle.fk_base.specs.Private.{IsFirstAt, Lacks}

same_byte : (c : ℕ) → (c == c) ≡ true
same_byte c = eq-eqb c c refl

-- a text has one front without the byte, with the byte behind it
pub one_split : (c : ℕ) (xs ys us vs : List ℕ) → Lacks c xs → Lacks c us → xs ++ c ∷ ys ≡ us ++ c ∷ vs → (xs ≡ us) × (ys ≡ vs)
one_split c xs ys us vs lack_x lack_u same =
    let cut : xs ∷ slice_split (λ b. b == c) ys ≡ us ∷ slice_split (λ b. b == c) vs =
    sym (slice_split_at (λ b. b == c) xs c ys lack_x (same_byte c)) ∙ ap (slice_split (λ b. b == c)) same
    ∙ slice_split_at (λ b. b == c) us c vs lack_u (same_byte c) in
    let fronts : xs ≡ us = cc in
    let backs : c ∷ ys ≡ c ∷ vs = append_cancel_left us (c ∷ ys) (c ∷ vs) (ap (λ (f : List ℕ). f ++ c ∷ ys) (sym fronts) ∙ same) in
    (fronts, cc)

-- a text that has the byte does not lack it
pub has_byte : (c : ℕ) (xs ys : List ℕ) → Lacks c (xs ++ c ∷ ys) → ⊥
has_byte c xs ys lacks =
    let size = length-append xs (c ∷ ys) in
    let here : (c == c) ≡ false = ap (λ b. b == c) (sym (get_or_at xs c ys 0 (length xs) refl)) ∙ lacks (length xs) 0 (omega arith) in
    let same = same_byte c in
    cc

no_place : (n len : ℕ) → cond (nat_lt n len) (Some n) None ≡ None → len ≤ n
no_place n len e =
    elim (cases_Bool (nat_lt n len)) [ inl below ↦ absurd (let f : Some n ≡ None = rw below at e in cc) | inr above ↦ ltb-false n len above ]

some_place : (n len at : ℕ) → cond (nat_lt n len) (Some n) None ≡ Some at → (n < len) × (n ≡ at)
some_place n len at e = elim (cases_Bool (nat_lt n len)) [
  | inl below ↦ (ltb-true n len below, let f : Some n ≡ Some at = rw below at e in cc)
  | inr above ↦ absurd (let f : None ≡ Some at = rw above at e in cc)
]

pub Lacks-no_place : (c : ℕ) (text : List ℕ) → position (λ b. b == c) text ≡ None → Lacks c text
Lacks-no_place c text none =
    let past = no_place (position_or_len (λ b. b == c) text) (length text) none in
    All-from_get_or (λ b. (b == c) ≡ false) text 0
    (λ k lt. fails_before_first (λ b. b == c) text k 0 (omega arith))

-- where the byte stands first
pub first_at : (c : ℕ) (text : List ℕ) (at : ℕ) → position (λ b. b == c) text ≡ Some at → IsFirstAt c text at
first_at c text at found =
    let place = some_place (position_or_len (λ b. b == c) text) (length text) at found in
    let here : get_or text at 0 ≡ c =
    eqb-true (get_or text at 0) c (ap (λ n. get_or text n 0 == c) (sym place.1) ∙ passes_at_first (λ b. b == c) text 0 place.0) in
    let within : at < length text = (let lt = place.0 in let e = place.1 in omega arith) in
    record {
      within = within;
      lacks = All-from_get_or (λ b. (b == c) ≡ false) (take at text) 0
          (λ k lt. let short = length-take-le at text (omega arith) in
          let below : k < at = omega arith in
          ap (λ b. b == c) (get_or-take at text k 0 below) ∙ fails_before_first (λ b. b == c) text k 0 (let e = place.1 in omega arith));
      split = sym (take-append-drop at text) ∙ ap (λ t. take at text ++ t) (drop-cons text at 0 within ∙ rw (here, add-one) refl);
    }
