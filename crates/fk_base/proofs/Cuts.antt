-- A text cut at the first separator.
use Rattle.std.proofs.Common.{◌≡◌, ℕ, ◌+◌, ◌-◌, ◌<◌, ◌≤◌, false, cond, List, [], ◌∷◌, length, take, drop, Some, None, ◌∙◌, refl, arith, inl, inr}
use Rattle.std.specs.Prelude.{◌==◌, nat_lt}
use Rattle.std.specs.List.{position, position_or_len}
use Rattle.std.proofs.lemmas.Bool.{cases_Bool, ltb-true, ltb-false}
use Rattle.std.proofs.lemmas.List.{take_all, length-drop}
use Rattle.std.proofs.lemmas.List.Elements.{All-from_get_or}
use Rattle.std.proofs.lemmas.List.Splits.{slice_split_none, slice_split_first, length-slice_split}
use Rattle.std.proofs.lemmas.List.Sums.{fails_before_first}
use Rattle.fk_base.specs.Parts.{parts_at}

no_place : (n len : ℕ) → cond (nat_lt n len) (Some n) None ≡ None → len ≤ n
no_place n len e =
    elim (cases_Bool (nat_lt n len)) [ inl below ↦ absurd (let f : Some n ≡ None = rw below at e in cc) | inr above ↦ ltb-false n len above ]

some_place : (n len at : ℕ) → cond (nat_lt n len) (Some n) None ≡ Some at → (n < len) × (n ≡ at)
some_place n len at e = elim (cases_Bool (nat_lt n len)) [
  | inl below ↦ (ltb-true n len below, let f : Some n ≡ Some at = rw below at e in cc)
  | inr above ↦ absurd (let f : None ≡ Some at = rw above at e in cc)
]

-- with no separator the text is the one part
pub parts_at-whole : (c : ℕ) (text : List ℕ) → position (λ b. b == c) text ≡ None → parts_at c text ≡ text ∷ []
parts_at-whole c text none =
    let past = no_place (position_or_len (λ b. b == c) text) (length text) none in
    slice_split_none (λ b. b == c) text
    (All-from_get_or (λ b. (b == c) ≡ false) text 0 (λ k lt. fails_before_first (λ b. b == c) text k 0 (omega arith)))

-- at the first separator the first part ends
pub parts_at-first : (c : ℕ) (text : List ℕ) (at : ℕ) → position (λ b. b == c) text ≡ Some at
    → parts_at c text ≡ take at text ∷ parts_at c (take (length text - (at + 1)) (drop (at + 1) text))
parts_at-first c text at some =
    let place = some_place (position_or_len (λ b. b == c) text) (length text) at some in
    let all : take (length text - (at + 1)) (drop (at + 1) text) ≡ drop (at + 1) text =
    take_all (length text - (at + 1)) (drop (at + 1) text) (omega (arith, length-drop (at + 1) text)) in
    slice_split_first (λ b. b == c) text 0 place.0
    ∙ rw (place.1, all) refl

pub some_part : (c : ℕ) (text : List ℕ) → 0 < length (parts_at c text)
some_part c text = omega (arith, length-slice_split (λ b. b == c) text)
