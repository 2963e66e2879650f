-- The first place that passes, or the end.
use Rattle.std.proofs.Common.{◌≡◌, ℕ, ◌≤◌, Bool, true, false, cond, List, length, reverse, Option, Some, None, refl, sym, ap, ◌∙◌, arith, inl, inr}
use Rattle.std.specs.Prelude.{nat_lt}
use Rattle.std.specs.List.{position, position_or_len}
use Rattle.std.specs.Option.{unwrap_or}
use Rattle.std.proofs.lemmas.Bool.{cases_Bool, ltb-false}
use Rattle.std.proofs.lemmas.List.{length-reverse}
use Rattle.std.proofs.lemmas.List.Sums.{prefix_len-le-length}

pub unwrap_or-position : (p : ℕ → Bool) (xs : List ℕ) → unwrap_or (position p xs) (length xs) ≡ position_or_len p xs
unwrap_or-position p xs =
    let at = position_or_len p xs in
    let within : position_or_len p xs ≤ length xs = prefix_len-le-length _ xs in
    elim (cases_Bool (nat_lt at (length xs))) [
      | inl below ↦ rw below refl
      | inr above ↦ rw above (let past = ltb-false at (length xs) above in omega arith)
    ]

pub unwrap_or-position-reverse : (p : ℕ → Bool) (xs : List ℕ) → unwrap_or (position p (reverse xs)) (length xs) ≡ position_or_len p (reverse xs)
unwrap_or-position-reverse p xs = ap (λ (n : ℕ). unwrap_or (position p (reverse xs)) n) (sym (length-reverse xs)) ∙ unwrap_or-position p (reverse xs)

pub place-within : (p : ℕ → Bool) (xs : List ℕ) → position_or_len p xs ≤ length xs
place-within p xs = prefix_len-le-length _ xs

pub place-reverse-within : (p : ℕ → Bool) (xs : List ℕ) → position_or_len p (reverse xs) ≤ length xs
place-reverse-within p xs = let within = place-within p (reverse xs) in let same = length-reverse xs in omega arith
