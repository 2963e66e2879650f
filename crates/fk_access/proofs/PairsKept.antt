-- The lines of pairs in a fixed array.
use Rattle.std.proofs.Common.{◌≡◌, ℕ, ◌+◌, ◌<◌, ◌≤◌, List, [], ◌∷◌, ◌++◌, length, map, take, Option, Some, sym, ◌∙◌, ap, subst, arith, slice_index_or, slice_set}
use Rattle.std.specs.Prelude.{All, slice_get}
use Rattle.std.specs.Option.{option_map}
use Rattle.std.proofs.lemmas.List.{length-map, length-set, length-take, map-append, take_more_set}
use Rattle.std.proofs.lemmas.Option.{get_or_from_slice_get, slice_get-get_or, slice_get-map, slice_get_within}
use Rattle.fk_lines.specs.Lines.{Setting}
use Rattle.fk_access.specs.PairGiven.{pair_given}
use Rattle.fk_access.specs.declared.pair_lines.PairLines.{PairLines}

size_is : (items : List PairLines) (n : ℕ) (now : List (List (Option Setting))) → map pair_given (take n items) ≡ now → n ≤ length items → length now ≡ n
size_is items n now is few =
    let sized : length now ≡ length (take n items) = sym (ap length is) ∙ length-map (take n items) pair_given in
    omega (arith, length-take n items)

pub at_kept : (items : List PairLines) (now : List (List (Option Setting))) (at : ℕ) → map pair_given items ≡ now → at < length now → at < length items
at_kept items now at is lt =
    let size : length now ≡ length items = sym (ap length is) ∙ length-map items pair_given in
    omega arith

pub lines_kept : (items : List PairLines) (now : List (List (Option Setting))) (at : ℕ) (default : PairLines) → map pair_given items ≡ now →
    at < length now → slice_get now at ≡ Some (pair_given (slice_index_or items at default))
lines_kept items now at default is lt =
    ap (λ (l : List (List (Option Setting))). slice_get l at) (sym is)
    ∙ slice_get-map pair_given items at
    ∙ ap (option_map pair_given) (slice_get-get_or items at default (at_kept items now at is lt))

pub pushed_within : (items : List PairLines) (n : ℕ) (now : List (List (Option Setting))) (lines : PairLines) → map pair_given (take n items) ≡ now →
    n ≤ 4 → length items ≡ 4 → length now < 4 → (n + 1 ≤ 4) × (length (slice_set items n lines) ≡ 4)
pushed_within items n now lines is few size room =
    let sized = size_is items n now is (omega arith) in (omega arith, length-set items n lines ∙ size)

pub pushed : (items : List PairLines) (n : ℕ) (now : List (List (Option Setting))) (lines : PairLines) → map pair_given (take n items) ≡ now →
    n ≤ 4 → length items ≡ 4 → length now < 4 → map pair_given (take (n + 1) (slice_set items n lines)) ≡ now ++ pair_given lines ∷ []
pushed items n now lines is few size room =
    let sized = size_is items n now is (omega arith) in
    ap (map pair_given) (take_more_set items n lines (omega arith))
    ∙ map-append pair_given (take n items) (lines ∷ [])
    ∙ ap (λ (l : List (List (Option Setting))). l ++ pair_given lines ∷ []) is

-- what all pairs have, one of them has
pub all_at : (P : List (Option Setting) → Type 0) (givens : List (List (Option Setting))) (at : ℕ) (given : List (Option Setting)) → All P givens →
    slice_get givens at ≡ Some given → P given
all_at P givens at given all here =
    subst P (get_or_from_slice_get givens at given given here) (all at given (slice_get_within givens at given here))
