-- What a table of settings shows after a write.
use Rattle.std.proofs.Common.{◌≡◌, ℕ, zero, suc, ◌<◌, ◌==◌, List, [], ◌∷◌, length, map, Option, Some, refl, arith, if◌then◌else◌, slice_set}
use Rattle.std.proofs.Math.Dec.{eqb-suc-zero, eqb-zero-suc, eqb-suc-suc}
use Rattle.std.specs.Option.{option_map}
use Rattle.fk_lines.specs.Lines.{Setting}
use Rattle.fk_lines.specs.declared.lines.Line.{Line}
use Rattle.fk_values.specs.Given.{given_at, said_by}

pub given_at-set : (lines : List (Option Line)) (places : List (Option Setting)) (k n : ℕ) (line : Line) → k < length lines →
    places ≡ map (option_map said_by) lines →
    given_at (map (option_map said_by) (slice_set lines k (Some line))) n ≡ (if n == k then Some (said_by line) else given_at places n)
given_at-set [] places k n line within same = absurd (omega arith)
given_at-set (l ∷ lines) places zero zero line within same = refl
given_at-set (l ∷ lines) places zero (suc n) line within same = rw (eqb-suc-zero n, same) refl
given_at-set (l ∷ lines) places (suc k) zero line within same = rw (eqb-zero-suc k, same) refl
given_at-set (l ∷ lines) places (suc k) (suc n) line within same =
    rw (eqb-suc-suc n k, same) (given_at-set lines (map (option_map said_by) lines) k n line (omega arith) refl)
