-- What the contracts of this crate's private functions alone speak of. No public contract cites it, so no caller has to
-- believe it.
use Rattle.std.specs.Prelude.{◌≡◌, ◌≢◌, ℕ, ◌+◌, ◌<◌, ◌≤◌, List, [], ◌∷◌, ◌++◌, length, Option, Some, None}
use Rattle.fk_host.specs.Stream.{Takes}
use Rattle.fk_input.specs.declared.line_reader.NextLine.{NextLine}
use Rattle.fk_input.specs.declared.line_reader.NextLine.TheVariants as answer
use Rattle.fk_input.specs.Lines.{line_limit, input_limit}
use Rattle.fk_input.specs.Reading.{Reading, rest}

-- the bytes of the piece were used up, and the line is as before
abbrev pub UsesUp : List ℕ → Reading → Reading → Option (List ℕ) → Option (List ℕ) → Type 0
UsesUp piece old new left_old left_new =
    Takes piece (rest old left_old) (rest new left_new) × (new.offset ≡ old.offset + length piece) × (new.line ≡ old.line)

-- what becomes of the line with the byte that was used up last
abbrev pub Places : Option NextLine → Reading → Reading → ℕ → Type 0
Places None old new b = (old.offset ≤ input_limit) × (b ≢ 10) × (length old.line < line_limit) × (new ≡ record old { line = old.line ++ b ∷ [] })
Places (Some answer.Line) old new b = (old.offset ≤ input_limit) × (b ≡ 10) × (new ≡ old)
Places (Some answer.LongLine) old new b = (old.offset ≤ input_limit) × (b ≢ 10) × (length old.line ≡ line_limit) × (new ≡ record old { line = [] })
Places (Some answer.LongInput) old new b = (input_limit < old.offset) × (new ≡ record old { line = [] })
Places (Some _) old new b = ⊥
