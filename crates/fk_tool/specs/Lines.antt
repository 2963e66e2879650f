-- What the tool prints line by line.
use Rattle.std.specs.Prelude.{◌≡◌, ◌⊎◌, ℕ, ◌<◌, ◌≤◌, Bool, true, false, List, [], ◌∷◌, ◌++◌}
use Rattle.std.specs.List.{join_with_byte}
use Rattle.fk_base.specs.declared.status.Status.{Status}
use Rattle.fk_base.specs.declared.status.Status.TheVariants as status
use Rattle.fk_log.specs.Printing.{SinkView, Prints}

-- parts with a space (32) between them, and a line feed (10)
abbrev pub line_of_parts : List (List ℕ) → List ℕ
line_of_parts parts = join_with_byte 32 parts ++ 10 ∷ []

-- The text of the first so many lines was printed; or, as the Bool says, a front of it that lacks something, and then a write failed.
-- IsText says which texts so many lines have.
pub record PrintsLines (IsText : ℕ → List ℕ → Type 0) (lines : ℕ) (is_broken : Bool) (old new : SinkView) : Type 0 where
  pub text : List ℕ
  pub is : IsText lines text
  pub printed : Prints text is_broken old new

-- the output failed within the first lines, and no later one was tried
pub record BreaksOff (IsText : ℕ → List ℕ → Type 0) (count : ℕ) (old new : SinkView) : Type 0 where
  pub lines : ℕ
  pub within : lines ≤ count
  pub printed : PrintsLines IsText lines true old new

-- memory was wanting for the line behind the first ones, which were printed
pub record StopsShort (IsText : ℕ → List ℕ → Type 0) (count : ℕ) (old new : SinkView) : Type 0 where
  pub lines : ℕ
  pub within : lines < count
  pub printed : PrintsLines IsText lines false old new

-- What comes of so many lines: all of them are printed, or the output fails, or memory is wanting, which is not told.
abbrev pub ShowsLines : (ℕ → List ℕ → Type 0) → ℕ → SinkView → SinkView → Status → Type 0
ShowsLines IsText count old new answer =
    ((answer ≡ status.Done) × PrintsLines IsText count false old new)
    ⊎ (((answer ≡ status.SinkFault) × BreaksOff IsText count old new) ⊎ ((answer ≡ status.NoMemory) × StopsShort IsText count old new))
