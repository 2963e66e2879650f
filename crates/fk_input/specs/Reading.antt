-- A reader of lines, and what a call of it takes from its input.
use Rattle.std.specs.Prelude.{◌≡◌, ◌⊎◌, ℕ, ◌+◌, ◌≤◌, Bool, true, false, List, [], ◌++◌, length, Option, Some, None, IfSome}
use Rattle.fk_host.specs.Count.{counted}
use Rattle.fk_host.specs.Stream.{Takes}
use Rattle.fk_input.specs.declared.line_reader.NextLine.{NextLine}
use Rattle.fk_input.specs.declared.line_reader.NextLine.TheVariants as answer
use Rattle.fk_input.specs.Lines.{IsPiece, is_fed, content, passes_limit, line_limit, input_limit}

-- where a reader stands
pub record Reading : Type 0 where
  -- the bytes that were taken from the source and belong to no call's piece yet
  pub pending : List ℕ
  -- the line that was read last
  pub line : List ℕ
  -- how many bytes of the input were used up
  pub offset : ℕ
  -- the source has answered that it is at its end
  pub ended : Bool

-- no more bytes were taken from the source than show that an input is above its limit
abbrev pub IsBounded : Reading → Type 0
IsBounded r = r.offset + length r.pending ≤ input_limit + 1

-- what is left of the input, behind what was used up, where the source tells what it has left
abbrev pub rest : Reading → Option (List ℕ) → Option (List ℕ)
rest r None = None
rest r (Some bytes) = Some (r.pending ++ bytes)

-- the next piece was used up, and its line is held
pub record TakesLine (old new : Reading) (before after : Option (List ℕ)) : Type 0 where
  pub unended : old.ended ≡ false
  pub piece : List ℕ
  pub is_piece : IsPiece piece
  pub taken : Takes piece before after
  pub line : new.line ≡ content piece
  pub short : length new.line ≤ line_limit
  pub within : passes_limit old.offset piece ≡ false
  pub offset : new.offset ≡ old.offset + length piece
  -- a line without its line feed is all that was left, and the end was seen behind it
  pub fed : new.ended ≡ false → is_fed piece ≡ true
  pub last : new.ended ≡ true → (is_fed piece ≡ false) × (new.pending ≡ []) × IfSome before (λ bytes. bytes ≡ piece)

-- nothing is left
pub record FindsEnd (old new : Reading) (before after : Option (List ℕ)) : Type 0 where
  pub nothing : (old.pending ≡ []) × (new.pending ≡ []) × Takes [] before after
  pub left : (old.ended ≡ true) ⊎ IfSome before (λ bytes. bytes ≡ [])
  pub line : new.line ≡ []
  pub offset : new.offset ≡ old.offset
  pub ended : new.ended ≡ true

-- a line is above its limit: as many bytes without a line feed were used up as show it
pub record TakesLongLine (old new : Reading) (before after : Option (List ℕ)) : Type 0 where
  pub unended : old.ended ≡ false
  pub front : List ℕ
  pub len : length front ≡ line_limit + 1
  pub unfed : is_fed front ≡ false
  pub taken : Takes front before after
  pub within : old.offset + length front ≤ input_limit
  pub line : new.line ≡ []
  pub offset : new.offset ≡ old.offset + length front
  pub ended : new.ended ≡ false

-- the input is above its limit: the line was used up as far as the byte that shows it
pub record PassesLimit (old new : Reading) (before after : Option (List ℕ)) : Type 0 where
  pub unended : old.ended ≡ false
  pub front : List ℕ
  pub len : length front ≤ line_limit + 1
  pub is_piece : old.offset ≤ input_limit → IsPiece front
  pub taken : Takes front before after
  pub passes : old.offset + length front ≡ input_limit + 1
  pub line : new.line ≡ []
  pub offset : new.offset ≡ old.offset + length front
  pub ended : new.ended ≡ false

-- The source failed behind a front of the line, which is used up. No byte of it breaks a rule: neither the line nor the input is
-- above its limit yet.
pub record BreaksOff (old new : Reading) (before after : Option (List ℕ)) : Type 0 where
  pub unended : old.ended ≡ false
  pub front : List ℕ
  pub short : length front ≤ line_limit
  pub within : new.offset ≤ input_limit
  pub unfed : is_fed front ≡ false
  pub taken : Takes front before after
  pub pending : new.pending ≡ []
  pub line : new.line ≡ []
  pub offset : new.offset ≡ old.offset + length front
  pub ended : new.ended ≡ false

-- what an answer says of the call, by the input that was left before and after it
abbrev pub Says : NextLine → Reading → Reading → Option (List ℕ) → Option (List ℕ) → Type 0
Says answer.Line old new before after = TakesLine old new before after
Says answer.End old new before after = FindsEnd old new before after
Says answer.LongLine old new before after = TakesLongLine old new before after
Says answer.LongInput old new before after = PassesLimit old new before after
Says answer.Failed old new before after = BreaksOff old new before after

-- a fault of the source is answered where its count has one fault more, and any other answer leaves the count as it is
abbrev pub IsCaused : NextLine → ℕ → ℕ → Type 0
IsCaused answer.Failed old new = new ≡ counted old
IsCaused _ old new = new ≡ old
