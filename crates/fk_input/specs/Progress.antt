-- How far a reader has read an input.
use Rattle.std.specs.Prelude.{◌≡◌, ℕ, ◌≤◌, true, false, List, ◌++◌, length, filter, Option, None, IfSome}
use Rattle.std.specs.List.{concat}
use Rattle.fk_host.specs.Stream.{Takes}
use Rattle.fk_input.specs.Lines.{pieces, is_fed, Reads, input_limit}
use Rattle.fk_input.specs.Reading.{Reading}

-- From what was left at the start, a reader has read lines with these values and no fault, and this is left now.
pub record HasRead {T : Type 0} (IsLine : List ℕ → T → Type 0) (start now : Option (List ℕ)) (reader : Reading) (values : List T) : Type 0 where
  -- the pieces of these lines
  pub used : List (List ℕ)
  pub taken : Takes (concat used) start now
  pub reads : Reads IsLine 0 1 used values None
  pub offset : reader.offset ≡ length (concat used)
  pub within : reader.offset ≤ input_limit
  -- until the end is seen each piece has its line feed, so what follows is cut apart from them
  pub fed : reader.ended ≡ false → filter is_fed used ≡ used
  pub apart : reader.ended ≡ false → (more : List ℕ) → pieces (concat used ++ more) ≡ used ++ pieces more
  -- from then on they are all that there was
  pub whole : reader.ended ≡ true → (pieces (concat used) ≡ used) × IfSome start (λ text. text ≡ concat used)
