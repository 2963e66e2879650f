-- How far the lines of a text were given.
use Rattle.std.specs.Prelude.{ℕ, List, Ok, Err}
use Rattle.fk_lines.specs.declared.fault.LineFault.{LineFault}
use Rattle.fk_lines.specs.Lines.{NumberedLine}

-- where the reader of a text's lines stands
pub record Cursor : Type 0 where
  -- the number of the line that was given last, or 0
  pub number : ℕ
  -- the lines that are still to be given
  pub left : List NumberedLine

-- a line that says this
abbrev pub said : ℕ → List ℕ → List ℕ → NumberedLine
said number name value = record { number = number; reading = Ok (record { name = name; value = value }) }

-- a line with this fault
abbrev pub faulty : ℕ → LineFault → NumberedLine
faulty number fault = record { number = number; reading = Err fault }
