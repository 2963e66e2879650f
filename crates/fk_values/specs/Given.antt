-- What a table of settings shows: for each number the setting that stands at its place.
use Rattle.std.specs.Prelude.{ℕ, List, Option, slice_get}
use Rattle.std.specs.Option.{option_flatten}
use Rattle.fk_lines.specs.Lines.{Setting}
use Rattle.fk_lines.specs.declared.lines.Line.{Line}

-- what a line says
abbrev pub said_by : Line → Setting
said_by line = record { name = line.name.now; value = line.value.now }

-- the setting at a place, where one stands there
abbrev pub given_at : List (Option Setting) → ℕ → Option Setting
given_at places number = option_flatten (slice_get places number)
