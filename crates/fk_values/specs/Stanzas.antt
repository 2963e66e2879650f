-- The stanzas of a file: the lists of its lines from one line of a certain name, its head, to the next.
use Rattle.std.specs.Prelude.{ℕ, Bool, false, List, [], ◌∷◌, Option, Some, None, Result, Ok, Err, if◌then◌else◌}
use Rattle.std.specs.Str.{bytes_eq}
use Rattle.fk_lines.specs.Cursor.{said}
use Rattle.fk_lines.specs.Lines.{NumberedLine, Setting}
use Rattle.fk_lines.specs.declared.fault.LineFault.{LineFault}
use Rattle.fk_lines.specs.declared.lines.Line.{Line}

-- what is said has this name
abbrev pub says_name : List ℕ → Result Setting LineFault → Bool
says_name name (Ok setting) = bytes_eq name setting.name
says_name name (Err fault) = false

-- the lines up to the first head
abbrev pub before_head : List ℕ → List NumberedLine → List NumberedLine
before_head head [] = []
before_head head (line ∷ lines) = if says_name head line.reading then [] else line ∷ before_head head lines

-- the stanzas that begin in lines
abbrev pub stanzas_in : List ℕ → List NumberedLine → List (List NumberedLine)
stanzas_in head [] = []
stanzas_in head (line ∷ lines) =
    if says_name head line.reading then (line ∷ before_head head lines) ∷ stanzas_in head lines else stanzas_in head lines

-- the stanza that a line begins, before these lines
abbrev pub stanza_from : List ℕ → Line → List NumberedLine → List NumberedLine
stanza_from head line left = said line.number line.name.now line.value.now ∷ before_head head left

-- the stanza that a line begins, where there is one, and those behind it
abbrev pub stanzas_from : List ℕ → Option Line → List NumberedLine → List (List NumberedLine)
stanzas_from head None left = []
stanzas_from head (Some line) left = stanza_from head line left ∷ stanzas_in head left
