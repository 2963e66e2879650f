-- What the contracts of this crate's private functions alone speak of: how far the reader of a client's file has come. No public
-- contract cites it, so no caller has to believe it.
use Rattle.std.specs.Prelude.{◌≡◌, ℕ, true, List, [], Option, Some, None, map}
use Rattle.std.specs.List.{list_all}
use Rattle.std.specs.Str.{bytes_eq}
use Rattle.fk_base.specs.Characters.{is_line_byte}
use Rattle.fk_lines.specs.Lines.{NumberedLine, Setting}
use Rattle.fk_lines.specs.declared.lines.Line.{Line}
use Rattle.fk_values.specs.Given.{given_at}
use Rattle.fk_values.specs.Settings.{first_fault}
use Rattle.fk_conf.specs.declared.conf_err.ConfWhat.{ConfWhat}
use Rattle.fk_conf.specs.declared.conf_err.ConfErr.{ConfErr}
use Rattle.fk_conf.specs.declared.conf_err.ConfErr.TheVariants.{Fault, NoMemory}
use Rattle.fk_conf.specs.declared.rc_stanza.RcStanza.{RcStanza}
use Rattle.fk_conf.specs.RcFault.{given_by_lines, lines_fault}
use Rattle.fk_conf.specs.RcTable.{head_name, rc_rules}

-- a line that begins a stanza
pub record IsHead (line : Line) : Type 0 where
  pub name : bytes_eq head_name line.name.now ≡ true
  pub bytes : list_all is_line_byte line.value.now ≡ true

-- the answer has this cause, and memory did not run out
abbrev pub IsFaultAt : Option (ℕ × ConfWhat) → ConfErr → Type 0
IsFaultAt fault (Fault line what) = fault ≡ Some (line, what)
IsFaultAt fault NoMemory = ⊥

-- the lines behind a head were read: they have no fault, and set what is given
pub record IsRcBody (lines : List NumberedLine) (given : List (Option Setting)) : Type 0 where
  pub faultless : first_fault rc_rules [] lines ≡ None
  pub given_is : (number : ℕ) → given_at given number ≡ given_by_lines lines number

-- the lines behind a head have this fault, or memory ran out where they have none
abbrev pub IsBodyErr : List NumberedLine → ConfErr → Type 0
IsBodyErr lines (Fault line what) = lines_fault lines ≡ Some (line, what)
IsBodyErr lines NoMemory = first_fault rc_rules [] lines ≡ None

-- the names of stanzas
abbrev pub names_of : List RcStanza → List (List ℕ)
names_of stanzas = map (λ stanza. stanza.name) stanzas
