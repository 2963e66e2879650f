-- What is wrong with a client's file.
use Rattle.std.specs.Prelude.{◌≡◌, ℕ, not, nat_lt, is_none, List, [], ◌∷◌, ◌++◌, length, Option, Some, None, Result, Ok, Err, if◌then◌else◌}
use Rattle.std.specs.List.{list_any}
use Rattle.std.specs.Option.{option_map, option_or}
use Rattle.std.specs.Str.{bytes_eq}
use Rattle.fk_base.specs.FirstFailed.{first_failed}
use Rattle.fk_lines.specs.Lines.{NumberedLine, Setting, lines_of}
use Rattle.fk_lines.specs.declared.fault.LineFault.{LineFault}
use Rattle.fk_values.specs.Settings.{first_fault, given_by, rule_of, settings_of}
use Rattle.fk_values.specs.Stanzas.{before_head, stanzas_in}
use Rattle.fk_values.specs.Values.{has_len_within}
use Rattle.fk_conf.specs.declared.conf_err.ConfWhat.{ConfWhat}
use Rattle.fk_conf.specs.declared.conf_err.ConfWhat.TheVariants.{UnknownName, Twice, BadValue, NoStanza, TooMany, Line}
use Rattle.fk_conf.specs.declared.conf_err.ConfErr.{ConfErr}
use Rattle.fk_conf.specs.declared.conf_err.ConfErr.TheVariants.{Fault, NoMemory}
use Rattle.fk_conf.specs.ConfWhat.{conf_what}
use Rattle.fk_conf.specs.RcTable.{head_name, rc_rules}

-- the stanzas of a text, each with its head
abbrev pub rc_stanzas : List ℕ → List (List NumberedLine)
rc_stanzas text = stanzas_in head_name (lines_of text)

-- the fault of a name with which no stanza has begun
abbrev pub early_name : List ℕ → ConfWhat
early_name name = if is_none (rule_of rc_rules name) then UnknownName else NoStanza

-- the fault of a line with which no stanza has begun
abbrev pub early_what : Result Setting LineFault → ConfWhat
early_what (Ok setting) = early_name setting.name
early_what (Err fault) = Line fault

-- the first fault of the lines before all stanzas, with the number of its line
abbrev pub early_fault : List NumberedLine → Option (ℕ × ConfWhat)
early_fault [] = None
early_fault (line ∷ lines) = Some (line.number, early_what line.reading)

-- the tests of the name that a head gives its stanza, behind stanzas of these names: that there is room for it, that it is
-- new, that it has 1 to 64 bytes
abbrev pub name_fault : List (List ℕ) → List ℕ → Option ConfWhat
name_fault names name = first_failed (
    (nat_lt (length names) 256, TooMany) ∷ (not (list_any (λ other. bytes_eq other name) names), Twice) ∷ (has_len_within 64 name, BadValue) ∷ []
    )

-- the name that a head gives
abbrev pub said_name : Result Setting LineFault → List ℕ
said_name (Ok setting) = setting.value
said_name (Err fault) = []

-- the first fault of lines behind a head, with the number of its line
abbrev pub lines_fault : List NumberedLine → Option (ℕ × ConfWhat)
lines_fault lines = option_map (λ found. (found.0, conf_what found.1)) (first_fault rc_rules [] lines)

-- what the lines behind a head give for a number, where one does
abbrev pub given_by_lines : List NumberedLine → ℕ → Option Setting
given_by_lines lines = given_by rc_rules (settings_of lines)

-- the first fault of a head and the lines behind it, behind stanzas of these names
abbrev pub stanza_fault : List (List ℕ) → NumberedLine → List NumberedLine → Option (ℕ × ConfWhat)
stanza_fault names head lines =
    option_or (option_map (λ what. (head.number, what)) (name_fault names (said_name head.reading))) (lines_fault lines)

-- the first fault of stanzas behind others of these names
abbrev pub stanzas_fault : List (List ℕ) → List (List NumberedLine) → Option (ℕ × ConfWhat)
stanzas_fault names [] = None
stanzas_fault names ([] ∷ stanzas) = stanzas_fault names stanzas
stanzas_fault names ((head ∷ lines) ∷ stanzas) =
    option_or (stanza_fault names head lines) (stanzas_fault (names ++ said_name head.reading ∷ []) stanzas)

-- the first fault of a client's file, with the number of its line: of the lines before its stanzas, then of the stanzas
abbrev pub rc_fault : List ℕ → Option (ℕ × ConfWhat)
rc_fault text = option_or (early_fault (before_head head_name (lines_of text))) (stanzas_fault [] (rc_stanzas text))

-- Neither the lines before the stanzas nor the stanzas up to some one, so at least the first, have a fault.
pub record HasRightBeginning (text : List ℕ) : Type 0 where
  pub front : List (List NumberedLine)
  pub stanza : List NumberedLine
  pub behind : List (List NumberedLine)
  pub split : rc_stanzas text ≡ front ++ stanza ∷ behind
  pub early : early_fault (before_head head_name (lines_of text)) ≡ None
  pub faultless : stanzas_fault [] (front ++ stanza ∷ []) ≡ None

-- The answer where there is no file: its first fault, or want of memory, which comes only where the file begins right: its first
-- stanza has no fault.
abbrev pub IsRcErr : List ℕ → ConfErr → Type 0
IsRcErr text (Fault line what) = rc_fault text ≡ Some (line, what)
IsRcErr text NoMemory = HasRightBeginning text
