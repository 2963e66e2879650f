-- What is wrong with an access file.
use Rattle.std.specs.Prelude.{◌≡◌, ℕ, ◌==◌, ◌&&◌, zero, suc, Bool, not, nat_le, is_none, length, List, [], ◌∷◌, ◌++◌, Option, Some, None, Result, Ok, Err, if◌then◌else◌}
use Rattle.std.specs.Option.{option_map, option_map_or, option_or}
use Rattle.fk_base.specs.FirstFailed.{first_failed}
use Rattle.fk_lines.specs.Lines.{NumberedLine, Setting, lines_of}
use Rattle.fk_lines.specs.declared.fault.LineFault.{LineFault}
use Rattle.fk_values.specs.Settings.{NameRule, rule_of, settings_of}
use Rattle.fk_values.specs.Stanzas.{before_head, stanzas_in}
use Rattle.fk_access.specs.declared.access_err.AccessWhat.{AccessWhat}
use Rattle.fk_access.specs.declared.access_err.AccessWhat.TheVariants.{UnknownName, NoSource, TooMany, Twice, BadValue, Line}
use Rattle.fk_access.specs.declared.access_err.AccessErr.{AccessErr}
use Rattle.fk_access.specs.declared.access_err.AccessErr.TheVariants.{Fault, NoMemory}
use Rattle.fk_access.specs.declared.access_name.AccessName.TheVariants.{KeysUntil}
use Rattle.fk_access.specs.AccessTable.{access_rule, access_rules, source_name}
use Rattle.fk_access.specs.KeyPairs.{ended_pairs, given_behind, is_of_pair}
use Rattle.fk_access.specs.StanzaKeys.{lacks_first, pair_needs}

-- the stanzas of a text: the lists of its lines from one SOURCE line to the next
abbrev pub access_stanzas : List ℕ → List (List NumberedLine)
access_stanzas text = stanzas_in source_name (lines_of text)

-- the fault of a name with which no stanza has begun
abbrev pub early_name : List ℕ → AccessWhat
early_name name = if is_none (rule_of access_rules name) then UnknownName else NoSource

-- the fault of a line with which no stanza has begun
abbrev pub early_what : Result Setting LineFault → AccessWhat
early_what (Ok setting) = early_name setting.name
early_what (Err fault) = Line fault

-- the first fault of the lines that no stanza has, with the number of its line
abbrev pub early_fault : List NumberedLine → Option (ℕ × AccessWhat)
early_fault [] = None
early_fault (line ∷ lines) = Some (line.number, early_what line.reading)

-- what has this number may stand behind these settings of its stanza: it belongs to no pair, or 4 are not ended yet
abbrev pub may_follow : List Setting → ℕ → Bool
may_follow before number = not (is_of_pair number && nat_le 4 (length (ended_pairs before)))

-- The tests of a setting behind others of its stanza: that it begins no fifth pair, that nothing before it set the same, which
-- for a pair's names is asked of that pair alone, that its value is right, and where it ends a pair that this has its keys.
abbrev pub rule_tests : List Setting → List ℕ → NameRule → List (Bool × AccessWhat)
rule_tests before value rule =
    (may_follow before rule.sets, TooMany) ∷ (is_none (given_behind before rule.sets), Twice) ∷ (rule.is_value value, BadValue)
    ∷ (if rule.sets == (access_rule KeysUntil).sets then pair_needs (given_behind before) else [])

-- the first test that a setting fails behind others of its stanza
abbrev pub setting_what : List Setting → Setting → Option AccessWhat
setting_what before setting =
    option_map_or (λ rule. first_failed (rule_tests before setting.value rule)) (rule_of access_rules setting.name) (Some UnknownName)

-- the first test that a line fails behind these settings
abbrev pub line_what : List Setting → Result Setting LineFault → Option AccessWhat
line_what before (Ok setting) = setting_what before setting
line_what before (Err fault) = Some (Line fault)

-- the first fault of a stanza's lines behind these settings, with the number of its line
abbrev pub lines_fault : List Setting → List NumberedLine → Option (ℕ × AccessWhat)
lines_fault before [] = None
lines_fault before (line ∷ lines) =
    option_or (option_map (λ what. (line.number, what)) (line_what before line.reading))
    (lines_fault (before ++ settings_of (line ∷ [])) lines)

-- what settings lack that are those of a whole stanza
abbrev pub settings_lack : List Setting → Option AccessWhat
settings_lack settings = lacks_first (length (ended_pairs settings)) (given_behind settings)

-- the first fault of a stanza: of its lines, else what it lacks, with the number of its SOURCE line
abbrev pub stanza_fault : List NumberedLine → Option (ℕ × AccessWhat)
stanza_fault [] = None
stanza_fault (source ∷ lines) = option_or
    (lines_fault [] (source ∷ lines))
    (option_map (λ what. (source.number, what)) (settings_lack (settings_of (source ∷ lines))))

-- one stanza more than there may be, with the number of its SOURCE line
abbrev pub too_many : List NumberedLine → Option (ℕ × AccessWhat)
too_many [] = None
too_many (source ∷ lines) = Some (source.number, TooMany)

-- the first fault of stanzas of which there may be so many
abbrev pub stanzas_fault : ℕ → List (List NumberedLine) → Option (ℕ × AccessWhat)
stanzas_fault room [] = None
stanzas_fault zero (stanza ∷ stanzas) = too_many stanza
stanzas_fault (suc room) (stanza ∷ stanzas) = option_or (stanza_fault stanza) (stanzas_fault room stanzas)

-- the first fault of an access file, with the number of its line: of the lines before its stanzas, then of the stanzas
abbrev pub access_fault : List ℕ → Option (ℕ × AccessWhat)
access_fault text = option_or (early_fault (before_head source_name (lines_of text))) (stanzas_fault 256 (access_stanzas text))

-- Neither the lines before the stanzas nor the stanzas up to some one, so at least the first, have a fault.
pub record HasRightBeginning (text : List ℕ) : Type 0 where
  pub front : List (List NumberedLine)
  pub stanza : List NumberedLine
  pub behind : List (List NumberedLine)
  pub split : access_stanzas text ≡ front ++ stanza ∷ behind
  pub early : early_fault (before_head source_name (lines_of text)) ≡ None
  pub faultless : stanzas_fault 256 (front ++ stanza ∷ []) ≡ None

-- The answer where there is no access list: the first fault of the file, or want of memory, which comes only where the file begins
-- right: its first stanza has no fault.
abbrev pub IsAccessErr : List ℕ → AccessErr → Type 0
IsAccessErr text (Fault line what) = access_fault text ≡ Some (line, what)
IsAccessErr text NoMemory = HasRightBeginning text
