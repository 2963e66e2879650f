-- What the lines of a file set, or those of one stanza of it, and which of them is the first that is wrong.
use Rattle.std.specs.Prelude.{◌≡◌, ℕ, Bool, false, ◌==◌, ◌++◌, List, [], ◌∷◌, find, Option, Some, None, is_none, is_some, Result, Ok, Err, if◌then◌else◌}
use Rattle.std.specs.List.{filter_map}
use Rattle.std.specs.Option.{option_map, option_map_or, option_or, option_and_then}
use Rattle.std.specs.Result.{result_ok}
use Rattle.std.specs.Str.{bytes_eq}
use Rattle.fk_base.specs.FirstFailed.{first_failed}
use Rattle.fk_lines.specs.Lines.{NumberedLine, Setting}
use Rattle.fk_lines.specs.declared.fault.LineFault.{LineFault}
use Rattle.fk_values.specs.Given.{given_at}
use Rattle.fk_values.specs.declared.setting_fault.SettingFault.{SettingFault}
use Rattle.fk_values.specs.declared.setting_fault.SettingFault.TheVariants.{Line, UnknownName, Twice, BadValue}

-- A name that a file knows: the number of what it sets, and what its value may be. Two spellings of one thing have one
-- number.
pub record NameRule : Type 0 where
  pub name : List ℕ
  pub sets : ℕ
  pub is_value : List ℕ → Bool

-- a row of a file's table
abbrev pub named : List ℕ → ℕ → (List ℕ → Bool) → NameRule
named name sets is_value = record { name = name; sets = sets; is_value = is_value }

-- a value is right where it can be read
abbrev pub reads_as : {X : Type 0} → (List ℕ → Option X) → List ℕ → Bool
reads_as read value = is_some (read value)

-- the rule of a name, where the file knows it
abbrev pub rule_of : List NameRule → List ℕ → Option NameRule
rule_of rules name = find (λ rule. bytes_eq rule.name name) rules

-- the setting sets what has this number
abbrev pub is_for : List NameRule → ℕ → Setting → Bool
is_for rules number setting = option_map_or (λ rule. rule.sets == number) (rule_of rules setting.name) false

-- which setting sets what has a number, where one does
abbrev pub given_by : List NameRule → List Setting → ℕ → Option Setting
given_by rules settings number = find (is_for rules number) settings

-- the tests of a setting behind others: that its name is known, that nothing before it set the same, that its value is right
abbrev pub rule_fault : (ℕ → Option Setting) → List ℕ → Option NameRule → Option SettingFault
rule_fault given value None = Some UnknownName
rule_fault given value (Some rule) = first_failed ((is_none (given rule.sets), Twice) ∷ (rule.is_value value, BadValue) ∷ [])

-- the first test that a setting fails, behind what is given
abbrev pub setting_fault : List NameRule → (ℕ → Option Setting) → Setting → Option SettingFault
setting_fault rules given setting = rule_fault given setting.value (rule_of rules setting.name)

-- the first test that a line fails, behind these settings
abbrev pub reading_fault : List NameRule → List Setting → Result Setting LineFault → Option SettingFault
reading_fault rules before (Ok setting) = setting_fault rules (given_by rules before) setting
reading_fault rules before (Err fault) = Some (Line fault)

-- what the lines say that have no fault of their own
abbrev pub settings_of : List NumberedLine → List Setting
settings_of lines = filter_map (λ line. result_ok line.reading) lines

-- the first test that lines fail behind these settings, with the number of its line
abbrev pub first_fault : List NameRule → List Setting → List NumberedLine → Option (ℕ × SettingFault)
first_fault rules before [] = None
first_fault rules before (line ∷ lines) =
    option_or (option_map (λ fault. (line.number, fault)) (reading_fault rules before line.reading))
    (first_fault rules (before ++ settings_of (line ∷ [])) lines)

-- what is given, and with it what one more setting sets that was not given
abbrev pub with_setting : List NameRule → (ℕ → Option Setting) → Setting → ℕ → Option Setting
with_setting rules given setting number = option_or (given number) (if is_for rules number setting then Some setting else None)

-- a setting without a fault was put beside what was given
pub record AddsSetting (rules : List NameRule) (old new : List (Option Setting)) (setting : Setting) : Type 0 where
  pub faultless : setting_fault rules (given_at old) setting ≡ None
  pub added : (number : ℕ) → given_at new number ≡ with_setting rules (given_at old) setting number

-- the fault of a setting was told, and nothing was put beside what was given
abbrev pub RefusesSetting : List NameRule → List (Option Setting) → List (Option Setting) → Setting → SettingFault → Type 0
RefusesSetting rules old new setting fault = (setting_fault rules (given_at old) setting ≡ Some fault) × (new ≡ old)

-- this holds where the setting has a rule, by which it sets what has this number and its value is right or not
abbrev pub WhereRuled : List NameRule → Setting → ℕ → Bool → Type 0 → Type 0
WhereRuled rules setting sets is_value Holds = (rule : NameRule) → rule_of rules setting.name ≡ Some rule
    → rule.sets ≡ sets → rule.is_value setting.value ≡ is_value → Holds

-- what one of the settings gives for a number, read in this way
abbrev pub read_of : {X : Type 0} → (List ℕ → Option X) → Option Setting → Option X
read_of read given = option_and_then (λ setting. read setting.value) given
