-- What is known while a file's lines are read one by one: which faults are behind, and what is given.
use Rattle.std.proofs.Common.{◌≡◌, ℕ, List, [], ◌∷◌, ◌++◌, Option, Some, None, refl, sym, ◌∙◌, ap, if◌then◌else◌, append_assoc}
use Rattle.std.specs.Option.{option_or}
use Rattle.std.proofs.lemmas.List.{append-nil}
use Rattle.std.proofs.lemmas.List.Folds.{find-append}
use Rattle.fk_lines.specs.Cursor.{said, faulty}
use Rattle.fk_lines.specs.Lines.{NumberedLine, Setting}
use Rattle.fk_lines.specs.declared.fault.LineFault.{LineFault}
use Rattle.fk_values.specs.Given.{given_at}
use Rattle.fk_values.specs.Settings.{AddsSetting, NameRule, first_fault, given_by, is_for, setting_fault, settings_of, with_setting}
use Rattle.fk_values.specs.declared.setting_fault.SettingFault.{SettingFault}
use Rattle.fk_values.specs.declared.setting_fault.SettingFault.TheVariants.{Line}

pub record IsReading (rules : List NameRule) (lines left : List NumberedLine) (given : List (Option Setting)) : Type 0 where
  -- what the lines in front of those that are left say
  pub before : List Setting
  pub given_is : (number : ℕ) → given_at given number ≡ given_by rules before number
  pub fault_is : first_fault rules [] lines ≡ first_fault rules before left
  pub settings_are : settings_of lines ≡ before ++ settings_of left

pub given_by-append : (rules : List NameRule) (before : List Setting) (setting : Setting) (number : ℕ) →
    given_by rules (before ++ setting ∷ []) number ≡ with_setting rules (given_by rules before) setting number
given_by-append rules before setting number = find-append (is_for rules number) before (setting ∷ [])

pub reading_begins : (rules : List NameRule) (lines : List NumberedLine) (given : List (Option Setting)) →
    ((number : ℕ) → given_at given number ≡ None) → IsReading rules lines lines given
reading_begins rules lines given none = record { before = []; given_is = none; fault_is = refl; settings_are = refl }

-- the test of a setting sees what is given, whichever way it is kept
same_fault : (rules : List NameRule) (given : List (Option Setting)) (before : List Setting) (setting : Setting) →
    ((number : ℕ) → given_at given number ≡ given_by rules before number) →
    setting_fault rules (given_by rules before) setting ≡ setting_fault rules (given_at given) setting
same_fault rules given before setting same =
    let e : given_by rules before ≡ given_at given = (λ i number. sym (same number) i) in
    ap (λ (g : ℕ → Option Setting). setting_fault rules g setting) e

pub reading_goes_on : (rules : List NameRule) (lines left rest : List NumberedLine) (number : ℕ) (setting : Setting) (given next : List (Option Setting)) →
    left ≡ said number setting.name setting.value ∷ rest → AddsSetting rules given next setting → IsReading rules lines left given →
    IsReading rules lines rest next
reading_goes_on rules lines left rest number setting given next is adds read =
    let fault = same_fault rules given read.before setting read.given_is ∙ adds.faultless in
    record {
      before = read.before ++ setting ∷ [];
      given_is = λ n. adds.added n ∙ ap (λ (g : Option Setting). option_or g (if is_for rules n setting then Some setting else None)) (read.given_is n)
          ∙ sym (given_by-append rules read.before setting n);
      fault_is = read.fault_is ∙ ap (first_fault rules read.before) is ∙ rw fault refl;
      settings_are = read.settings_are ∙ ap (λ (ls : List NumberedLine). read.before ++ settings_of ls) is ∙ sym (append_assoc read.before (setting ∷ []) (settings_of rest));
    }

pub reading_is_faulty : (rules : List NameRule) (lines left rest : List NumberedLine) (number : ℕ) (fault : LineFault) (given : List (Option Setting)) →
    left ≡ faulty number fault ∷ rest → IsReading rules lines left given → first_fault rules [] lines ≡ Some (number, Line fault)
reading_is_faulty rules lines left rest number fault given is read = read.fault_is ∙ ap (first_fault rules read.before) is

pub reading_is_refused : (rules : List NameRule) (lines left rest : List NumberedLine) (number : ℕ) (setting : Setting) (fault : SettingFault) (given : List (Option Setting)) →
    left ≡ said number setting.name setting.value ∷ rest → setting_fault rules (given_at given) setting ≡ Some fault → IsReading rules lines left given →
    first_fault rules [] lines ≡ Some (number, fault)
reading_is_refused rules lines left rest number setting fault given is refused read =
    let found = same_fault rules given read.before setting read.given_is ∙ refused in
    read.fault_is ∙ ap (first_fault rules read.before) is ∙ rw found refl

-- nothing is left: no line was wrong, and what is given is what all lines set
pub reading_ends : (rules : List NameRule) (lines left : List NumberedLine) (given : List (Option Setting)) → left ≡ [] → IsReading rules lines left given →
    (first_fault rules [] lines ≡ None) × ((number : ℕ) → given_at given number ≡ given_by rules (settings_of lines) number)
reading_ends rules lines left given is read =
    let all = read.settings_are ∙ ap (λ (ls : List NumberedLine). read.before ++ settings_of ls) is ∙ append-nil read.before in (
      read.fault_is ∙ ap (first_fault rules read.before) is,
      λ n. read.given_is n ∙ ap (λ (settings : List Setting). given_by rules settings n) (sym all),
    )
