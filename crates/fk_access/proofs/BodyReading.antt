-- What is known while the lines of a stanza are read one by one: which faults are behind, and what is kept.
use Rattle.std.proofs.Common.{◌≡◌, ℕ, List, [], ◌∷◌, ◌++◌, Some, None, refl, sym, ◌∙◌, ap, subst, append_assoc}
use Rattle.std.proofs.lemmas.List.{append-nil}
use Rattle.fk_lines.specs.Cursor.{said, faulty}
use Rattle.fk_lines.specs.Lines.{NumberedLine, Setting}
use Rattle.fk_lines.specs.declared.fault.LineFault.{LineFault}
use Rattle.fk_values.specs.Settings.{settings_of}
use Rattle.fk_access.specs.declared.access_err.AccessWhat.{AccessWhat}
use Rattle.fk_access.specs.declared.access_err.AccessWhat.TheVariants.{Line}
use Rattle.fk_access.specs.declared.body.Body.{Body}
use Rattle.fk_access.specs.AccessFault.{lines_fault, setting_what}
use Rattle.fk_access.specs.Private.{IsBody, IsKept}

pub record IsBodyReading (lines left : List NumberedLine) (body : Body) : Type 0 where
  -- what the lines in front of those that are left say
  pub before : List Setting
  pub kept : IsKept before body
  pub fault_is : lines_fault [] lines ≡ lines_fault before left
  pub settings_are : settings_of lines ≡ before ++ settings_of left

pub body_begins : (lines : List NumberedLine) (body : Body) → IsKept [] body → IsBodyReading lines lines body
body_begins lines body kept = record { before = []; kept = kept; fault_is = refl; settings_are = refl }

pub body_goes_on : (lines left rest : List NumberedLine) (number : ℕ) (setting : Setting) (old new : Body) →
    left ≡ said number setting.name setting.value ∷ rest → (read : IsBodyReading lines left old) →
    (setting_what read.before setting ≡ None) × IsKept (read.before ++ setting ∷ []) new → IsBodyReading lines rest new
body_goes_on lines left rest number setting old new is read adds =
    let none = adds.0 in
    record {
      before = read.before ++ setting ∷ [];
      kept = adds.1;
      fault_is = read.fault_is ∙ ap (lines_fault read.before) is ∙ rw none refl;
      settings_are = read.settings_are ∙ ap (λ (ls : List NumberedLine). read.before ++ settings_of ls) is ∙ sym (append_assoc read.before (setting ∷ []) (settings_of rest));
    }

-- the line that begins a stanza

pub first_goes_on : (lines rest : List NumberedLine) (number : ℕ) (setting : Setting) (old new : Body) →
    lines ≡ said number setting.name setting.value ∷ rest → IsKept [] old →
    (setting_what [] setting ≡ None) × IsKept (setting ∷ []) new → IsBodyReading lines rest new
unfolding body_begins
first_goes_on lines rest number setting old new is kept adds = body_goes_on lines lines rest number setting old new is (body_begins lines old kept) adds

pub first_is_refused : (lines rest : List NumberedLine) (number : ℕ) (setting : Setting) (what : AccessWhat) →
    lines ≡ said number setting.name setting.value ∷ rest → setting_what [] setting ≡ Some what → lines_fault [] lines ≡ Some (number, what)
first_is_refused lines rest number setting what is refused = ap (lines_fault []) is ∙ rw refused refl

pub body_is_faulty : (lines left rest : List NumberedLine) (number : ℕ) (fault : LineFault) (body : Body) →
    left ≡ faulty number fault ∷ rest → IsBodyReading lines left body → lines_fault [] lines ≡ Some (number, Line fault)
body_is_faulty lines left rest number fault body is read = read.fault_is ∙ ap (lines_fault read.before) is

pub body_is_refused : (lines left rest : List NumberedLine) (number : ℕ) (setting : Setting) (what : AccessWhat) (body : Body) →
    left ≡ said number setting.name setting.value ∷ rest → (read : IsBodyReading lines left body) → setting_what read.before setting ≡ Some what →
    lines_fault [] lines ≡ Some (number, what)
body_is_refused lines left rest number setting what body is read refused =
    read.fault_is ∙ ap (lines_fault read.before) is ∙ rw refused refl

-- nothing is left: no line was wrong, and what is kept is what all lines set
pub body_ends : (lines left : List NumberedLine) (body : Body) → left ≡ [] → IsBodyReading lines left body → IsBody lines body
body_ends lines left body is read =
    let all = read.settings_are ∙ ap (λ (ls : List NumberedLine). read.before ++ settings_of ls) is ∙ append-nil read.before in
    record {
      faultless = read.fault_is ∙ ap (lines_fault read.before) is;
      kept = subst (λ (settings : List Setting). IsKept settings body) (sym all) read.kept;
    }
