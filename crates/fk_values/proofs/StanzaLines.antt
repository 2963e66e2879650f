-- The stanzas of lines, seen from their front: one line of another name, one that begins a stanza, one with a fault.
use Rattle.std.proofs.Common.{◌≡◌, ℕ, Bool, true, false, List, [], ◌∷◌, Some, sym, ◌∙◌, ap, if◌then◌else◌}
use Rattle.std.specs.Str.{bytes_eq}
use Rattle.fk_lines.specs.Cursor.{said, faulty}
use Rattle.fk_lines.specs.Lines.{NumberedLine, Setting}
use Rattle.fk_lines.specs.declared.fault.LineFault.{LineFault}
use Rattle.fk_lines.specs.declared.lines.Line.{Line}
use Rattle.fk_values.specs.Stanzas.{before_head, stanza_from, stanzas_from, stanzas_in}

pub before-other : (head : List ℕ) (left rest : List NumberedLine) (number : ℕ) (setting : Setting) →
    left ≡ said number setting.name setting.value ∷ rest → false ≡ bytes_eq head setting.name →
    before_head head left ≡ said number setting.name setting.value ∷ before_head head rest
before-other head left rest number setting is other =
    ap (before_head head) is ∙ sym (ap (λ (b : Bool). if b then [] else said number setting.name setting.value ∷ before_head head rest) other)

pub before-this : (head : List ℕ) (left rest : List NumberedLine) (number : ℕ) (setting : Setting) →
    left ≡ said number setting.name setting.value ∷ rest → true ≡ bytes_eq head setting.name → before_head head left ≡ []
before-this head left rest number setting is this =
    ap (before_head head) is ∙ sym (ap (λ (b : Bool). if b then [] else said number setting.name setting.value ∷ before_head head rest) this)

pub before-faulty : (head : List ℕ) (left rest : List NumberedLine) (number : ℕ) (fault : LineFault) → left ≡ faulty number fault ∷ rest →
    before_head head left ≡ faulty number fault ∷ before_head head rest
before-faulty head left rest number fault is = ap (before_head head) is

pub stanzas-other : (head : List ℕ) (left rest : List NumberedLine) (number : ℕ) (setting : Setting) →
    left ≡ said number setting.name setting.value ∷ rest → false ≡ bytes_eq head setting.name → stanzas_in head left ≡ stanzas_in head rest
stanzas-other head left rest number setting is other =
    ap (stanzas_in head) is
    ∙ sym (ap (λ (b : Bool). if b then (said number setting.name setting.value ∷ before_head head rest) ∷ stanzas_in head rest else stanzas_in head rest)
    other)

pub stanzas-this : (head : List ℕ) (left rest : List NumberedLine) (line : Line) → left ≡ said line.number line.name.now line.value.now ∷ rest →
    true ≡ bytes_eq head line.name.now → stanzas_in head left ≡ stanzas_from head (Some line) rest
stanzas-this head left rest line is this =
    ap (stanzas_in head) is
    ∙ sym (ap (λ (b : Bool). if b then stanza_from head line rest ∷ stanzas_in head rest else stanzas_in head rest) this)

pub stanzas-faulty : (head : List ℕ) (left rest : List NumberedLine) (number : ℕ) (fault : LineFault) → left ≡ faulty number fault ∷ rest →
    stanzas_in head left ≡ stanzas_in head rest
stanzas-faulty head left rest number fault is = ap (stanzas_in head) is
