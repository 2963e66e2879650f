-- The stanzas of a client's file, read one by one.
use Rattle.std.proofs.Common.{◌≡◌, ℕ, Bool, List, [], ◌∷◌, ◌++◌, Option, Some, None, refl, sym, ◌∙◌, ap, subst, append_assoc}
use Rattle.std.proofs.lemmas.List.{append-nil}
use Rattle.std.specs.Prelude.{◌||◌}
use Rattle.std.specs.List.{AllZip, list_any}
use Rattle.std.specs.Str.{bytes_eq}
use Rattle.std.specs.Option.{option_map, option_or}
use Rattle.fk_lines.specs.Cursor.{said}
use Rattle.fk_lines.specs.Lines.{NumberedLine, lines_of}
use Rattle.fk_lines.specs.declared.lines.Line.{Line}
use Rattle.fk_values.specs.Settings.{first_fault}
use Rattle.fk_values.specs.Stanzas.{before_head}
use Rattle.fk_values.specs.declared.setting_fault.SettingFault.{SettingFault}
use Rattle.fk_conf.specs.ConfWhat.{conf_what}
use Rattle.fk_conf.specs.declared.conf_err.ConfWhat.{ConfWhat}
use Rattle.fk_conf.specs.declared.conf_err.ConfErr.{ConfErr}
use Rattle.fk_conf.specs.declared.conf_err.ConfErr.TheVariants.{Fault, NoMemory}
use Rattle.fk_conf.specs.declared.rc_stanza.RcStanza.{RcStanza}
use Rattle.fk_conf.specs.RcFault.{HasRightBeginning, IsRcErr, early_fault, lines_fault, name_fault, rc_fault, rc_stanzas, stanza_fault, stanzas_fault}
use Rattle.fk_conf.specs.RcPrivate.{IsBodyErr, names_of}
use Rattle.fk_conf.specs.RcTable.{head_name, rc_rules}
use Rattle.fk_conf.specs.ReadsRc.{IsRcStanzaOf, SaysRc}

-- so many stanzas were read, and these are left
pub record IsRcReading (text : List ℕ) (left : List (List NumberedLine)) (file : List RcStanza) : Type 0 where
  pub done : List (List NumberedLine)
  pub split : rc_stanzas text ≡ done ++ left
  pub each : AllZip IsRcStanzaOf done file
  pub fault_is : (others : List (List NumberedLine)) → stanzas_fault [] (done ++ others) ≡ stanzas_fault (names_of file) others

pub rc_begins : (text : List ℕ) (left : List (List NumberedLine)) (file : List RcStanza) → rc_stanzas text ≡ left → file ≡ [] → IsRcReading text left file
rc_begins text left file is none =
    subst (λ (f : List RcStanza). IsRcReading text left f) (sym none)
    (record { done = []; split = is; each = tt; fault_is = λ others. refl })

fault_left : (text : List ℕ) (left : List (List NumberedLine)) (file : List RcStanza) → IsRcReading text left file →
    stanzas_fault [] (rc_stanzas text) ≡ stanzas_fault (names_of file) left
fault_left text left file before = ap (stanzas_fault []) before.split ∙ before.fault_is left

-- the head of a stanza, as its line says it
abbrev pub head_of : Line → NumberedLine
head_of head = said head.number head.name.now head.value.now

AllZip-push : (lines : List (List NumberedLine)) (stanzas : List RcStanza) (line : List NumberedLine) (stanza : RcStanza) →
    AllZip IsRcStanzaOf lines stanzas → IsRcStanzaOf line stanza → AllZip IsRcStanzaOf (lines ++ line ∷ []) (stanzas ++ stanza ∷ [])
AllZip-push [] [] line stanza each is = (is, tt)
AllZip-push [] (s ∷ stanzas) line stanza each is = absurd each
AllZip-push (l ∷ lines) [] line stanza each is = absurd each
AllZip-push (l ∷ lines) (s ∷ stanzas) line stanza each is = (each.0, AllZip-push lines stanzas line stanza each.1 is)

names-push : (file : List RcStanza) (read : RcStanza) → names_of (file ++ read ∷ []) ≡ names_of file ++ read.name ∷ []
names-push [] read = refl
names-push (stanza ∷ file) read = ap (λ (names : List (List ℕ)). stanza.name ∷ names) (names-push file read)

-- the names of stanzas are seen where the stanzas are
pub any_name : (name : List ℕ) (file : List RcStanza) →
    list_any (λ stanza. bytes_eq stanza.name name) file ≡ list_any (λ other. bytes_eq other name) (names_of file)
any_name name [] = refl
any_name name (stanza ∷ file) = ap (λ (b : Bool). bytes_eq stanza.name name || b) (any_name name file)

no_lines_fault : (lines : List NumberedLine) → first_fault rc_rules [] lines ≡ None → lines_fault lines ≡ None
no_lines_fault lines none = ap (option_map (λ (found : ℕ × SettingFault). (found.0, conf_what found.1))) none

-- a head whose name is right has the faults of the lines behind it
right_name : (names : List (List ℕ)) (head : Line) (lines : List NumberedLine) → name_fault names head.value.now ≡ None →
    stanza_fault names (head_of head) lines ≡ lines_fault lines
right_name names head lines none =
    ap (λ (f : Option ConfWhat). option_or (option_map (λ (what : ConfWhat). (head.number, what)) f) (lines_fault lines)) none

pub rc_goes_on : (text : List ℕ) (head : Line) (lines : List NumberedLine) (rest left : List (List NumberedLine)) (file next : List RcStanza) (read : RcStanza) →
    IsRcReading text ((head_of head ∷ lines) ∷ rest) file → name_fault (names_of file) head.value.now ≡ None →
    first_fault rc_rules [] lines ≡ None → rest ≡ left → SaysRc (head_of head) lines read → next ≡ file ++ read ∷ [] → IsRcReading text left next
rc_goes_on text head lines rest left file next read before named faultless rest_is says next_is =
    let stanza = head_of head ∷ lines in
    let none = right_name (names_of file) head lines named ∙ no_lines_fault lines faultless in
    let names : names_of file ++ head.value.now ∷ [] ≡ names_of next =
    ap (λ (n : List ℕ). names_of file ++ n ∷ []) (sym says.name) ∙ sym (names-push file read) ∙ ap names_of (sym next_is) in
    record {
      done = before.done ++ stanza ∷ [];
      split = before.split ∙ ap (λ (r : List (List NumberedLine)). before.done ++ stanza ∷ r) rest_is ∙ sym (append_assoc before.done (stanza ∷ []) left);
      each = subst (λ (s : List RcStanza). AllZip IsRcStanzaOf (before.done ++ stanza ∷ []) s) (sym next_is) (AllZip-push before.done file stanza read before.each says);
      fault_is = λ others.
          ap (stanzas_fault []) (append_assoc before.done (stanza ∷ []) others) ∙ before.fault_is (stanza ∷ others)
          ∙ ap (λ (f : Option (ℕ × ConfWhat)). option_or f (stanzas_fault (names_of file ++ head.value.now ∷ []) others)) none
          ∙ ap (λ (n : List (List ℕ)). stanzas_fault n others) names;
    }

pub rc_has_front : (text : List ℕ) (head : Line) (lines : List NumberedLine) (rest : List (List NumberedLine)) (file : List RcStanza) →
    early_fault (before_head head_name (lines_of text)) ≡ None → IsRcReading text ((head_of head ∷ lines) ∷ rest) file →
    name_fault (names_of file) head.value.now ≡ None → first_fault rc_rules [] lines ≡ None → HasRightBeginning text
rc_has_front text head lines rest file early before named faultless =
    record {
      front = before.done;
      stanza = head_of head ∷ lines;
      behind = rest;
      split = before.split;
      early = early;
      faultless = before.fault_is ((head_of head ∷ lines) ∷ [])
          ∙ ap (λ (f : Option (ℕ × ConfWhat)). option_or f None) (right_name (names_of file) head lines named ∙ no_lines_fault lines faultless);
    }

late_fault : (text : List ℕ) (found : Option (ℕ × ConfWhat)) → early_fault (before_head head_name (lines_of text)) ≡ None →
    stanzas_fault [] (rc_stanzas text) ≡ found → rc_fault text ≡ found
late_fault text found early is = ap (λ (f : Option (ℕ × ConfWhat)). option_or f (stanzas_fault [] (rc_stanzas text))) early ∙ is

pub rc_name_is_wrong : (text : List ℕ) (head : Line) (lines : List NumberedLine) (rest : List (List NumberedLine)) (file : List RcStanza) (what : ConfWhat) →
    early_fault (before_head head_name (lines_of text)) ≡ None → IsRcReading text ((head_of head ∷ lines) ∷ rest) file →
    name_fault (names_of file) head.value.now ≡ Some what → rc_fault text ≡ Some (head.number, what)
rc_name_is_wrong text head lines rest file what early before wrong =
    late_fault text (Some (head.number, what)) early (
    fault_left text ((head_of head ∷ lines) ∷ rest) file before
    ∙ ap (λ (f : Option ConfWhat). option_or (option_or (option_map (λ (w : ConfWhat). (head.number, w)) f) (lines_fault lines))
    (stanzas_fault (names_of file ++ head.value.now ∷ []) rest)) wrong)

pub rc_is_wrong : (text : List ℕ) (head : Line) (lines : List NumberedLine) (rest : List (List NumberedLine)) (file : List RcStanza) (err : ConfErr) →
    early_fault (before_head head_name (lines_of text)) ≡ None → IsRcReading text ((head_of head ∷ lines) ∷ rest) file →
    name_fault (names_of file) head.value.now ≡ None → IsBodyErr lines err → IsRcErr text err
rc_is_wrong text head lines rest file (Fault line what) early before named is =
    late_fault text (Some (line, what)) early (
    fault_left text ((head_of head ∷ lines) ∷ rest) file before
    ∙ ap (λ (f : Option (ℕ × ConfWhat)). option_or f (stanzas_fault (names_of file ++ head.value.now ∷ []) rest))
    (right_name (names_of file) head lines named ∙ is))
rc_is_wrong text head lines rest file NoMemory early before named is = rc_has_front text head lines rest file early before named is

pub rc_ends : (text : List ℕ) (file : List RcStanza) → early_fault (before_head head_name (lines_of text)) ≡ None → IsRcReading text [] file →
    (rc_fault text ≡ None) × AllZip IsRcStanzaOf (rc_stanzas text) file
rc_ends text file early before =
    let all = before.split ∙ append-nil before.done in
    (late_fault text None early (fault_left text [] file before), subst (λ (s : List (List NumberedLine)). AllZip IsRcStanzaOf s file) (sym all) before.each)
