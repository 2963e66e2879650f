-- The stanzas of lines, seen from their front, and their faults.
use Rattle.std.proofs.Common.{◌≡◌, ℕ, suc, ◌-◌, ◌<◌, ◌+◌, Bool, true, false, List, [], ◌∷◌, ◌++◌, length, Option, Some, None, refl, sym, ◌∙◌, ap, subst, arith, if◌then◌else◌, append_assoc, length-append}
use Rattle.std.proofs.lemmas.Bool.{and_parts}
use Rattle.std.proofs.lemmas.List.{append-nil}
use Rattle.std.specs.Prelude.{is_some, nat_eq}
use Rattle.std.specs.List.{AllZip}
use Rattle.std.specs.Option.{option_and_then, option_map, option_map_or, option_or}
use Rattle.std.specs.Str.{bytes_eq}
use Rattle.fk_base.specs.FirstFailed.{first_failed}
use Rattle.fk_lines.specs.Cursor.{said}
use Rattle.fk_lines.specs.Lines.{NumberedLine, Setting, lines_of}
use Rattle.fk_lines.specs.declared.lines.Line.{Line}
use Rattle.fk_subst.specs.CommandFault.{is_template}
use Rattle.fk_values.specs.Given.{given_at, said_by}
use Rattle.fk_values.specs.KeyOf.{key_by}
use Rattle.fk_values.specs.Stanzas.{before_head, stanza_from, stanzas_in}
use Rattle.fk_values.specs.Settings.{NameRule, given_by, rule_of, settings_of}
use Rattle.fk_access.specs.declared.access_err.AccessWhat.{AccessWhat}
use Rattle.fk_access.specs.declared.access_err.AccessWhat.TheVariants.{BadValue, TooMany, UnknownName, NoKey, NoHmacKey, NoOpen, NoClose, NoTimer}
use Rattle.fk_access.specs.declared.access_err.AccessErr.{AccessErr}
use Rattle.fk_access.specs.declared.access_err.AccessErr.TheVariants.{Fault, NoMemory}
use Rattle.fk_access.specs.declared.access_name.AccessName.TheVariants.{Source, KeyBase64, HmacKeyBase64, CmdCycleOpen, CmdCycleClose}
use Rattle.fk_access.specs.declared.body.Body.{Body}
use Rattle.fk_access.specs.declared.stanza.Stanza.{Stanza}
use Rattle.fk_access.specs.AccessFault.{HasRightBeginning, IsAccessErr, early_fault, lines_fault, rule_tests, setting_what, settings_lack, stanza_fault, stanzas_fault}
use Rattle.fk_access.specs.AccessTable.{access_rule, access_rules, given_in, source_name}
use Rattle.fk_access.specs.AccessValues.{are_sources, is_closing}
use Rattle.fk_access.specs.KeyPairs.{has_last_pair, is_of_pair}
use Rattle.fk_access.specs.Private.{HasKeys, IsBody, IsErrAt, IsFaultAt, IsTimedAt, given_in_body, pairs_in_body}
use Rattle.fk_access.specs.ReadsAccess.{IsStanzaOf, IsGiven}
use Rattle.fk_access.specs.StanzaKeys.{has_value, lacks_first, last_needs, pair_needs, rest_needs, timer_of}
use Rattle.fk_access.proofs.RingSteps.{lack_is, stanza_said}

-- the rule of the name that begins a stanza

pub source_rule : (name : List ℕ) → bytes_eq source_name name ≡ true → rule_of access_rules name ≡ Some (access_rule Source)
source_rule name is = rw is refl

-- the line that begins a stanza is given as its SOURCE
pub source_is_given : (source : Line) (left : List NumberedLine) (body : Body) → bytes_eq source_name source.name.now ≡ true →
    IsBody (stanza_from source_name source left) body → given_at body.rest 0 ≡ Some (said_by source)
source_is_given source left body name read =
    read.kept.rest_is 0 refl
    ∙ ap (λ (r : Option NameRule). if option_map_or (λ rule. nat_eq rule.sets 0) r false then Some (said_by source)
    else given_by access_rules (settings_of (before_head source_name left)) 0) (source_rule source.name.now name)

-- a SOURCE line with a wrong value is the first fault of its stanza
pub bad_sources : (number : ℕ) (setting : Setting) (rest : List NumberedLine) → bytes_eq source_name setting.name ≡ true →
    are_sources setting.value ≡ false → lines_fault [] (said number setting.name setting.value ∷ rest) ≡ Some (number, BadValue)
bad_sources number setting rest name other =
    let fault : setting_what [] setting ≡ Some BadValue =
    ap (λ (r : Option NameRule). option_map_or (λ rule. first_failed (rule_tests [] setting.value rule)) r (Some UnknownName)) (source_rule setting.name name)
    ∙ rw other refl in
    ap (λ (f : Option AccessWhat). option_or (option_map (λ what. (number, what)) f)
    (lines_fault ([] ++ settings_of (said number setting.name setting.value ∷ [])) rest)) fault

-- the faults of a stanza

pub lines_err : (source : Line) (left : List NumberedLine) (err : AccessErr) → IsFaultAt (lines_fault [] (stanza_from source_name source left)) err →
    IsErrAt (stanza_fault (stanza_from source_name source left)) err
lines_err source left (Fault line what) is =
    ap (λ (f : Option (ℕ × AccessWhat)). option_or f (option_map (λ (w : AccessWhat). (source.number, w))
    (settings_lack (settings_of (stanza_from source_name source left))))) is
lines_err source left NoMemory is = absurd is

pub stanza_fault-read : (source : Line) (left : List NumberedLine) (body : Body) → IsBody (stanza_from source_name source left) body →
    stanza_fault (stanza_from source_name source left)
    ≡ option_map (λ (w : AccessWhat). (source.number, w)) (lacks_first (length body.ended) (given_in_body body))
stanza_fault-read source left body read =
    let settings = settings_of (stanza_from source_name source left) in
    ap (λ (f : Option (ℕ × AccessWhat)). option_or f (option_map (λ (w : AccessWhat). (source.number, w)) (settings_lack settings))) read.faultless
    ∙ ap (option_map (λ (w : AccessWhat). (source.number, w))) (lack_is settings body read.kept)

pub lacking_err : (source : Line) (left : List NumberedLine) (body : Body) (err : AccessErr) → IsBody (stanza_from source_name source left) body →
    IsErrAt (option_map (λ (w : AccessWhat). (source.number, w)) (lacks_first (length body.ended) (given_in_body body))) err →
    IsErrAt (stanza_fault (stanza_from source_name source left)) err
lacking_err source left body (Fault line what) read is = stanza_fault-read source left body read ∙ is
lacking_err source left body NoMemory read is = stanza_fault-read source left body read ∙ is

pub lacks_nothing : (source : Line) (left : List NumberedLine) (body : Body) → IsBody (stanza_from source_name source left) body →
    lacks_first (length body.ended) (given_in_body body) ≡ None → stanza_fault (stanza_from source_name source left) ≡ None
lacks_nothing source left body read none =
    stanza_fault-read source left body read ∙ ap (option_map (λ (w : AccessWhat). (source.number, w))) none

pub stanza_is_read : (source : Line) (left : List NumberedLine) (body : Body) (stanza : Stanza) → IsBody (stanza_from source_name source left) body →
    stanza.line ≡ source.number → IsGiven (given_in_body body) stanza → AllZip IsTimedAt (pairs_in_body body) stanza.ring →
    IsStanzaOf (stanza_from source_name source left) stanza
stanza_is_read source left body stanza read line fields ring =
    (line, stanza_said (settings_of (stanza_from source_name source left)) body stanza read.kept fields ring)

-- the stanzas of a file, one by one

-- so many stanzas were read, and these are left
pub record IsAccessReading (lines : List NumberedLine) (left : List (List NumberedLine)) (access : List Stanza) : Type 0 where
  pub done : List (List NumberedLine)
  pub split : stanzas_in source_name lines ≡ done ++ left
  pub each : AllZip IsStanzaOf done access
  pub fault_is : (others : List (List NumberedLine)) → stanzas_fault 256 (done ++ others) ≡ stanzas_fault (256 - length access) others

pub access_begins : (lines left_lines : List NumberedLine) (left : List (List NumberedLine)) → stanzas_in source_name lines ≡ left → IsAccessReading lines left []
access_begins lines left_lines left is = record { done = []; split = is; each = tt; fault_is = λ others. refl }

fault_left : (lines : List NumberedLine) (left : List (List NumberedLine)) (access : List Stanza) → IsAccessReading lines left access →
    stanzas_fault 256 (stanzas_in source_name lines) ≡ stanzas_fault (256 - length access) left
fault_left lines left access before = ap (stanzas_fault 256) before.split ∙ before.fault_is left

AllZip-push : (lines : List (List NumberedLine)) (stanzas : List Stanza) (line : List NumberedLine) (stanza : Stanza) → AllZip IsStanzaOf lines stanzas →
    IsStanzaOf line stanza → AllZip IsStanzaOf (lines ++ line ∷ []) (stanzas ++ stanza ∷ [])
AllZip-push [] [] line stanza each is = (is, tt)
AllZip-push [] (s ∷ stanzas) line stanza each is = absurd each
AllZip-push (l ∷ lines) [] line stanza each is = absurd each
AllZip-push (l ∷ lines) (s ∷ stanzas) line stanza each is = (each.0, AllZip-push lines stanzas line stanza each.1 is)

room_left : (n m : ℕ) (stanza : List NumberedLine) (rest : List (List NumberedLine)) → n ≡ suc m →
    stanzas_fault n (stanza ∷ rest) ≡ option_or (stanza_fault stanza) (stanzas_fault m rest)
room_left n m stanza rest is = ap (λ (k : ℕ). stanzas_fault k (stanza ∷ rest)) is

pub access_goes_on : (lines : List NumberedLine) (stanza : List NumberedLine) (rest left : List (List NumberedLine)) (access next : List Stanza) (read : Stanza) →
    IsAccessReading lines (stanza ∷ rest) access → length access < 256 → rest ≡ left → IsStanzaOf stanza read → stanza_fault stanza ≡ None →
    next ≡ access ++ read ∷ [] → IsAccessReading lines left next
access_goes_on lines stanza rest left access next read before few rest_is is faultless next_is =
    let grown : length next ≡ length access + 1 = ap length next_is ∙ length-append access (read ∷ []) in
    let room : 256 - length access ≡ suc (256 - length next) = omega arith in
    record {
      done = before.done ++ stanza ∷ [];
      split = before.split ∙ ap (λ (r : List (List NumberedLine)). before.done ++ stanza ∷ r) rest_is ∙ sym (append_assoc before.done (stanza ∷ []) left);
      each = subst (λ (s : List Stanza). AllZip IsStanzaOf (before.done ++ stanza ∷ []) s) (sym next_is) (AllZip-push before.done access stanza read before.each is);
      fault_is = λ others.
          ap (stanzas_fault 256) (append_assoc before.done (stanza ∷ []) others)
          ∙ before.fault_is (stanza ∷ others) ∙ room_left (256 - length access) (256 - length next) stanza others room
          ∙ ap (λ (f : Option (ℕ × AccessWhat)). option_or f (stanzas_fault (256 - length next) others)) faultless;
    }

pub access_has_front : (text : List ℕ) (stanza : List NumberedLine) (rest : List (List NumberedLine)) (access : List Stanza) →
    early_fault (before_head source_name (lines_of text)) ≡ None → IsAccessReading (lines_of text) (stanza ∷ rest) access → length access < 256 →
    stanza_fault stanza ≡ None → HasRightBeginning text
access_has_front text stanza rest access early before few faultless =
    let room : 256 - length access ≡ suc (255 - length access) = omega arith in
    record {
      front = before.done;
      stanza = stanza;
      behind = rest;
      split = before.split;
      early = early;
      faultless = before.fault_is (stanza ∷ []) ∙ room_left (256 - length access) (255 - length access) stanza [] room
          ∙ ap (λ (f : Option (ℕ × AccessWhat)). option_or f (stanzas_fault (255 - length access) [])) faultless;
    }

pub access_is_wrong : (text : List ℕ) (stanza : List NumberedLine) (rest : List (List NumberedLine)) (access : List Stanza) (err : AccessErr) →
    early_fault (before_head source_name (lines_of text)) ≡ None → IsAccessReading (lines_of text) (stanza ∷ rest) access → length access < 256 →
    IsErrAt (stanza_fault stanza) err → IsAccessErr text err
access_is_wrong text stanza rest access (Fault line what) early before few is =
    let room : 256 - length access ≡ suc (255 - length access) = omega arith in
    let late = fault_left (lines_of text) (stanza ∷ rest) access before ∙ room_left (256 - length access) (255 - length access) stanza rest room
    ∙ ap (λ (f : Option (ℕ × AccessWhat)). option_or f (stanzas_fault (255 - length access) rest)) is in
    ap (λ (f : Option (ℕ × AccessWhat)). option_or f (stanzas_fault 256 (stanzas_in source_name (lines_of text)))) early ∙ late
access_is_wrong text stanza rest access NoMemory early before few is = access_has_front text stanza rest access early before few is

pub access_is_full : (lines : List NumberedLine) (source : Line) (left : List NumberedLine) (rest : List (List NumberedLine)) (access : List Stanza) →
    IsAccessReading lines (stanza_from source_name source left ∷ rest) access → length access ≡ 256 →
    stanzas_fault 256 (stanzas_in source_name lines) ≡ Some (source.number, TooMany)
access_is_full lines source left rest access before full =
    let none : 256 - length access ≡ 0 = omega arith in
    fault_left lines (stanza_from source_name source left ∷ rest) access before ∙ ap (λ (k : ℕ). stanzas_fault k (stanza_from source_name source left ∷ rest)) none

pub access_ends : (lines : List NumberedLine) (access : List Stanza) → IsAccessReading lines [] access →
    (stanzas_fault 256 (stanzas_in source_name lines) ≡ None) × AllZip IsStanzaOf (stanzas_in source_name lines) access
access_ends lines access before =
    let all = before.split ∙ append-nil before.done in
    (fault_left lines [] access before, subst (λ (s : List (List NumberedLine)). AllZip IsStanzaOf s access) (sym all) before.each)

-- a stanza lacks nothing

pub record IsComplete (given : ℕ → Option Setting) : Type 0 where
  pub opening : has_value is_template (given_in given CmdCycleOpen) ≡ true
  pub closing : has_value is_closing (given_in given CmdCycleClose) ≡ true
  pub timer : is_some (timer_of given) ≡ true

passed : (b : Bool) (rest : Option AccessWhat) (fault : AccessWhat) → (if b then rest else Some fault) ≡ None → (b ≡ true) × (rest ≡ None)
passed true rest fault is = (refl, is)
passed false rest fault is = cc

rest_complete : (given : ℕ → Option Setting) → first_failed (rest_needs given) ≡ None → IsComplete given
rest_complete given none =
    let first = passed _ _ NoOpen none in
    let second = passed _ _ NoClose first.1 in
    let third = passed _ _ NoTimer second.1 in
    record { opening = first.0; closing = second.0; timer = third.0 }

-- the tests behind others that none of them fails
behind : (tests others : List (Bool × AccessWhat)) → first_failed (tests ++ others) ≡ None → (first_failed tests ≡ None) × (first_failed others ≡ None)
behind [] others none = (refl, none)
behind ((true, fault) ∷ tests) others none = behind tests others none
behind ((false, fault) ∷ tests) others none = cc

pub complete_from_none : (ended : ℕ) (given : ℕ → Option Setting) → lacks_first ended given ≡ None → IsComplete given
complete_from_none ended given none = rest_complete given (behind (last_needs ended given) (rest_needs given) none).1

pub keys_from_none : (given : List (Option Setting)) → first_failed (pair_needs (given_at given)) ≡ None → HasKeys given
keys_from_none given none =
    let first = passed _ _ NoKey none in
    let second = passed _ _ NoHmacKey first.1 in
    record { key = first.0; mac_key = second.0 }

-- the pair that is begun has its keys, where it is one of the stanza's
pub last_has_keys : (body : Body) → has_last_pair (length body.ended) (given_at body.pair) ≡ true →
    lacks_first (length body.ended) (given_in_body body) ≡ None → HasKeys body.pair
last_has_keys body last none =
    let needs = (behind (last_needs (length body.ended) (given_in_body body)) (rest_needs (given_in_body body)) none).0 in
    keys_from_none body.pair (ap (λ (b : Bool). first_failed (if b then pair_needs (given_at body.pair) else [])) (sym last) ∙ needs)

pub keys_same : (given other : List (Option Setting)) → ((number : ℕ) → is_of_pair number ≡ true → given_at other number ≡ given_at given number) →
    HasKeys given → HasKeys other
keys_same given other same keys = record {
  key = ap (λ (g : Option Setting). is_some (option_and_then (key_by (access_rule KeyBase64).name) g)) (same 3 refl) ∙ keys.key;
  mac_key = ap (λ (g : Option Setting). is_some (option_and_then (key_by (access_rule HmacKeyBase64).name) g)) (same 4 refl) ∙ keys.mac_key;
}

-- what is lacking first

failed_first : (tests others : List (Bool × AccessWhat)) (what : AccessWhat) → first_failed tests ≡ Some what → first_failed (tests ++ others) ≡ Some what
failed_first [] others what is = cc
failed_first ((true, fault) ∷ tests) others what is = failed_first tests others what is
failed_first ((false, fault) ∷ tests) others what is = is

passed_first : (tests others : List (Bool × AccessWhat)) → first_failed tests ≡ None → first_failed (tests ++ others) ≡ first_failed others
passed_first [] others is = refl
passed_first ((true, fault) ∷ tests) others is = passed_first tests others is
passed_first ((false, fault) ∷ tests) others is = cc

pub last_lacking : (ended : ℕ) (given : ℕ → Option Setting) (what : AccessWhat) → first_failed (last_needs ended given) ≡ Some what → lacks_first ended given ≡ Some what
last_lacking ended given what is = failed_first (last_needs ended given) (rest_needs given) what is

pub rest_lacking : (ended : ℕ) (given : ℕ → Option Setting) → first_failed (last_needs ended given) ≡ None → lacks_first ended given ≡ first_failed (rest_needs given)
rest_lacking ended given is = passed_first (last_needs ended given) (rest_needs given) is

pub closing_template : (given : Option Setting) → has_value is_closing given ≡ true → has_value is_template given ≡ true
closing_template None is = cc
closing_template (Some setting) is = (and_parts _ (is_template setting.value) is).1
