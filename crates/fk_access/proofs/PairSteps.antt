-- What a line adds to what is kept of a stanza, and which test it fails.
use Rattle.std.proofs.Common.{◌≡◌, ◌≢◌, ℕ, suc, ◌+◌, ◌<◌, ◌≤◌, Bool, true, false, not, ◌&&◌, List, [], ◌∷◌, ◌++◌, length, Option, Some, None, Result, Ok, Err, refl, sym, ◌∙◌, ap, subst, inl, inr, arith, if◌then◌else◌, length-append}
use Rattle.std.specs.Prelude.{◌==◌, All, MatchResult, find, is_none, nat_le}
use Rattle.std.specs.List.{AllZip}
use Rattle.std.specs.Option.{option_map_or, option_or}
use Rattle.std.proofs.lemmas.Bool.{cases_Bool, eqb-true, false_from_ne_true, le-leb, lt-leb, or_cases}
use Rattle.std.proofs.lemmas.List.{append-nil}
use Rattle.std.proofs.lemmas.List.Elements.{All-append, All-cons, All-nil}
use Rattle.std.proofs.lemmas.List.Folds.{find-append}
use Rattle.fk_base.specs.FirstFailed.{first_failed}
use Rattle.fk_lines.specs.Lines.{Setting}
use Rattle.fk_values.specs.Given.{given_at}
use Rattle.fk_values.specs.Settings.{AddsSetting, NameRule, given_by, is_for, rule_fault, setting_fault}
use Rattle.fk_values.specs.declared.setting_fault.SettingFault.{SettingFault}
use Rattle.fk_values.specs.declared.setting_fault.SettingFault.TheVariants as wrong
use Rattle.fk_values.proofs.SettingsRead.{given_by-append}
use Rattle.fk_access.specs.declared.access_err.AccessWhat.{AccessWhat}
use Rattle.fk_access.specs.declared.access_err.AccessWhat.TheVariants.{BadValue, TooMany, Twice, UnknownName}
use Rattle.fk_access.specs.declared.access_name.AccessName.{AccessName}
use Rattle.fk_access.specs.declared.body.Body.{Body}
use Rattle.fk_access.specs.AccessFault.{may_follow, rule_tests, setting_what}
use Rattle.fk_access.specs.AccessTable.{access_rule, access_rules}
use Rattle.fk_access.specs.AccessWhat.{access_what}
use Rattle.fk_access.specs.KeyPairs.{begun_from, begun_pair, ended_from, ended_pairs, ends_pair, given_behind, has_last_pair, is_of_pair}
use Rattle.fk_access.specs.Private.{AreWhole, EndsPair, HasKeys, IsKept, IsNamed, IsPairGiven}
use Rattle.fk_access.specs.StanzaKeys.{pair_needs}

-- one setting more

begun-append : (settings front : List Setting) (setting : Setting) →
    begun_from front (settings ++ setting ∷ []) ≡ (if ends_pair setting then [] else begun_from front settings ++ setting ∷ [])
begun-append [] front setting = refl
begun-append (s ∷ settings) front setting = begun-append settings (if ends_pair s then [] else front ++ s ∷ []) setting

ended-append : (settings front : List Setting) (setting : Setting) →
    ended_from front (settings ++ setting ∷ [])
    ≡ ended_from front settings ++ (if ends_pair setting then (begun_from front settings ++ setting ∷ []) ∷ [] else [])
ended-append [] front setting = refl
ended-append (s ∷ settings) front setting = elim (cases_Bool (ends_pair s)) [
  | inl ends ↦ rw ends (ap (λ (ps : List (List Setting)). (front ++ s ∷ []) ∷ ps) (ended-append settings [] setting))
  | inr goes_on ↦ rw goes_on (ended-append settings (front ++ s ∷ []) setting)
]

find_one : (setting : Setting) (b : Bool) → ends_pair setting ≡ b → find ends_pair (setting ∷ []) ≡ (if b then Some setting else None)
find_one setting b is = ap (λ (e : Bool). if e then Some setting else None) is

none_begun : (settings front : List Setting) → find ends_pair front ≡ None → find ends_pair (begun_from front settings) ≡ None
none_begun [] front none = none
none_begun (s ∷ settings) front none = elim (cases_Bool (ends_pair s)) [
  | inl ends ↦ rw ends (none_begun settings [] refl)
  | inr goes_on ↦ rw goes_on (none_begun settings (front ++ s ∷ [])
      (find-append ends_pair front (s ∷ []) ∙ ap (λ (o : Option Setting). option_or o (find ends_pair (s ∷ []))) none ∙ find_one s false goes_on))
]

-- no last moment is given for the pair that is begun
pub no_end_begun : (settings : List Setting) → given_by access_rules (begun_pair settings) 13 ≡ None
no_end_begun settings = none_begun settings [] refl

-- a name and its number

pub sets_it : (setting : Setting) (name : AccessName) (number : ℕ) → IsNamed setting name → is_for access_rules number setting ≡ ((access_rule name).sets == number)
sets_it setting name number named = ap (λ (r : Option NameRule). option_map_or (λ rule. rule.sets == number) r false) named

apart : (a b : ℕ) → is_of_pair a ≢ is_of_pair b → (a == b) ≡ false
apart a b other = false_from_ne_true (a == b) (λ is. other (ap is_of_pair (eqb-true a b is)))

not_same : (a b : Bool) → a ≡ false → b ≡ true → a ≢ b
not_same a b alone paired same = let e : false ≡ true = sym alone ∙ same ∙ paired in cc

not_same_back : (a b : Bool) → a ≡ true → b ≡ false → a ≢ b
not_same_back a b paired alone same = let e : true ≡ false = sym paired ∙ same ∙ alone in cc

-- which test fails

named_what : (before : List Setting) (setting : Setting) (name : AccessName) → IsNamed setting name →
    setting_what before setting ≡ first_failed (rule_tests before setting.value (access_rule name))
named_what before setting name named =
    ap (λ (r : Option NameRule). option_map_or (λ rule. first_failed (rule_tests before setting.value rule)) r (Some UnknownName)) named

named_fault : (given : List (Option Setting)) (setting : Setting) (name : AccessName) → IsNamed setting name →
    setting_fault access_rules (given_at given) setting ≡ rule_fault (given_at given) setting.value (Some (access_rule name))
named_fault given setting name named = ap (rule_fault (given_at given) setting.value) named

fault_first : (free value : Bool) (needs : List (Bool × AccessWhat)) (fault : SettingFault) →
    first_failed ((free, wrong.Twice) ∷ (value, wrong.BadValue) ∷ []) ≡ Some fault →
    first_failed ((true, TooMany) ∷ (free, Twice) ∷ (value, BadValue) ∷ needs) ≡ Some (access_what fault)
fault_first false value needs fault is =
    let e : wrong.Twice ≡ fault = cc in ap (λ (f : SettingFault). Some (access_what f)) e
fault_first true false needs fault is =
    let e : wrong.BadValue ≡ fault = cc in ap (λ (f : SettingFault). Some (access_what f)) e
fault_first true true needs fault is = cc

none_first : (free value : Bool) (needs : List (Bool × AccessWhat)) →
    first_failed ((free, wrong.Twice) ∷ (value, wrong.BadValue) ∷ []) ≡ None →
    first_failed ((true, TooMany) ∷ (free, Twice) ∷ (value, BadValue) ∷ needs) ≡ first_failed needs
none_first false value needs is = cc
none_first true false needs is = cc
none_first true true needs is = refl

-- the tests see what is given, whichever way it is kept
tests_are : (before : List Setting) (value : List ℕ) (rule : NameRule) (given : Option Setting) → may_follow before rule.sets ≡ true →
    given_behind before rule.sets ≡ given →
    first_failed (rule_tests before value rule)
    ≡ first_failed ((true, TooMany) ∷ (is_none given, Twice) ∷ (rule.is_value value, BadValue) ∷ (if rule.sets == 13 then pair_needs (given_behind before) else []))
tests_are before value rule given follows is =
    ap (λ (b : Bool). first_failed ((b, TooMany) ∷ (is_none (given_behind before rule.sets), Twice) ∷ (rule.is_value value, BadValue)
    ∷ (if rule.sets == 13 then pair_needs (given_behind before) else []))) follows
    ∙ ap (λ (g : Option Setting). first_failed ((true, TooMany) ∷ (is_none g, Twice) ∷ (rule.is_value value, BadValue)
    ∷ (if rule.sets == 13 then pair_needs (given_behind before) else []))) is

refused_what : (before : List Setting) (setting : Setting) (name : AccessName) (given : List (Option Setting)) (fault : SettingFault) → IsNamed setting name →
    may_follow before (access_rule name).sets ≡ true → given_behind before (access_rule name).sets ≡ given_at given (access_rule name).sets →
    setting_fault access_rules (given_at given) setting ≡ Some fault → setting_what before setting ≡ Some (access_what fault)
refused_what before setting name given fault named follows is refused =
    named_what before setting name named
    ∙ tests_are before setting.value (access_rule name) (given_at given (access_rule name).sets) follows is
    ∙ fault_first (is_none (given_at given (access_rule name).sets)) ((access_rule name).is_value setting.value)
    (if (access_rule name).sets == 13 then pair_needs (given_behind before) else []) fault (sym (named_fault given setting name named) ∙ refused)

passed_what : (before : List Setting) (setting : Setting) (name : AccessName) (given : List (Option Setting)) → IsNamed setting name →
    may_follow before (access_rule name).sets ≡ true → given_behind before (access_rule name).sets ≡ given_at given (access_rule name).sets →
    setting_fault access_rules (given_at given) setting ≡ None →
    setting_what before setting ≡ first_failed (if (access_rule name).sets == 13 then pair_needs (given_behind before) else [])
passed_what before setting name given named follows is passed =
    named_what before setting name named
    ∙ tests_are before setting.value (access_rule name) (given_at given (access_rule name).sets) follows is
    ∙ none_first (is_none (given_at given (access_rule name).sets)) ((access_rule name).is_value setting.value)
    (if (access_rule name).sets == 13 then pair_needs (given_behind before) else []) (sym (named_fault given setting name named) ∙ passed)

pub full_what : (before : List Setting) (setting : Setting) (name : AccessName) → IsNamed setting name → is_of_pair (access_rule name).sets ≡ true →
    4 ≤ length (ended_pairs before) → setting_what before setting ≡ Some TooMany
full_what before setting name named pair full =
    let many : nat_le 4 (length (ended_pairs before)) ≡ true = le-leb 4 (length (ended_pairs before)) full in
    named_what before setting name named ∙ rw (pair, many) refl

-- what is kept

given_in_rest : (settings : List Setting) (body : Body) (number : ℕ) → IsKept settings body → is_of_pair number ≡ false →
    given_behind settings number ≡ given_at body.rest number
given_in_rest settings body number kept other =
    ap (λ (b : Bool). given_by access_rules (if b then begun_pair settings else settings) number) other ∙ sym (kept.rest_is number other)

given_in_pair : (settings : List Setting) (body : Body) (number : ℕ) → IsKept settings body → is_of_pair number ≡ true →
    given_behind settings number ≡ given_at body.pair number
given_in_pair settings body number kept pair =
    ap (λ (b : Bool). given_by access_rules (if b then begun_pair settings else settings) number) pair ∙ sym (kept.pair_is number pair)

pub ended_length : (pairs : List (List Setting)) (givens : List (List (Option Setting))) → AllZip IsPairGiven pairs givens → length pairs ≡ length givens
ended_length [] [] each = refl
ended_length [] (g ∷ givens) each = absurd each
ended_length (p ∷ pairs) [] each = absurd each
ended_length (p ∷ pairs) (g ∷ givens) each = ap suc (ended_length pairs givens each.1)

or_none : (a : Option Setting) → option_or a None ≡ a
or_none None = refl
or_none (Some x) = refl

-- a setting that is for another number changes nothing there
not_for : (settings : List Setting) (setting : Setting) (number : ℕ) → is_for access_rules number setting ≡ false →
    given_by access_rules (settings ++ setting ∷ []) number ≡ given_by access_rules settings number
not_for settings setting number other =
    given_by-append access_rules settings setting number
    ∙ ap (λ (b : Bool). option_or (given_by access_rules settings number) (if b then Some setting else None)) other
    ∙ or_none (given_by access_rules settings number)

-- and one more that was added is given beside the others
one_more : (settings : List Setting) (old new : List (Option Setting)) (setting : Setting) (number : ℕ) → AddsSetting access_rules old new setting →
    given_at old number ≡ given_by access_rules settings number → given_at new number ≡ given_by access_rules (settings ++ setting ∷ []) number
one_more settings old new setting number adds is =
    adds.added number ∙ ap (λ (g : Option Setting). option_or g (if is_for access_rules number setting then Some setting else None)) is
    ∙ sym (given_by-append access_rules settings setting number)

begun_is : (before : List Setting) (setting : Setting) (b : Bool) → ends_pair setting ≡ b →
    begun_pair (before ++ setting ∷ []) ≡ (if b then [] else begun_pair before ++ setting ∷ [])
begun_is before setting b is =
    begun-append before [] setting ∙ ap (λ (e : Bool). if e then [] else begun_pair before ++ setting ∷ []) is

ended_is : (before : List Setting) (setting : Setting) (b : Bool) → ends_pair setting ≡ b →
    ended_pairs (before ++ setting ∷ []) ≡ ended_pairs before ++ (if b then (begun_pair before ++ setting ∷ []) ∷ [] else [])
ended_is before setting b is =
    ended-append before [] setting ∙ ap (λ (e : Bool). ended_pairs before ++ (if e then (begun_pair before ++ setting ∷ []) ∷ [] else [])) is

same_ended : (before : List Setting) (setting : Setting) → ends_pair setting ≡ false → ended_pairs (before ++ setting ∷ []) ≡ ended_pairs before
same_ended before setting goes_on = ended_is before setting false goes_on ∙ append-nil (ended_pairs before)

until_is_other : (name : AccessName) → is_of_pair (access_rule name).sets ≡ false → ((access_rule name).sets == 13) ≡ false
until_is_other name other = apart (access_rule name).sets 13 (not_same (is_of_pair (access_rule name).sets) true other refl)

-- what a line sets of the rest

rest_follows : (before : List Setting) (name : AccessName) → is_of_pair (access_rule name).sets ≡ false → may_follow before (access_rule name).sets ≡ true
rest_follows before name other = ap (λ (b : Bool). not (b && nat_le 4 (length (ended_pairs before)))) other

pub rest_refused : (before : List Setting) (setting : Setting) (name : AccessName) (body : Body) (fault : SettingFault) → IsNamed setting name →
    is_of_pair (access_rule name).sets ≡ false → IsKept before body → setting_fault access_rules (given_at body.rest) setting ≡ Some fault →
    setting_what before setting ≡ Some (access_what fault)
rest_refused before setting name body fault named other kept refused =
    refused_what before setting name body.rest fault named (rest_follows before name other) (given_in_rest before body (access_rule name).sets kept other) refused

rest_passed : (before : List Setting) (setting : Setting) (name : AccessName) (body : Body) → IsNamed setting name →
    is_of_pair (access_rule name).sets ≡ false → IsKept before body → setting_fault access_rules (given_at body.rest) setting ≡ None →
    setting_what before setting ≡ None
rest_passed before setting name body named other kept passed =
    passed_what before setting name body.rest named (rest_follows before name other) (given_in_rest before body (access_rule name).sets kept other) passed
    ∙ ap (λ (b : Bool). first_failed (if b then pair_needs (given_behind before) else [])) (until_is_other name other)

whole_same : (old new : Body) → new.pair ≡ old.pair → new.ended ≡ old.ended → AreWhole old → AreWhole new
whole_same old new pair ended whole = record {
  keys = subst (λ (e : List (List (Option Setting))). All HasKeys e) (sym ended) whole.keys;
  few = subst (λ (e : List (List (Option Setting))). length e ≤ 4) (sym ended) whole.few;
  room = λ full. ap (λ (p : List (Option Setting)). has_last_pair 4 (given_at p)) pair ∙ whole.room (sym (ap length ended) ∙ full);
}

pub rest_added : (before : List Setting) (setting : Setting) (name : AccessName) (old new : Body) → IsNamed setting name →
    is_of_pair (access_rule name).sets ≡ false → new.pair ≡ old.pair → new.ended ≡ old.ended → AddsSetting access_rules old.rest new.rest setting →
    IsKept before old → (setting_what before setting ≡ None) × IsKept (before ++ setting ∷ []) new
rest_added before setting name old new named other pair ended adds kept =
    let goes_on : ends_pair setting ≡ false = sets_it setting name 13 named ∙ until_is_other name other in (
      rest_passed before setting name old named other kept adds.faultless,
      record {
        rest_is = λ n alone. one_more before old.rest new.rest setting n adds (kept.rest_is n alone);
        pair_is = λ n paired.
            ap (λ (p : List (Option Setting)). given_at p n) pair ∙ kept.pair_is n paired
            ∙ sym (ap (λ (l : List Setting). given_by access_rules l n) (begun_is before setting false goes_on)
            ∙ not_for (begun_pair before) setting n
            (sets_it setting name n named ∙ apart (access_rule name).sets n (not_same (is_of_pair (access_rule name).sets) (is_of_pair n) other paired)));
        ended_are = subst (λ (e : List (List (Option Setting))). AllZip IsPairGiven (ended_pairs (before ++ setting ∷ [])) e) (sym ended)
            (subst (λ (e : List (List Setting)). AllZip IsPairGiven e old.ended) (sym (same_ended before setting goes_on)) kept.ended_are);
        whole = whole_same old new pair ended kept.whole;
      },
    )

-- what a line sets of a pair

pair_follows : (before : List Setting) (name : AccessName) (body : Body) → IsKept before body → length body.ended < 4 →
    may_follow before (access_rule name).sets ≡ true
pair_follows before name body kept room =
    let few : nat_le 4 (length (ended_pairs before)) ≡ false =
    lt-leb 4 (length (ended_pairs before)) (subst (λ (n : ℕ). n < 4) (sym (ended_length (ended_pairs before) body.ended kept.ended_are)) room) in
    elim (cases_Bool (is_of_pair (access_rule name).sets)) [
      | inl paired ↦ rw (paired, few) refl
      | inr alone ↦ rw alone refl
    ]

pub pair_is_full : (before : List Setting) (setting : Setting) (name : AccessName) (body : Body) → IsNamed setting name →
    is_of_pair (access_rule name).sets ≡ true → IsKept before body → length body.ended ≡ 4 → setting_what before setting ≡ Some TooMany
pair_is_full before setting name body named pair kept full =
    let same = ended_length (ended_pairs before) body.ended kept.ended_are in
    full_what before setting name named pair (omega arith)

pub pair_refused : (before : List Setting) (setting : Setting) (name : AccessName) (body : Body) (fault : SettingFault) → IsNamed setting name →
    is_of_pair (access_rule name).sets ≡ true → length body.ended < 4 → IsKept before body →
    setting_fault access_rules (given_at body.pair) setting ≡ Some fault → setting_what before setting ≡ Some (access_what fault)
pair_refused before setting name body fault named pair room kept refused =
    refused_what before setting name body.pair fault named (pair_follows before name body kept room)
    (given_in_pair before body (access_rule name).sets kept pair) refused

pair_passed : (before : List Setting) (setting : Setting) (name : AccessName) (body : Body) (ends : Bool) → IsNamed setting name →
    is_of_pair (access_rule name).sets ≡ true → length body.ended < 4 → IsKept before body →
    setting_fault access_rules (given_at body.pair) setting ≡ None → ((access_rule name).sets == 13) ≡ ends →
    setting_what before setting ≡ first_failed (if ends then pair_needs (given_behind before) else [])
pair_passed before setting name body ends named pair room kept passed is =
    passed_what before setting name body.pair named (pair_follows before name body kept room)
    (given_in_pair before body (access_rule name).sets kept pair) passed
    ∙ ap (λ (b : Bool). first_failed (if b then pair_needs (given_behind before) else [])) is

-- the rest is not touched
rest_stays : (before : List Setting) (setting : Setting) (name : AccessName) (old : Body) (number : ℕ) → IsNamed setting name →
    is_of_pair (access_rule name).sets ≡ true → IsKept before old → is_of_pair number ≡ false →
    given_at old.rest number ≡ given_by access_rules (before ++ setting ∷ []) number
rest_stays before setting name old number named pair kept alone =
    kept.rest_is number alone
    ∙ sym (not_for before setting number
    (sets_it setting name number named ∙ apart (access_rule name).sets number (not_same_back (is_of_pair (access_rule name).sets) (is_of_pair number) pair alone)))

pub pair_added : (before : List Setting) (setting : Setting) (name : AccessName) (old new : Body) → IsNamed setting name →
    is_of_pair (access_rule name).sets ≡ true → length old.ended < 4 → ((access_rule name).sets == 13) ≡ false → new.rest ≡ old.rest → new.ended ≡ old.ended →
    AddsSetting access_rules old.pair new.pair setting → IsKept before old → (setting_what before setting ≡ None) × IsKept (before ++ setting ∷ []) new
pair_added before setting name old new named pair room goes_on rest ended adds kept =
    let no_end : ends_pair setting ≡ false = sets_it setting name 13 named ∙ goes_on in (
      pair_passed before setting name old false named pair room kept adds.faultless goes_on,
      record {
        rest_is = λ n alone. ap (λ (r : List (Option Setting)). given_at r n) rest ∙ rest_stays before setting name old n named pair kept alone;
        pair_is = λ n paired.
            one_more (begun_pair before) old.pair new.pair setting n adds (kept.pair_is n paired)
            ∙ sym (ap (λ (l : List Setting). given_by access_rules l n) (begun_is before setting false no_end));
        ended_are = subst (λ (e : List (List (Option Setting))). AllZip IsPairGiven (ended_pairs (before ++ setting ∷ [])) e) (sym ended)
            (subst (λ (e : List (List Setting)). AllZip IsPairGiven e old.ended) (sym (same_ended before setting no_end)) kept.ended_are);
        whole = record {
          keys = subst (λ (e : List (List (Option Setting))). All HasKeys e) (sym ended) kept.whole.keys;
          few = subst (λ (e : List (List (Option Setting))). length e ≤ 4) (sym ended) kept.whole.few;
          room = λ full. absurd (let same = ap length ended in let alone : ⊥ = omega arith in alone);
        };
      },
    )

-- the pair that a last moment ends has what it had

needs_same : (given other : ℕ → Option Setting) → given 3 ≡ other 3 → given 4 ≡ other 4 → first_failed (pair_needs given) ≡ first_failed (pair_needs other)
needs_same given other key mac_key = rw (key, mac_key) refl

not_for_end : (setting : Setting) (name : AccessName) (number : ℕ) → IsNamed setting name → ((access_rule name).sets == 13) ≡ true → (13 == number) ≡ false →
    is_for access_rules number setting ≡ false
not_for_end setting name number named ends other =
    sets_it setting name number named ∙ ap (λ (n : ℕ). n == number) (eqb-true (access_rule name).sets 13 ends) ∙ other

key_stays : (before : List Setting) (setting : Setting) (old middle : Body) (number : ℕ) → is_for access_rules number setting ≡ false →
    is_of_pair number ≡ true → AddsSetting access_rules old.pair middle.pair setting → IsKept before old →
    given_behind before number ≡ given_at middle.pair number
key_stays before setting old middle number other pair adds kept =
    given_in_pair before old number kept pair
    ∙ sym (adds.added number ∙ ap (λ (b : Bool). option_or (given_at old.pair number) (if b then Some setting else None)) other
    ∙ or_none (given_at old.pair number))

needs_are : (before : List Setting) (setting : Setting) (name : AccessName) (old middle : Body) → IsNamed setting name →
    ((access_rule name).sets == 13) ≡ true → AddsSetting access_rules old.pair middle.pair setting → IsKept before old →
    first_failed (pair_needs (given_behind before)) ≡ first_failed (pair_needs (given_at middle.pair))
needs_are before setting name old middle named ends adds kept =
    needs_same (given_behind before) (given_at middle.pair)
    (key_stays before setting old middle 3 (not_for_end setting name 3 named ends refl) refl adds kept)
    (key_stays before setting old middle 4 (not_for_end setting name 4 named ends refl) refl adds kept)

pub pair_lacking : (before : List Setting) (setting : Setting) (name : AccessName) (old middle : Body) (what : AccessWhat) → IsNamed setting name →
    is_of_pair (access_rule name).sets ≡ true → length old.ended < 4 → ((access_rule name).sets == 13) ≡ true →
    AddsSetting access_rules old.pair middle.pair setting → first_failed (pair_needs (given_at middle.pair)) ≡ Some what → IsKept before old →
    setting_what before setting ≡ Some what
pair_lacking before setting name old middle what named pair room ends adds lacking kept =
    pair_passed before setting name old true named pair room kept adds.faultless ends
    ∙ needs_are before setting name old middle named ends adds kept ∙ lacking

needs_none : (given : List (Option Setting)) → HasKeys given → first_failed (pair_needs (given_at given)) ≡ None
needs_none given keys = rw (keys.key, keys.mac_key) refl

needs_kept : (pair lines : List (Option Setting)) → ((number : ℕ) → is_of_pair number ≡ true → given_at lines number ≡ given_at pair number) → HasKeys lines →
    first_failed (pair_needs (given_at pair)) ≡ None
needs_kept pair lines same keys =
    needs_same (given_at pair) (given_at lines) (sym (same 3 refl)) (sym (same 4 refl)) ∙ needs_none lines keys

push_pair : (pairs : List (List Setting)) (givens : List (List (Option Setting))) (pair : List Setting) (given : List (Option Setting)) →
    AllZip IsPairGiven pairs givens → IsPairGiven pair given → AllZip IsPairGiven (pairs ++ pair ∷ []) (givens ++ given ∷ [])
push_pair [] [] pair given each is = (is, tt)
push_pair [] (g ∷ givens) pair given each is = absurd each
push_pair (p ∷ pairs) [] pair given each is = absurd each
push_pair (p ∷ pairs) (g ∷ givens) pair given each is = (each.0, push_pair pairs givens pair given each.1 is)

none_last : (given : ℕ → Option Setting) → ((number : ℕ) → given number ≡ None) → has_last_pair 4 given ≡ false
none_last given none = rw (none 3, none 4, none 5, none 13) refl

whole_more : (old new : Body) (given : List (Option Setting)) → new.ended ≡ old.ended ++ given ∷ [] → HasKeys given → length old.ended < 4 →
    ((number : ℕ) → given_at new.pair number ≡ None) → AreWhole old → AreWhole new
whole_more old new given ended keys room none whole =
    let grown : length new.ended ≡ length old.ended + 1 = ap length ended ∙ length-append old.ended (given ∷ []) in
    record {
      keys = subst (λ (e : List (List (Option Setting))). All HasKeys e) (sym ended)
          (All-append HasKeys old.ended (given ∷ []) whole.keys (All-cons HasKeys given [] keys (All-nil HasKeys)));
      few = omega arith;
      room = λ full. none_last (given_at new.pair) none;
    }

pub pair_ended : (before : List Setting) (setting : Setting) (name : AccessName) (old middle new : Body) → IsNamed setting name →
    is_of_pair (access_rule name).sets ≡ true → length old.ended < 4 → ((access_rule name).sets == 13) ≡ true → middle.rest ≡ old.rest → middle.ended ≡ old.ended →
    AddsSetting access_rules old.pair middle.pair setting → EndsPair middle new → IsKept before old →
    (setting_what before setting ≡ None) × IsKept (before ++ setting ∷ []) new
pair_ended before setting name old middle new named pair room ends rest ended adds end_of kept =
    let is_end : ends_pair setting ≡ true = sets_it setting name 13 named ∙ ends in
    let grown : new.ended ≡ old.ended ++ end_of.lines ∷ [] = end_of.ended ∙ ap (λ (e : List (List (Option Setting))). e ++ end_of.lines ∷ []) ended in (
      pair_passed before setting name old true named pair room kept adds.faultless ends
          ∙ needs_are before setting name old middle named ends adds kept ∙ needs_kept middle.pair end_of.lines end_of.same end_of.keys,
      record {
        rest_is = λ n alone.
            ap (λ (r : List (Option Setting)). given_at r n) (end_of.rest ∙ rest) ∙ rest_stays before setting name old n named pair kept alone;
        pair_is = λ n paired. end_of.none n ∙ sym (ap (λ (l : List Setting). given_by access_rules l n) (begun_is before setting true is_end));
        ended_are = subst (λ (e : List (List (Option Setting))). AllZip IsPairGiven (ended_pairs (before ++ setting ∷ [])) e) (sym grown)
            (subst (λ (e : List (List Setting)). AllZip IsPairGiven e (old.ended ++ end_of.lines ∷ [])) (sym (ended_is before setting true is_end))
            (push_pair (ended_pairs before) old.ended (begun_pair before ++ setting ∷ []) end_of.lines kept.ended_are
            (λ n paired. end_of.same n paired ∙ one_more (begun_pair before) old.pair middle.pair setting n adds (kept.pair_is n paired))));
        whole = whole_more old new end_of.lines grown end_of.keys room end_of.none kept.whole;
      },
    )

-- nothing is kept at the beginning
pub kept_nothing : (body : Body) → ((number : ℕ) → given_at body.rest number ≡ None) → ((number : ℕ) → given_at body.pair number ≡ None) →
    body.ended ≡ [] → IsKept [] body
kept_nothing body rest pair ended = record {
  rest_is = λ n alone. rest n;
  pair_is = λ n paired. pair n;
  ended_are = subst (λ (e : List (List (Option Setting))). AllZip IsPairGiven [] e) (sym ended) tt;
  whole = record {
    keys = subst (λ (e : List (List (Option Setting))). All HasKeys e) (sym ended) (All-nil HasKeys);
    few = let none = ap length ended in omega arith;
    room = λ full. absurd (let none = ap length ended in let alone : ⊥ = omega arith in alone);
  };
}

-- what holds of the four numbers holds of each that belongs to a pair
pub each_of_pair : (P : ℕ → Type 0) → P 3 → P 4 → P 5 → P 13 → (number : ℕ) → is_of_pair number ≡ true → P number
each_of_pair P a b c d number paired = elim (or_cases (3 == number) _ paired) [
  | inl is ↦ subst P (eqb-true 3 number is) a
  | inr more ↦ elim (or_cases (4 == number) _ more) [
    | inl is ↦ subst P (eqb-true 4 number is) b
    | inr more ↦ elim (or_cases (5 == number) _ more) [
      | inl is ↦ subst P (eqb-true 5 number is) c
      | inr more ↦ elim (or_cases (13 == number) _ more) [
        | inl is ↦ subst P (eqb-true 13 number is) d
        | inr alone ↦ absurd (let e : false ≡ true = alone in cc)
      ]
    ]
  ]
]

pub pair_answered : {T : Type 0} (before : List Setting) (setting : Setting) (name : AccessName) (old middle new : Body) (result : Result T AccessWhat) → IsNamed setting name →
    is_of_pair (access_rule name).sets ≡ true → length old.ended < 4 → ((access_rule name).sets == 13) ≡ true → middle.rest ≡ old.rest → middle.ended ≡ old.ended →
    AddsSetting access_rules old.pair middle.pair setting →
    MatchResult result (λ u. EndsPair middle new) (λ what. first_failed (pair_needs (given_at middle.pair)) ≡ Some what) → IsKept before old →
    MatchResult result (λ u. (setting_what before setting ≡ None) × IsKept (before ++ setting ∷ []) new) (λ what. setting_what before setting ≡ Some what)
pair_answered before setting name old middle new (Ok u) named pair room ends rest ended adds answer kept =
    pair_ended before setting name old middle new named pair room ends rest ended adds answer kept
pair_answered before setting name old middle new (Err what) named pair room ends rest ended adds answer kept =
    pair_lacking before setting name old middle what named pair room ends adds answer kept
