-- The fields that are decoded from a text are those that spell it.
use Rattle.std.proofs.Common.{◌≡◌, ◌↔◌, ℕ, ◌+◌, ◌-◌, ◌<◌, ◌≤◌, ◌^◌, ◌⊎◌, Bool, true, false, List, [], ◌∷◌, ◌++◌, length, take, Option, Some, None, Ok, refl, sym, ap, subst, ◌∙◌, inl, inr, arith}
use Rattle.std.specs.Prelude.{◌==◌, ◌&&◌, ◌||◌, nat_le, codes, is_some, unwrap_or}
use Rattle.std.specs.List.{AllByRecursion, join_with_byte, list_all}
use Rattle.std.specs.Char.{is_ascii_digit}
use Rattle.std.specs.Fmt.{decimal, digits}
use Rattle.std.proofs.lemmas.Bool.Decides.{nat_tests}
use Rattle.std.proofs.lemmas.Bool.{and_parts, cases_Bool, leb-true, le-leb, eqb-true}
use Rattle.std.proofs.lemmas.Slice.Eq.{bytes_eq-Decides}
use Rattle.fk_base.specs.declared.address.Ip4.{Ip4}
use Rattle.fk_base.specs.declared.hash_kind.HashKind.{HashKind}
use Rattle.fk_base.specs.declared.hash_kind.HashKind.TheVariants.{Sha256}
use Rattle.fk_base.specs.declared.moment.TheConstants.{GREATEST_MOMENT}
use Rattle.fk_base.specs.declared.pair.Pair.{Pair}
use Rattle.fk_base.specs.Decimal.{decimal_value, number_in}
use Rattle.fk_base.specs.FirstFailed.{first_failed}
use Rattle.fk_base.specs.HashKind.{kind_by_len}
use Rattle.fk_base.specs.Pairs.{IsPairs}
use Rattle.fk_base.specs.Parts.{parts_at}
use Rattle.fk_base.proofs.FoundValues.{number_in_iff}
use Rattle.fk_base.proofs.Joined.{Lacks, Lacks-decimal, Lacks-from_test, join-parts_at, join-push, parts_at-join}
use Rattle.fk_text.specs.Text.{text_of}
use Rattle.fk_fields.specs.declared.fields.Ask.{Ask}
use Rattle.fk_fields.specs.declared.fields.Ask.TheVariants.{Access, Timed}
use Rattle.fk_fields.specs.declared.fields.Fields.{Fields}
use Rattle.fk_fields.specs.declared.fields.FieldFault.{FieldFault}
use Rattle.fk_fields.specs.declared.fields.FieldFault.TheVariants as field
use Rattle.fk_fields.specs.FieldText.{is_rand, is_user, is_version, is_version_byte, is_timeout}
use Rattle.fk_fields.specs.Fields.{IsFields, asked_ip, asked_pairs, field_fault, has_timeout}
use Rattle.fk_fields.specs.Message.{message_text}
use Rattle.fk_codec.specs.declared.fault.DecodeFault.{DecodeFault}
use Rattle.fk_codec.specs.declared.fault.DecodeFault.TheVariants.{Missing}
use Rattle.fk_codec.specs.DecodeFault.{ask_tests, asked_in, count_tests, decode_fault, decode_tests, decoded, digest_tests, fields_of, head_tests, ok_unless, part, parts_needed, seconds_in, tests_needing, user_in}
use Rattle.fk_codec.specs.Spells.{Spells, digest_text, front_of, parts_of, spelled, timeout_parts, type_text}
use Rattle.fk_codec.proofs.TestLists.{all_hold, back_fails, none_of_both}
use Rattle.fk_codec.proofs.Values.{asked_in_some, asked_in-text_of, number_value, seconds_in_some, seconds_value, seconds_in-decimal, timeout_bounds, user_in_some, user_in-text_of}
use Rattle.fk_codec.proofs.Digests.{Lacks-text_of, kind_of_digest}
use Rattle.fk_mac.specs.Hmac.{hash_of}

-- the tests of the head, all passed
pub record HeadPasses (rand user stamp version type : List ℕ) : Type 0 where
  rand_is : is_rand rand ≡ true
  user_is : is_some (user_in user) ≡ true
  stamp_is : is_some (number_in GREATEST_MOMENT stamp) ≡ true
  version_is : is_version version ≡ true
  type_is : is_some (number_in 6 type) ≡ true
  served : (decimal_value type == 1 || decimal_value type == 3) ≡ true

head_passes : (rand user stamp version type : List ℕ) → first_failed (head_tests rand user stamp version type) ≡ None
    → HeadPasses rand user stamp version type
head_passes rand user stamp version type none =
    let all = all_hold (head_tests rand user stamp version type) none in
    record {
      rand_is = all.0;
      user_is = all.1.0;
      stamp_is = all.1.1.0;
      version_is = all.1.1.1.0;
      type_is = all.1.1.1.1.0;
      served = all.1.1.1.1.1.0;
    }

-- the tests of the parts behind the head, all passed
pub record TailPasses (needed count : ℕ) (message seconds front digest : List ℕ) : Type 0 where
  enough : needed ≤ count
  no_more : count ≤ needed
  message_is : is_some (asked_in message) ≡ true
  seconds_are : (needed == 7 || is_some (seconds_in seconds)) ≡ true
  kind_is : is_some (kind_by_len (length digest)) ≡ true
  digest_is : digest ≡ digest_text (unwrap_or (kind_by_len (length digest)) Sha256) front

tail_passes : (needed count : ℕ) (message seconds front digest : List ℕ)
    → first_failed (count_tests needed count ++ ask_tests needed message seconds ++ digest_tests front digest) ≡ None
    → TailPasses needed count message seconds front digest
tail_passes needed count message seconds front digest none =
    let all = all_hold (count_tests needed count ++ ask_tests needed message seconds ++ digest_tests front digest) none in
    record {
      enough = leb-true needed count all.0;
      no_more = leb-true count needed all.1.0;
      message_is = all.1.1.0;
      seconds_are = all.1.1.1.0;
      kind_is = all.1.1.1.1.0;
      digest_is = (bytes_eq-Decides digest (digest_text (unwrap_or (kind_by_len (length digest)) Sha256) front)).0 all.1.1.1.1.1.0;
    }

-- a value that is there
some_value : {A : Type 0} (o : Option A) → is_some o ≡ true → (x : A) × (o ≡ Some x)
some_value (Some x) is = (x, refl)
some_value None is = cc

-- fields within their rules pass the tests of fields
checked : (f : Fields) → is_user f.user ≡ true → f.stamp ≤ GREATEST_MOMENT → is_version f.version ≡ true → has_timeout f.ask ≡ true → field_fault f ≡ None
checked f user stamp version timeout = rw (user, le-leb f.stamp GREATEST_MOMENT stamp, version, timeout) refl

-- the digits of the two types
one_text : decimal 1 ≡ codes "1"
unfolding digits
one_text = refl

three_text : decimal 3 ≡ codes "3"
unfolding digits
three_text = refl

-- what the head's parts say of the fields, whatever is asked for
record HeadSpells (rand user stamp version type : List ℕ) (number : ℕ) : Type 0 where
  name : List ℕ
  moment : ℕ
  user_is : user_in user ≡ Some name
  stamp_is : decimal_value stamp ≡ moment
  is_name : is_user name ≡ true
  fits : moment ≤ GREATEST_MOMENT
  user_text : user ≡ text_of name
  stamp_text : stamp ≡ decimal moment
  type_text_is : type ≡ decimal number

head_spells : (rand user stamp version type : List ℕ) (number : ℕ) → HeadPasses rand user stamp version type → decimal_value type ≡ number
    → HeadSpells rand user stamp version type number
head_spells rand user stamp version type number passes typed =
    let u = some_value (user_in user) passes.user_is in
    let s = some_value (number_in GREATEST_MOMENT stamp) passes.stamp_is in
    let t = some_value (number_in 6 type) passes.type_is in
    let named = user_in_some user u.0 u.1 in
    let stamped = (number_in_iff GREATEST_MOMENT s.0 stamp (omega arith)).0 s.1 in
    let written = (number_in_iff 6 t.0 type (omega arith)).0 t.1 in
    let same : t.0 ≡ number = sym (number_value 6 t.0 type t.1) ∙ typed in
    record {
      name = u.0;
      moment = s.0;
      user_is = u.1;
      stamp_is = number_value GREATEST_MOMENT s.0 stamp s.1;
      is_name = named.0;
      fits = stamped.0;
      user_text = named.1;
      stamp_text = stamped.1;
      type_text_is = written.1 ∙ ap decimal same;
    }

-- the fields of parts whose values are known
access_fields : (rand user stamp version type message digest name : List ℕ) (moment : ℕ) (asked : Ip4 × List Pair) (kind : HashKind)
    → decimal_value type ≡ 1 → user_in user ≡ Some name → decimal_value stamp ≡ moment → asked_in message ≡ Some asked
    → kind_by_len (length digest) ≡ Some kind
    → fields_of (rand ∷ user ∷ stamp ∷ version ∷ type ∷ message ∷ digest ∷ [])
    ≡ record { rand = rand; user = name; stamp = moment; version = version; ask = Access asked.0 asked.1; kind = kind }
access_fields rand user stamp version type message digest name moment asked kind one named stamped says hashed =
    rw (one, named, stamped, says, hashed) refl

timed_fields : (rand user stamp version type message seconds digest name : List ℕ) (moment : ℕ) (asked : Ip4 × List Pair) (time : ℕ) (kind : HashKind)
    → decimal_value type ≡ 3 → user_in user ≡ Some name → decimal_value stamp ≡ moment → asked_in message ≡ Some asked → decimal_value seconds ≡ time
    → kind_by_len (length digest) ≡ Some kind
    → fields_of (rand ∷ user ∷ stamp ∷ version ∷ type ∷ message ∷ seconds ∷ digest ∷ [])
    ≡ record { rand = rand; user = name; stamp = moment; version = version; ask = Timed asked.0 asked.1 time; kind = kind }
timed_fields rand user stamp version type message seconds digest name moment asked time kind three named stamped says timed hashed =
    rw (three, named, stamped, says, timed, hashed) refl

-- parts that are equal one by one, joined
same_front : (rand user named stamp stamped version type typed message says : List ℕ) (rest others : List (List ℕ)) → user ≡ named → stamp ≡ stamped
    → type ≡ typed → message ≡ says → rest ≡ others
    → join_with_byte 58 (rand ∷ user ∷ stamp ∷ version ∷ type ∷ message ∷ rest) ≡ join_with_byte 58 (rand ∷ named ∷ stamped ∷ version ∷ typed ∷ says ∷ others)
same_front rand user named stamp stamped version type typed message says rest others a b c d e =
    let same : rand ∷ user ∷ stamp ∷ version ∷ type ∷ message ∷ rest ≡ rand ∷ named ∷ stamped ∷ version ∷ typed ∷ says ∷ others = cc in
    ap (join_with_byte 58) same

-- the parts of an access request spell its fields
access_spell : (rand user stamp version type message digest : List ℕ) → HeadPasses rand user stamp version type → decimal_value type ≡ 1
    → TailPasses 7 7 message digest (join_with_byte 58 (rand ∷ user ∷ stamp ∷ version ∷ type ∷ message ∷ [])) digest
    → Spells (fields_of (rand ∷ user ∷ stamp ∷ version ∷ type ∷ message ∷ digest ∷ []))
    (join_with_byte 58 (rand ∷ user ∷ stamp ∷ version ∷ type ∷ message ∷ digest ∷ []))
unfolding spelled front_of
access_spell rand user stamp version type message digest head one tail =
    let values = head_spells rand user stamp version type 1 head one in
    let asked = some_value (asked_in message) tail.message_is in
    let kind = some_value (kind_by_len (length digest)) tail.kind_is in
    let ask = asked_in_some message asked.0.0 asked.0.1 asked.1 in
    let parts = rand ∷ user ∷ stamp ∷ version ∷ type ∷ message ∷ digest ∷ [] in
    let front = join_with_byte 58 (rand ∷ user ∷ stamp ∷ version ∷ type ∷ message ∷ []) in
    let f : Fields = record {
      rand = rand;
      user = values.name;
      stamp = values.moment;
      version = version;
      ask = Access asked.0.0 asked.0.1;
      kind = kind.0;
    } in
    let same : fields_of parts ≡ f = access_fields rand user stamp version type message digest values.name values.moment asked.0 kind.0 one values.user_is
    values.stamp_is asked.1 kind.1 in
    let within : IsFields f = record {
      rand = head.rand_is;
      address = ask.0;
      pairs = ask.1;
      checked = checked f values.is_name values.fits head.version_is refl;
    } in
    let front_is : front ≡ front_of f =
    same_front rand user _ stamp _ version type (codes "1") message _ [] [] values.user_text values.stamp_text (values.type_text_is ∙ one_text) ask.2 refl in
    let digest_is : digest ≡ digest_text kind.0 front = tail.digest_is ∙ ap (λ (o : Option HashKind). digest_text (unwrap_or o Sha256) front) kind.1 in
    let whole : join_with_byte 58 parts ≡ front ++ 58 ∷ digest = sym (join-push 58 rand (user ∷ stamp ∷ version ∷ type ∷ message ∷ []) digest) in
    let text_is : join_with_byte 58 parts ≡ spelled f =
    whole ∙ ap (λ (t : List ℕ). front ++ 58 ∷ t) digest_is ∙ ap (λ (t : List ℕ). t ++ 58 ∷ digest_text kind.0 t) front_is in
    let P : Fields → Type 0 = λ g. Spells g (join_with_byte 58 parts) in
    subst P (sym same) (within, text_is)

-- the parts of a timed request spell its fields
timed_spell : (rand user stamp version type message seconds digest : List ℕ) → HeadPasses rand user stamp version type → decimal_value type ≡ 3
    → TailPasses 8 8 message seconds (join_with_byte 58 (rand ∷ user ∷ stamp ∷ version ∷ type ∷ message ∷ seconds ∷ [])) digest
    → Spells (fields_of (rand ∷ user ∷ stamp ∷ version ∷ type ∷ message ∷ seconds ∷ digest ∷ []))
    (join_with_byte 58 (rand ∷ user ∷ stamp ∷ version ∷ type ∷ message ∷ seconds ∷ digest ∷ []))
unfolding spelled front_of
timed_spell rand user stamp version type message seconds digest head three tail =
    let values = head_spells rand user stamp version type 3 head three in
    let asked = some_value (asked_in message) tail.message_is in
    let time = some_value (seconds_in seconds) tail.seconds_are in
    let kind = some_value (kind_by_len (length digest)) tail.kind_is in
    let ask = asked_in_some message asked.0.0 asked.0.1 asked.1 in
    let timed = seconds_in_some seconds time.0 time.1 in
    let timed_value = seconds_value seconds time.0 time.1 in
    let parts = rand ∷ user ∷ stamp ∷ version ∷ type ∷ message ∷ seconds ∷ digest ∷ [] in
    let front = join_with_byte 58 (rand ∷ user ∷ stamp ∷ version ∷ type ∷ message ∷ seconds ∷ []) in
    let f : Fields = record {
      rand = rand;
      user = values.name;
      stamp = values.moment;
      version = version;
      ask = Timed asked.0.0 asked.0.1 time.0;
      kind = kind.0;
    } in
    let same : fields_of parts ≡ f = timed_fields rand user stamp version type message seconds digest values.name values.moment asked.0 time.0 kind.0 three
    values.user_is values.stamp_is asked.1 timed_value kind.1 in
    let within : IsFields f = record {
      rand = head.rand_is;
      address = ask.0;
      pairs = ask.1;
      checked = checked f values.is_name values.fits head.version_is timed.0;
    } in
    let front_is : front ≡ front_of f =
    same_front rand user _ stamp _ version type (codes "3") message _ (seconds ∷ []) (decimal time.0 ∷ []) values.user_text values.stamp_text
    (values.type_text_is ∙ three_text) ask.2 (ap (λ (t : List ℕ). t ∷ []) timed.1) in
    let digest_is : digest ≡ digest_text kind.0 front = tail.digest_is ∙ ap (λ (o : Option HashKind). digest_text (unwrap_or o Sha256) front) kind.1 in
    let whole : join_with_byte 58 parts ≡ front ++ 58 ∷ digest =
    sym (join-push 58 rand (user ∷ stamp ∷ version ∷ type ∷ message ∷ seconds ∷ []) digest) in
    let text_is : join_with_byte 58 parts ≡ spelled f =
    whole ∙ ap (λ (t : List ℕ). front ++ 58 ∷ t) digest_is ∙ ap (λ (t : List ℕ). t ++ 58 ∷ digest_text kind.0 t) front_is in
    let P : Fields → Type 0 = λ g. Spells g (join_with_byte 58 parts) in
    subst P (sym same) (within, text_is)

-- the tests of all parts, all passed, where so many are needed
abbrev AllPass : ℕ → (rand user stamp version type : List ℕ) → List (List ℕ) → Type 0
AllPass needed rand user stamp version type rest =
    let parts = rand ∷ user ∷ stamp ∷ version ∷ type ∷ rest in
    HeadPasses rand user stamp version type
    × TailPasses needed (length parts) (part 6 parts) (part 7 parts) (join_with_byte 58 (take (needed - 1) parts)) (part needed parts)

all_pass : (needed : ℕ) (rand user stamp version type : List ℕ) (rest : List (List ℕ))
    → first_failed (tests_needing needed (rand ∷ user ∷ stamp ∷ version ∷ type ∷ rest)) ≡ None → AllPass needed rand user stamp version type rest
all_pass needed rand user stamp version type rest none =
    let parts = rand ∷ user ∷ stamp ∷ version ∷ type ∷ rest in
    let head = head_tests rand user stamp version type in
    let tail = count_tests needed (length parts) ++ ask_tests needed (part 6 parts) (part 7 parts)
    ++ digest_tests (join_with_byte 58 (take (needed - 1) parts)) (part needed parts) in
    let first = (none_of_both ((nat_le 5 (length parts), Missing (length parts + 1)) ∷ []) (head ++ tail) none).1 in
    let both = none_of_both head tail first in
    (head_passes rand user stamp version type both.0, tail_passes needed (length parts) (part 6 parts) (part 7 parts) _ _ both.1)

access_rest : (rand user stamp version type : List ℕ) (rest : List (List ℕ)) → decimal_value type ≡ 1 → AllPass 7 rand user stamp version type rest
    → Spells (fields_of (rand ∷ user ∷ stamp ∷ version ∷ type ∷ rest)) (join_with_byte 58 (rand ∷ user ∷ stamp ∷ version ∷ type ∷ rest))
access_rest rand user stamp version type (message ∷ digest ∷ []) one pass = access_spell rand user stamp version type message digest pass.0 one pass.1
access_rest rand user stamp version type [] one pass = let n = pass.1.enough in absurd (let no : ⊥ = omega arith in no)
access_rest rand user stamp version type (a ∷ []) one pass = let n = pass.1.enough in absurd (let no : ⊥ = omega arith in no)
access_rest rand user stamp version type (a ∷ b ∷ c ∷ more) one pass = let n = pass.1.no_more in absurd (let no : ⊥ = omega arith in no)

timed_rest : (rand user stamp version type : List ℕ) (rest : List (List ℕ)) → decimal_value type ≡ 3 → AllPass 8 rand user stamp version type rest
    → Spells (fields_of (rand ∷ user ∷ stamp ∷ version ∷ type ∷ rest)) (join_with_byte 58 (rand ∷ user ∷ stamp ∷ version ∷ type ∷ rest))
timed_rest rand user stamp version type (message ∷ seconds ∷ digest ∷ []) three pass =
    timed_spell rand user stamp version type message seconds digest pass.0 three pass.1
timed_rest rand user stamp version type [] three pass = let n = pass.1.enough in absurd (let no : ⊥ = omega arith in no)
timed_rest rand user stamp version type (a ∷ []) three pass = let n = pass.1.enough in absurd (let no : ⊥ = omega arith in no)
timed_rest rand user stamp version type (a ∷ b ∷ []) three pass = let n = pass.1.enough in absurd (let no : ⊥ = omega arith in no)
timed_rest rand user stamp version type (a ∷ b ∷ c ∷ d ∷ more) three pass = let n = pass.1.no_more in absurd (let no : ⊥ = omega arith in no)

-- the type of parts that pass
which_type : (number : ℕ) → (number == 1 || number == 3) ≡ true → (number ≡ 1) ⊎ (number ≡ 3)
which_type number served = elim (cases_Bool (number == 1)) [
  | inl one ↦ inl (eqb-true number 1 one)
  | inr other ↦ inr (eqb-true number 3 (let three : (number == 3) ≡ true = rw other at served in three))
]

needed_parts : (rand user stamp version type : List ℕ) (rest : List (List ℕ)) (number needed : ℕ) → decimal_value type ≡ number → parts_needed number ≡ needed
    → first_failed (decode_tests (rand ∷ user ∷ stamp ∷ version ∷ type ∷ rest)) ≡ None → AllPass needed rand user stamp version type rest
needed_parts rand user stamp version type rest number needed typed is none =
    let P : ℕ → Type 0 = λ n. first_failed (tests_needing n (rand ∷ user ∷ stamp ∷ version ∷ type ∷ rest)) ≡ None in
    all_pass needed rand user stamp version type rest (subst P (ap parts_needed typed ∙ is) none)

-- parts that pass all tests spell their fields
pub parts_spell : (parts : List (List ℕ)) → first_failed (decode_tests parts) ≡ None → Spells (fields_of parts) (join_with_byte 58 parts)
parts_spell (rand ∷ user ∷ stamp ∷ version ∷ type ∷ rest) none =
    let number = decimal_value type in
    let head = (needed_parts rand user stamp version type rest number (parts_needed number) refl refl none).0 in
    elim (which_type number head.served) [
      | inl one ↦ access_rest rand user stamp version type rest one (needed_parts rand user stamp version type rest 1 7 one refl none)
      | inr three ↦ timed_rest rand user stamp version type rest three (needed_parts rand user stamp version type rest 3 8 three refl none)
    ]
parts_spell [] none = cc
parts_spell (a ∷ []) none = cc
parts_spell (a ∷ b ∷ []) none = cc
parts_spell (a ∷ b ∷ c ∷ []) none = cc
parts_spell (a ∷ b ∷ c ∷ d ∷ []) none = cc

-- an answer without a fault
pub ok_is : {A E : Type 0} (fault : Option E) (value answer : A) → ok_unless fault value ≡ Ok answer → (fault ≡ None) × (value ≡ answer)
ok_is None value answer e = (refl, cc)
ok_is (Some fault) value answer e = cc

-- what is decoded spells the text
pub decoded_spells : (text : List ℕ) (f : Fields) → decoded text ≡ Ok f → Spells f text
unfolding decoded decode_fault
decoded_spells text f e =
    let is = ok_is (first_failed (decode_tests (parts_at 58 text))) (fields_of (parts_at 58 text)) f e in
    let spells = parts_spell (parts_at 58 text) is.0 in
    let whole = join-parts_at 58 text (parts_at 58 text) refl in
    let within = subst IsFields is.1 spells.0 in
    (within, whole ∙ spells.1 ∙ ap spelled is.1)

-- each field of checked fields
pub record AreChecked (f : Fields) : Type 0 where
  pub user_is : is_user f.user ≡ true
  pub fits : f.stamp ≤ GREATEST_MOMENT
  pub version_is : is_version f.version ≡ true
  pub timeout_is : has_timeout f.ask ≡ true

pub are_checked : (f : Fields) → field_fault f ≡ None → AreChecked f
are_checked f none =
    let tests : List (Bool × FieldFault) = (is_user f.user, field.User) ∷ (nat_le f.stamp GREATEST_MOMENT, field.Stamp) ∷ (is_version f.version, field.Version)
    ∷ (has_timeout f.ask, field.Timeout) ∷ [] in
    let all = all_hold tests none in
    record { user_is = all.0; fits = leb-true f.stamp GREATEST_MOMENT all.1.0; version_is = all.1.1.0; timeout_is = all.1.1.1.0 }

digit_is_no_colon : (x : ℕ) → is_ascii_digit x ≡ true → (x == 58) ≡ false
digit_is_no_colon x is = grind (arith, nat_tests)

version_byte_is_no_colon : (x : ℕ) → is_version_byte x ≡ true → (x == 58) ≡ false
version_byte_is_no_colon x is = grind (arith, nat_tests)

-- no part has a `:`
rand_lacks : (rand : List ℕ) → is_rand rand ≡ true → Lacks 58 rand
rand_lacks rand is = Lacks-from_test 58 is_ascii_digit rand digit_is_no_colon (and_parts (length rand == 16) (list_all is_ascii_digit rand) is).1

version_lacks : (version : List ℕ) → is_version version ≡ true → Lacks 58 version
version_lacks version is =
    Lacks-from_test 58 is_version_byte version version_byte_is_no_colon
    (and_parts (nat_le 1 (length version) && nat_le (length version) 16) (list_all is_version_byte version) is).1

number_lacks : (n : ℕ) → n ≤ GREATEST_MOMENT → Lacks 58 (decimal n)
number_lacks n fits = Lacks-decimal 58 n (inl (omega arith)) (omega arith)

type_lacks : (ask : Ask) → Lacks 58 (type_text ask)
type_lacks (Access ip pairs) = Lacks-from_test 58 is_ascii_digit (codes "1") digit_is_no_colon refl
type_lacks (Timed ip pairs seconds) = Lacks-from_test 58 is_ascii_digit (codes "3") digit_is_no_colon refl

timeout_lacks : (ask : Ask) → has_timeout ask ≡ true → (digest : List ℕ) → Lacks 58 digest → AllByRecursion (Lacks 58) (timeout_parts ask ++ digest ∷ [])
timeout_lacks (Access ip pairs) is digest lacks = (lacks, tt)
timeout_lacks (Timed ip pairs seconds) is digest lacks = let most = (timeout_bounds seconds is).1 in (number_lacks seconds (omega arith), (lacks, tt))

-- cutting gives the parts back
pub cut_spelled : (f : Fields) → IsFields f → parts_at 58 (spelled f) ≡ parts_of f ++ digest_text f.kind (front_of f) ∷ []
unfolding spelled front_of
cut_spelled f is =
    let digest = digest_text f.kind (front_of f) in
    let others = text_of f.user ∷ decimal f.stamp ∷ f.version ∷ type_text f.ask ∷ text_of (message_text (asked_ip f.ask) (asked_pairs f.ask)) ∷ timeout_parts f.ask in
    let checks = are_checked f is.checked in
    ap (parts_at 58) (join-push 58 f.rand others digest)
    ∙ parts_at-join 58 f.rand (others ++ digest ∷ []) (
      rand_lacks f.rand is.rand,
      (
        Lacks-text_of f.user,
        (
          number_lacks f.stamp checks.fits,
          (
            version_lacks f.version checks.version_is,
            (
              type_lacks f.ask,
              (
                Lacks-text_of (message_text (asked_ip f.ask) (asked_pairs f.ask)),
                timeout_lacks f.ask checks.timeout_is digest (Lacks-text_of (hash_of f.kind (front_of f))),
              ),
            ),
          ),
        ),
      ),
    )

one_found : number_in 6 (codes "1") ≡ Some 1
unfolding number_in
one_found = refl

three_found : number_in 6 (codes "3") ≡ Some 3
unfolding number_in
three_found = refl

-- what the values of a head pass
pub head_none : (rand user : List ℕ) (stamp : ℕ) (version type : List ℕ) (number : ℕ) → is_rand rand ≡ true → is_user user ≡ true → stamp ≤ GREATEST_MOMENT
    → is_version version ≡ true → number_in 6 type ≡ Some number → (number == 1 || number == 3) ≡ true
    → first_failed (head_tests rand (text_of user) (decimal stamp) version type) ≡ None
head_none rand user stamp version type number r u s v t served =
    let value = number_value 6 number type t in
    let moment : number_in GREATEST_MOMENT (decimal stamp) ≡ Some stamp = (number_in_iff GREATEST_MOMENT stamp (decimal stamp) (omega arith)).1 (s, refl) in
    rw (r, user_in-text_of user u, moment, v, t, value, served) refl

pub digest_none : (front : List ℕ) (kind : HashKind) → first_failed (digest_tests front (digest_text kind front)) ≡ None
digest_none front kind =
    let digest = digest_text kind front in
    rw (kind_of_digest front kind, (bytes_eq-Decides digest digest).1 refl) refl

-- the values of a head within their rules
record HeadValues (rand user : List ℕ) (stamp : ℕ) (version : List ℕ) : Type 0 where
  rand_is : is_rand rand ≡ true
  user_is : is_user user ≡ true
  fits : stamp ≤ GREATEST_MOMENT
  version_is : is_version version ≡ true

-- an answer without a fault
ok_of : {A E : Type 0} (fault : Option E) (value answer : A) → fault ≡ None → value ≡ answer → ok_unless fault value ≡ Ok answer
ok_of {E = E} fault value answer none is = ap (λ (o : Option E). ok_unless o value) none ∙ ap Ok is

access_none : (rand user : List ℕ) (stamp : ℕ) (version : List ℕ) (ip : Ip4) (pairs : List Pair) (kind : HashKind)
    → HeadValues rand user stamp version → ip.0 < 2 ^ 32 → IsPairs pairs → (parts : List (List ℕ))
    → parts ≡ rand ∷ text_of user ∷ decimal stamp ∷ version ∷ codes "1" ∷ text_of (message_text ip pairs) ∷ []
    → first_failed (decode_tests (rand ∷ text_of user ∷ decimal stamp ∷ version ∷ codes "1" ∷ text_of (message_text ip pairs)
    ∷ digest_text kind (join_with_byte 58 parts) ∷ [])) ≡ None
access_none rand user stamp version ip pairs kind head small is parts are =
    let message = text_of (message_text ip pairs) in
    let six = rand ∷ text_of user ∷ decimal stamp ∷ version ∷ codes "1" ∷ message ∷ [] in
    let digest = digest_text kind (join_with_byte 58 six) in
    let heads = head_tests rand (text_of user) (decimal stamp) version (codes "1") in
    let asked : List (Bool × DecodeFault) = ask_tests 7 message digest in
    let none : first_failed (decode_tests (rand ∷ text_of user ∷ decimal stamp ∷ version ∷ codes "1" ∷ message ∷ digest ∷ [])) ≡ None =
    back_fails heads (count_tests 7 7 ++ asked ++ digest_tests (join_with_byte 58 six) digest) None
    (head_none rand user stamp version (codes "1") 1 head.rand_is head.user_is head.fits head.version_is one_found refl)
    (rw (asked_in-text_of ip pairs small is) (digest_none (join_with_byte 58 six) kind)) in
    rw are none

timed_none : (rand user : List ℕ) (stamp : ℕ) (version : List ℕ) (ip : Ip4) (pairs : List Pair) (seconds : ℕ) (kind : HashKind)
    → HeadValues rand user stamp version → ip.0 < 2 ^ 32 → IsPairs pairs → is_timeout seconds ≡ true → (parts : List (List ℕ))
    → parts ≡ rand ∷ text_of user ∷ decimal stamp ∷ version ∷ codes "3" ∷ text_of (message_text ip pairs) ∷ decimal seconds ∷ []
    → first_failed (decode_tests (rand ∷ text_of user ∷ decimal stamp ∷ version ∷ codes "3" ∷ text_of (message_text ip pairs) ∷ decimal seconds
    ∷ digest_text kind (join_with_byte 58 parts) ∷ [])) ≡ None
timed_none rand user stamp version ip pairs seconds kind head small is time parts are =
    let message = text_of (message_text ip pairs) in
    let seven = rand ∷ text_of user ∷ decimal stamp ∷ version ∷ codes "3" ∷ message ∷ decimal seconds ∷ [] in
    let digest = digest_text kind (join_with_byte 58 seven) in
    let heads = head_tests rand (text_of user) (decimal stamp) version (codes "3") in
    let none : first_failed (decode_tests (rand ∷ text_of user ∷ decimal stamp ∷ version ∷ codes "3" ∷ message ∷ decimal seconds ∷ digest ∷ [])) ≡ None =
    back_fails heads (count_tests 8 8 ++ ask_tests 8 message (decimal seconds) ++ digest_tests (join_with_byte 58 seven) digest) None
    (head_none rand user stamp version (codes "3") 3 head.rand_is head.user_is head.fits head.version_is three_found refl)
    (rw (asked_in-text_of ip pairs small is, seconds_in-decimal seconds time) (digest_none (join_with_byte 58 seven) kind)) in
    rw are none

by_ask : (rand user : List ℕ) (stamp : ℕ) (version : List ℕ) (ask : Ask) (kind : HashKind)
    → IsFields (record { rand = rand; user = user; stamp = stamp; version = version; ask = ask; kind = kind })
    → decoded (spelled (record { rand = rand; user = user; stamp = stamp; version = version; ask = ask; kind = kind }))
    ≡ Ok (record { rand = rand; user = user; stamp = stamp; version = version; ask = ask; kind = kind })
unfolding decoded decode_fault front_of
by_ask rand user stamp version (Access ip pairs) kind is =
    let f : Fields = record { rand = rand; user = user; stamp = stamp; version = version; ask = Access ip pairs; kind = kind } in
    let checks = are_checked f is.checked in
    let head : HeadValues rand user stamp version =
    record { rand_is = is.rand; user_is = checks.user_is; fits = checks.fits; version_is = checks.version_is } in
    let digest = digest_text kind (front_of f) in
    let moment = number_value GREATEST_MOMENT stamp (decimal stamp) ((number_in_iff GREATEST_MOMENT stamp (decimal stamp) (omega arith)).1 (checks.fits, refl)) in
    ap (λ (parts : List (List ℕ)). ok_unless (first_failed (decode_tests parts)) (fields_of parts)) (cut_spelled f is)
    ∙ ok_of _ _ f (access_none rand user stamp version ip pairs kind head is.address is.pairs (parts_of f) refl)
    (access_fields rand (text_of user) (decimal stamp) version (codes "1") (text_of (message_text ip pairs)) digest user stamp (ip, pairs) kind refl
    (user_in-text_of user checks.user_is) moment (asked_in-text_of ip pairs is.address is.pairs) (kind_of_digest (front_of f) kind))
by_ask rand user stamp version (Timed ip pairs seconds) kind is =
    let f : Fields = record { rand = rand; user = user; stamp = stamp; version = version; ask = Timed ip pairs seconds; kind = kind } in
    let checks = are_checked f is.checked in
    let head : HeadValues rand user stamp version =
    record { rand_is = is.rand; user_is = checks.user_is; fits = checks.fits; version_is = checks.version_is } in
    let digest = digest_text kind (front_of f) in
    let moment = number_value GREATEST_MOMENT stamp (decimal stamp) ((number_in_iff GREATEST_MOMENT stamp (decimal stamp) (omega arith)).1 (checks.fits, refl)) in
    ap (λ (parts : List (List ℕ)). ok_unless (first_failed (decode_tests parts)) (fields_of parts)) (cut_spelled f is)
    ∙ ok_of _ _ f (timed_none rand user stamp version ip pairs seconds kind head is.address is.pairs checks.timeout_is (parts_of f) refl)
    (timed_fields rand (text_of user) (decimal stamp) version (codes "3") (text_of (message_text ip pairs)) (decimal seconds) digest user stamp (ip, pairs)
    seconds kind refl (user_in-text_of user checks.user_is) moment (asked_in-text_of ip pairs is.address is.pairs)
    (seconds_value (decimal seconds) seconds (seconds_in-decimal seconds checks.timeout_is)) (kind_of_digest (front_of f) kind))

pub decoded-spelled : (f : Fields) → IsFields f → decoded (spelled f) ≡ Ok f
decoded-spelled f is = by_ask f.rand f.user f.stamp f.version f.ask f.kind is

pub decoded_iff : (text : List ℕ) (f : Fields) → (decoded text ≡ Ok f) ↔ Spells f text
decoded_iff text f = (decoded_spells text f, λ (is, e). ap decoded e ∙ decoded-spelled f is)
