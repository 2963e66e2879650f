-- What the readers of the parts have found, put together.
use Rattle.std.proofs.Common.{◌≡◌, ℕ, ◌+◌, ◌-◌, ◌≤◌, Bool, true, false, List, [], ◌∷◌, ◌++◌, length, take, Option, Some, None, Ok, refl, sym, ap, ◌∙◌, arith}
use Rattle.std.specs.Prelude.{◌==◌, ◌||◌, nat_le}
use Rattle.std.specs.Borrow.{Bor}
use Rattle.std.specs.List.{join_with_byte}
use Rattle.std.proofs.lemmas.Bool.{le-leb}
use Rattle.std.proofs.lemmas.List.{append_cancel_right}
use Rattle.fk_base.specs.declared.address.Ip4.{Ip4}
use Rattle.fk_base.specs.declared.hash_kind.HashKind.{HashKind}
use Rattle.fk_base.specs.declared.moment.TheConstants.{GREATEST_MOMENT}
use Rattle.fk_base.specs.declared.pair.Pair.{Pair}
use Rattle.fk_base.specs.Decimal.{decimal_value, number_in}
use Rattle.fk_base.specs.FirstFailed.{first_failed}
use Rattle.fk_base.specs.HashKind.{kind_by_len}
use Rattle.fk_base.specs.Parts.{parts_at}
use Rattle.fk_base.proofs.FoundValues.{number_in_iff}
use Rattle.fk_base.proofs.Joined.{join-parts_at, join-push}
use Rattle.fk_fields.specs.declared.fields.Ask.{Ask}
use Rattle.fk_fields.specs.declared.fields.Ask.TheVariants.{Timed}
use Rattle.fk_fields.specs.declared.fields.Fields.{Fields}
use Rattle.fk_fields.specs.FieldText.{is_rand, is_version}
use Rattle.fk_codec.specs.declared.fault.DecodeFault.{DecodeFault}
use Rattle.fk_codec.specs.declared.fault.DecodeFault.TheVariants.{Missing, KindOut}
use Rattle.fk_codec.specs.declared.head.RequestType.{RequestType}
use Rattle.fk_codec.specs.declared.head.RequestType.TheVariants as request
use Rattle.fk_codec.specs.DecodeFault.{ask_tests, asked_in, count_tests, decode_fault, decode_tests, decoded, digest_tests, fields_of, head_tests, ok_unless, part, parts_needed, seconds_in, tests_needing, user_in}
use Rattle.fk_codec.specs.Private.{seconds_parts, tail_ask, tail_tests, type_number}
use Rattle.fk_codec.specs.Spells.{Spells}
use Rattle.fk_codec.proofs.Law.{decoded_iff, ok_is}
use Rattle.fk_codec.proofs.TestLists.{back_fails, front_fails}
use Rattle.fk_codec.proofs.Values.{number_value, seconds_value}

-- the head

pub number_small : (greatest n : ℕ) (text : List ℕ) → greatest ≤ 999999999999 → number_in greatest text ≡ Some n → n ≤ greatest
number_small greatest n text small e = ((number_in_iff greatest n text (omega arith)).0 e).0

-- all tests of a head but the last
record Heads (rand user stamp version type name : List ℕ) (moment number : ℕ) : Type 0 where
  rand_is : is_rand rand ≡ true
  user_is : user_in user ≡ Some name
  stamp_is : number_in GREATEST_MOMENT stamp ≡ Some moment
  version_is : is_version version ≡ true
  type_is : number_in 6 type ≡ Some number

pub head_out : (rand user stamp version type name : List ℕ) (moment number : ℕ) (fault : DecodeFault) → is_rand rand ≡ true → user_in user ≡ Some name
    → number_in GREATEST_MOMENT stamp ≡ Some moment → is_version version ≡ true → number_in 6 type ≡ Some number
    → ((number == 1 || number == 3) ≡ false) × (fault ≡ KindOut number) → first_failed (head_tests rand user stamp version type) ≡ Some fault
head_out rand user stamp version type name moment number fault r u s v t (out, is) =
    let value = number_value 6 number type t in
    rw (r, u, s, v, t, value, out) (ap Some (sym is))

pub head_in : (rand user stamp version type name : List ℕ) (moment number : ℕ) (request : RequestType) → is_rand rand ≡ true → user_in user ≡ Some name
    → number_in GREATEST_MOMENT stamp ≡ Some moment → is_version version ≡ true → number_in 6 type ≡ Some number
    → number ≡ type_number request → first_failed (head_tests rand user stamp version type) ≡ None
head_in rand user stamp version type name moment number request.Access r u s v t served =
    let value = number_value 6 number type t ∙ served in
    rw (r, u, s, v, t, value) refl
head_in rand user stamp version type name moment number request.Timed r u s v t served =
    let value = number_value 6 number type t ∙ served in
    rw (r, u, s, v, t, value) refl

-- the tests of a text are those of its parts

pub fault_of_parts : (text : List ℕ) (parts : List (List ℕ)) (fault : DecodeFault) → parts ≡ parts_at 58 text
    → first_failed (decode_tests parts) ≡ Some fault → decode_fault text ≡ Some fault
unfolding decode_fault
fault_of_parts text parts fault are fails = ap (λ (p : List (List ℕ)). first_failed (decode_tests p)) (sym are) ∙ fails

-- the tests behind those of the head
abbrev behind_head : ℕ → (r u s v t : List ℕ) → List (List ℕ) → List (Bool × DecodeFault)
behind_head needed r u s v t rest =
    count_tests needed (length (r ∷ u ∷ s ∷ v ∷ t ∷ rest)) ++ ask_tests needed (part 1 rest) (part 2 rest)
    ++ digest_tests (join_with_byte 58 (take (needed - 1) (r ∷ u ∷ s ∷ v ∷ t ∷ rest))) (part needed (r ∷ u ∷ s ∷ v ∷ t ∷ rest))

-- the first test is that of the five parts
five_parts : (needed : ℕ) (r u s v t : List ℕ) (rest : List (List ℕ)) (o : Option DecodeFault)
    → first_failed (head_tests r u s v t ++ behind_head needed r u s v t rest) ≡ o
    → first_failed (tests_needing needed (r ∷ u ∷ s ∷ v ∷ t ∷ rest)) ≡ o
five_parts needed r u s v t rest o is =
    let n = length (r ∷ u ∷ s ∷ v ∷ t ∷ rest) in
    let enough : nat_le 5 n ≡ true = le-leb 5 n (omega arith) in
    let one : first_failed ((nat_le 5 n, Missing (n + 1)) ∷ []) ≡ None = rw enough refl in
    back_fails ((nat_le 5 n, Missing (n + 1)) ∷ []) (head_tests r u s v t ++ behind_head needed r u s v t rest) o one is

pub head_fails : (parts : List (List ℕ)) (r u s v t : List ℕ) (rest : List (List ℕ)) (fault : DecodeFault) → parts ≡ r ∷ u ∷ s ∷ v ∷ t ∷ rest
    → first_failed (head_tests r u s v t) ≡ Some fault → first_failed (decode_tests parts) ≡ Some fault
head_fails parts r u s v t rest fault are fails =
    let needed = parts_needed (decimal_value t) in
    ap (λ (p : List (List ℕ)). first_failed (decode_tests p)) are
    ∙ five_parts needed r u s v t rest (Some fault) (front_fails (head_tests r u s v t) (behind_head needed r u s v t rest) fault fails)

pub count_fails : (parts : List (List ℕ)) (r u s v t : List ℕ) (rest : List (List ℕ)) (number : ℕ) (fault : DecodeFault) → parts ≡ r ∷ u ∷ s ∷ v ∷ t ∷ rest
    → first_failed (head_tests r u s v t) ≡ None → decimal_value t ≡ number → first_failed (count_tests (parts_needed number) (length rest + 5)) ≡ Some fault
    → first_failed (decode_tests parts) ≡ Some fault
count_fails parts r u s v t rest number fault are none typed fails =
    let needed = parts_needed (decimal_value t) in
    let whole = r ∷ u ∷ s ∷ v ∷ t ∷ rest in
    let n = length whole in
    let same : length rest + 5 ≡ n = omega arith in
    let behind = ask_tests needed (part 1 rest) (part 2 rest) ++ digest_tests (join_with_byte 58 (take (needed - 1) whole)) (part needed whole) in
    let counted : first_failed (count_tests needed n) ≡ Some fault =
    ap (λ (k : ℕ). first_failed (count_tests (parts_needed k) n)) typed
    ∙ ap (λ (k : ℕ). first_failed (count_tests (parts_needed number) k)) (sym same) ∙ fails in
    ap (λ (p : List (List ℕ)). first_failed (decode_tests p)) are
    ∙ five_parts needed r u s v t rest (Some fault)
    (back_fails (head_tests r u s v t) (behind_head needed r u s v t rest) (Some fault) none (front_fails (count_tests needed n) behind fault counted))

-- the tests behind those of the count, by the parts behind the type

rest_answers : (r u s v t m : List ℕ) (seconds : Option (Bor (List ℕ))) (d : List ℕ) (o : Option DecodeFault) → first_failed (head_tests r u s v t) ≡ None
    → first_failed (tail_tests (m ∷ (seconds_parts seconds ++ d ∷ []))
    ++ digest_tests (join_with_byte 58 (r ∷ u ∷ s ∷ v ∷ t ∷ m ∷ seconds_parts seconds)) d) ≡ o
    → first_failed (tests_needing (length (m ∷ (seconds_parts seconds ++ d ∷ [])) + 5) (r ∷ u ∷ s ∷ v ∷ t ∷ m ∷ (seconds_parts seconds ++ d ∷ []))) ≡ o
rest_answers r u s v t m None d o none is =
    back_fails (head_tests r u s v t) (count_tests 7 7 ++ ask_tests 7 m d ++ digest_tests (join_with_byte 58 (r ∷ u ∷ s ∷ v ∷ t ∷ m ∷ [])) d) o none is
rest_answers r u s v t m (Some x) d o none is =
    back_fails (head_tests r u s v t)
    (count_tests 8 8 ++ ask_tests 8 m x.now ++ digest_tests (join_with_byte 58 (r ∷ u ∷ s ∷ v ∷ t ∷ m ∷ x.now ∷ [])) d) o none is

-- what has been found of parts: the head passes, and there are as many as the type needs
pub record AreParts (parts : List (List ℕ)) (r u s v t m : List ℕ) (seconds : Option (Bor (List ℕ))) (d : List ℕ) (number : ℕ) : Type 0 where
  pub are : parts ≡ r ∷ u ∷ s ∷ v ∷ t ∷ m ∷ (seconds_parts seconds ++ d ∷ [])
  pub none : first_failed (head_tests r u s v t) ≡ None
  pub typed : decimal_value t ≡ number
  pub count : length (m ∷ (seconds_parts seconds ++ d ∷ [])) + 5 ≡ parts_needed number

pub parts_answer : (parts : List (List ℕ)) (r u s v t m : List ℕ) (seconds : Option (Bor (List ℕ))) (d : List ℕ) (number : ℕ) (o : Option DecodeFault)
    → AreParts parts r u s v t m seconds d number
    → first_failed (tail_tests (m ∷ (seconds_parts seconds ++ d ∷ []))
    ++ digest_tests (join_with_byte 58 (r ∷ u ∷ s ∷ v ∷ t ∷ m ∷ seconds_parts seconds)) d) ≡ o
    → first_failed (decode_tests parts) ≡ o
parts_answer parts r u s v t m seconds d number o found is =
    let rest = m ∷ (seconds_parts seconds ++ d ∷ []) in
    let needed : parts_needed (decimal_value t) ≡ length rest + 5 = ap parts_needed found.typed ∙ sym found.count in
    ap (λ (p : List (List ℕ)). first_failed (decode_tests p)) found.are
    ∙ ap (λ (n : ℕ). first_failed (tests_needing n (r ∷ u ∷ s ∷ v ∷ t ∷ rest))) needed
    ∙ rest_answers r u s v t m seconds d o found.none is

-- the digest and all before it

pub front_and_last : (text : List ℕ) (parts : List (List ℕ)) (r u s v t m : List ℕ) (seconds : Option (Bor (List ℕ))) (d : List ℕ) → parts ≡ parts_at 58 text
    → parts ≡ r ∷ u ∷ s ∷ v ∷ t ∷ m ∷ (seconds_parts seconds ++ d ∷ [])
    → text ≡ join_with_byte 58 (r ∷ u ∷ s ∷ v ∷ t ∷ m ∷ seconds_parts seconds) ++ 58 ∷ d
front_and_last text parts r u s v t m seconds d cut are =
    join-parts_at 58 text (r ∷ u ∷ s ∷ v ∷ t ∷ m ∷ (seconds_parts seconds ++ d ∷ [])) (sym cut ∙ are)
    ∙ sym (join-push 58 r (u ∷ s ∷ v ∷ t ∷ m ∷ seconds_parts seconds) d)

pub front_is : (text front : List ℕ) (parts : List (List ℕ)) (r u s v t m : List ℕ) (seconds : Option (Bor (List ℕ))) (d : List ℕ)
    → parts ≡ parts_at 58 text → parts ≡ r ∷ u ∷ s ∷ v ∷ t ∷ m ∷ (seconds_parts seconds ++ d ∷ []) → text ≡ front ++ 58 ∷ d
    → front ≡ join_with_byte 58 (r ∷ u ∷ s ∷ v ∷ t ∷ m ∷ seconds_parts seconds)
front_is text front parts r u s v t m seconds d cut are split =
    append_cancel_right front (join_with_byte 58 (r ∷ u ∷ s ∷ v ∷ t ∷ m ∷ seconds_parts seconds)) (58 ∷ d)
    (sym split ∙ front_and_last text parts r u s v t m seconds d cut are)

-- the fields

fields_are : (request : RequestType) (r u s v t m : List ℕ) (seconds : Option (Bor (List ℕ))) (d name : List ℕ) (moment : ℕ) (ask : Ask) (kind : HashKind)
    → decimal_value t ≡ type_number request → length (m ∷ (seconds_parts seconds ++ d ∷ [])) + 5 ≡ parts_needed (type_number request)
    → user_in u ≡ Some name → decimal_value s ≡ moment → ask ≡ tail_ask (m ∷ (seconds_parts seconds ++ d ∷ [])) → kind_by_len (length d) ≡ Some kind
    → fields_of (r ∷ u ∷ s ∷ v ∷ t ∷ m ∷ (seconds_parts seconds ++ d ∷ []))
    ≡ record { rand = r; user = name; stamp = moment; version = v; ask = ask; kind = kind }
fields_are request.Access r u s v t m None d name moment ask kind typed count named stamped asked hashed = rw (typed, named, stamped, asked, hashed) refl
fields_are request.Timed r u s v t m (Some x) d name moment ask kind typed count named stamped asked hashed = rw (typed, named, stamped, asked, hashed) refl
fields_are request.Access r u s v t m (Some x) d name moment ask kind typed count named stamped asked hashed = absurd (let no : ⊥ = omega arith in no)
fields_are request.Timed r u s v t m None d name moment ask kind typed count named stamped asked hashed = absurd (let no : ⊥ = omega arith in no)

pub decoded_is : (text : List ℕ) (parts : List (List ℕ)) (request : RequestType) (r u s v t m : List ℕ) (seconds : Option (Bor (List ℕ))) (d name : List ℕ)
    (moment : ℕ) (ask : Ask) (kind : HashKind) → parts ≡ parts_at 58 text → AreParts parts r u s v t m seconds d (type_number request)
    → first_failed (tail_tests (m ∷ (seconds_parts seconds ++ d ∷ []))) ≡ None
    → first_failed (digest_tests (join_with_byte 58 (r ∷ u ∷ s ∷ v ∷ t ∷ m ∷ seconds_parts seconds)) d) ≡ None
    → (digits : List ℕ) → r ≡ digits → user_in u ≡ Some name → decimal_value s ≡ moment
    → ask ≡ tail_ask (m ∷ (seconds_parts seconds ++ d ∷ [])) → kind_by_len (length d) ≡ Some kind
    → decoded text ≡ Ok (record { rand = digits; user = name; stamp = moment; version = v; ask = ask; kind = kind })
unfolding decoded decode_fault
decoded_is text parts request r u s v t m seconds d name moment ask kind cut found tail digest digits same named stamped asked hashed =
    let digests = digest_tests (join_with_byte 58 (r ∷ u ∷ s ∷ v ∷ t ∷ m ∷ seconds_parts seconds)) d in
    let none = parts_answer parts r u s v t m seconds d (type_number request) None found
    (back_fails (tail_tests (m ∷ (seconds_parts seconds ++ d ∷ []))) digests None tail digest) in
    ap (λ (p : List (List ℕ)). ok_unless (first_failed (decode_tests p)) (fields_of p)) (sym cut)
    ∙ ap (λ (o : Option DecodeFault). ok_unless o (fields_of parts)) none
    ∙ ap Ok (ap fields_of found.are ∙ fields_are request r u s v t m seconds d name moment ask kind found.typed found.count named stamped asked hashed)
    ∙ ap (λ (x : List ℕ). Ok (record { rand = x; user = name; stamp = moment; version = v; ask = ask; kind = kind })) same

-- the parts behind the type

pub timed_ask : (m d : List ℕ) (seconds : Option (Bor (List ℕ))) (x : Bor (List ℕ)) (ip : Ip4) (pairs : List Pair) (n : ℕ) → seconds ≡ Some x
    → asked_in m ≡ Some (ip, pairs) → seconds_in x.now ≡ Some n
    → (first_failed (tail_tests (m ∷ (seconds_parts seconds ++ d ∷ []))) ≡ None) × (Timed ip pairs n ≡ tail_ask (m ∷ (seconds_parts seconds ++ d ∷ [])))
timed_ask m d seconds x ip pairs n there says timed =
    let value = seconds_value x.now n timed in
    rw (there, says, timed, value) (refl, refl)

-- the answer

pub faultless : (text : List ℕ) (f : Fields) → decoded text ≡ Ok f → decode_fault text ≡ None
unfolding decoded
faultless text f e = (ok_is (decode_fault text) (fields_of (parts_at 58 text)) f e).0

pub faulty : (text : List ℕ) (f : Fields) (fault : DecodeFault) → decode_fault text ≡ Some fault → Spells f text → ⊥
faulty text f fault fails spells =
    let none = faultless text f ((decoded_iff text f).1 spells) in
    let both : None ≡ Some fault = sym none ∙ fails in
    cc

pub only_fields : (text : List ℕ) (f g : Fields) → decoded text ≡ Ok f → Spells g text → f ≡ g
only_fields text f g e spells = let both : Ok f ≡ Ok g = sym e ∙ (decoded_iff text g).1 spells in cc
