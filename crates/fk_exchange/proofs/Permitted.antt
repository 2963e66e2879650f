-- A request that a stanza grants under its keys is one that the stanza permits.
use Rattle.std.proofs.Common.{◌≡◌, ◌≢◌, ℕ, ◌+◌, ◌-◌, ◌≤◌, Bool, true, false, not, ◌&&◌, List, Option, Some, None, refl, sym, subst, ◌∙◌, arith, if◌then◌else◌}
use Rattle.std.specs.Prelude.{◌==◌, nat_le, is_none, IfSome, All, Contains}
use Rattle.std.specs.Int.{abs_diff}
use Rattle.std.specs.List.{list_all}
use Rattle.std.specs.Option.{option_map, option_map_or}
use Rattle.std.specs.Str.{bytes_eq}
use Rattle.std.proofs.lemmas.Bool.{and_parts, eq-eqb, leb-true, not-true}
use Rattle.std.proofs.lemmas.List.Folds.{Any-from_list_any}
use Rattle.std.proofs.lemmas.List.Sums.{AllPass-from_list_all}
use Rattle.std.proofs.lemmas.Slice.Eq.{bytes_eq-Decides}
use Rattle.fk_base.specs.FirstFailed.{first_failed}
use Rattle.fk_base.specs.Net.{covers}
use Rattle.fk_base.specs.declared.address.Ip4.{Ip4}
use Rattle.fk_base.specs.declared.grant.Grant.{Grant}
use Rattle.fk_base.specs.declared.pair.Pair.{Pair}
use Rattle.fk_fields.specs.Fields.{asked_ip, asked_pairs}
use Rattle.fk_codec.proofs.TestLists.{all_hold}
use Rattle.fk_access.specs.declared.sources.Sources.{Sources}
use Rattle.fk_access.specs.declared.sources.Sources.TheVariants.{Any as AnySource, Nets}
use Rattle.fk_access.specs.declared.stanza.Stanza.{Stanza}
use Rattle.fk_admit.specs.Admit.{fields_by, grant_of, granted_by}
use Rattle.fk_admit.specs.Arrival.{Arrival}
use Rattle.fk_admit.specs.Conditions.{field_tests, is_in, is_open_at, may_open, picked_by, serves, served_tests, tests}
use Rattle.fk_admit.specs.declared.refusal.Refusal.{Refusal}
use Rattle.fk_admit.specs.declared.refusal.Refusal.TheVariants.{NoStanza}
use Rattle.fk_admit.proofs.OneStanza.{served_fields}
use Rattle.fk_client.specs.Sent.{fields_of}
use Rattle.fk_exchange.specs.Permits.{IsAmong, IsOpenTo, Permits}
use Rattle.fk_exchange.specs.Request.{Arrives, IsDatagramOf, Request}
use Rattle.fk_exchange.proofs.Conditions.{found as found_in, listed}
use Rattle.fk_exchange.proofs.FirstKeys.{picked_is_first}
use Rattle.fk_exchange.proofs.Granted.{first_for}

-- each condition

among : (sources : Sources) (source : Ip4) → serves sources source ≡ true → IsAmong sources source
among AnySource source is = tt
among (Nets nets) source is = Any-from_list_any (λ net. covers net source) nets is

within_last : (last : Option ℕ) (moment : ℕ) → is_open_at last moment ≡ true → IfSome last (λ l. moment ≤ l)
within_last None moment is = tt
within_last (Some l) moment is = leb-true moment l is

record IsWithin (moment stamp age : ℕ) : Type 0 where
  late : moment ≤ stamp + age
  early : stamp ≤ moment + age

within : (moment stamp age : ℕ) → nat_le (abs_diff moment stamp) age ≡ true → IsWithin moment stamp age
within moment stamp age is =
    let most = leb-true ((moment - stamp) + (stamp - moment)) age is in
    record { late = omega arith; early = omega arith }

user_is : (name : Option (List ℕ)) (user : List ℕ) → option_map_or (λ n. bytes_eq n user) name true ≡ true → IfSome name (λ n. user ≡ n)
user_is None user is = tt
user_is (Some n) user is = sym ((bytes_eq-Decides n user).0 is)

names_one : (need : Bool) (ip : ℕ) → not (need && ip == 0) ≡ true → need ≡ true → ip ≢ 0
names_one false ip is needed = cc
names_one true ip is needed = λ none. absurd (let no : true ≡ false = sym (eq-eqb ip 0 none) ∙ not-true (ip == 0) is in cc)

allowed : (list : Option (List Pair)) (pair : Pair) → option_map_or (λ pairs. is_in pairs pair) list true ≡ true → IfSome list (λ pairs. Contains pairs pair)
allowed None pair is = tt
allowed (Some pairs) pair is = found_in pairs pair is

not_barred : (list : Option (List Pair)) (pair : Pair) → option_map_or (λ pairs. is_in pairs pair) list false ≡ false → IfSome list (λ pairs. ¬ Contains pairs pair)
not_barred None pair is = tt
not_barred (Some pairs) pair is = λ member. absurd (let no : true ≡ false = sym (listed pairs pair member) ∙ is in cc)

open_to : (stanza : Stanza) (pair : Pair) → may_open stanza pair ≡ true → IsOpenTo stanza pair
open_to stanza pair is =
    let inside = option_map_or (λ pairs. is_in pairs pair) stanza.allowed true in
    let outside = option_map_or (λ pairs. is_in pairs pair) stanza.barred false in
    let both = and_parts inside (not outside) is in
    record { allowed = allowed stanza.allowed pair both.0; not_barred = not_barred stanza.barred pair (not-true outside both.1) }

open_to_all : (stanza : Stanza) (pairs : List Pair) → list_all (may_open stanza) pairs ≡ true → All (IsOpenTo stanza) pairs
open_to_all stanza pairs is = λ k d lt. open_to stanza _ (AllPass-from_list_all (may_open stanza) pairs is k d lt)

-- all of them

none_failed : (failed : Option Refusal) (given : Option Grant) (grant : Grant) → (if is_none failed then given else None) ≡ Some grant → failed ≡ None
none_failed None given grant is = refl
none_failed (Some refusal) given grant is = cc

others_pass : (holds : Bool) (others : Option Refusal) → (if holds then others else Some NoStanza) ≡ None → (holds ≡ true) × (others ≡ None)
others_pass true others none = (refl, none)
others_pass false others none = cc

pub permitted : (request : Request) (arrival : Arrival) (stanza : Stanza) → IsDatagramOf request arrival.datagram →
    picked_by stanza arrival ≡ Some request.settings.keys → (number : ℕ) (grant : Grant) → granted_by number stanza arrival ≡ Some grant →
    Arrives request arrival × Permits stanza request arrival
permitted request arrival stanza sent picked_is number grant is =
    let fields = fields_of request.settings request.moment request.drawn in
    let first = picked_is_first stanza.ring request.settings.keys arrival picked_is in
    let found = first_for request arrival stanza sent first in
    let none = none_failed (first_failed (tests stanza arrival)) (option_map (grant_of number stanza arrival) (fields_by stanza arrival)) grant is in
    let serving = others_pass (serves stanza.sources arrival.source) (first_failed (served_tests stanza arrival)) none in
    let not_over : is_open_at stanza.expire arrival.moment ≡ true = (all_hold (served_tests stanza arrival) serving.1).0 in
    let hold = all_hold (field_tests stanza arrival fields) (sym (served_fields stanza arrival fields not_over found) ∙ serving.1) in
    let age = within arrival.moment request.moment arrival.age hold.0 in
    let arrives : Arrives request arrival = record { sent = sent; not_late = age.late; not_early = age.early } in
    let permits : Permits stanza request arrival = record {
      keys = first;
      source = among stanza.sources arrival.source serving.0;
      last = within_last stanza.expire arrival.moment not_over;
      user = user_is stanza.user request.settings.user hold.1.0;
      address = names_one stanza.need_source (asked_ip request.settings.ask).0 hold.1.1.0;
      pairs = open_to_all stanza (asked_pairs request.settings.ask) hold.1.1.1.0;
    } in
    (arrives, permits)
