-- What a stanza permits passes the tests of its conditions.
use Rattle.std.proofs.Common.{◌≡◌, ◌≢◌, ℕ, ◌+◌, ◌-◌, ◌≤◌, Bool, true, false, not, ◌&&◌, List, Option, Some, None, refl, sym, ap, subst, inl, inr, arith}
use Rattle.std.specs.Prelude.{◌==◌, nat_le, IfSome, All, Contains}
use Rattle.std.specs.Int.{abs_diff}
use Rattle.std.specs.List.{list_all}
use Rattle.std.specs.Option.{option_map_or}
use Rattle.std.specs.Str.{bytes_eq}
use Rattle.std.proofs.lemmas.Bool.{and_parts, cases_Bool, eq-eqb, eqb-true, le-leb, ne_eqb}
use Rattle.std.proofs.lemmas.List.Folds.{Any-from_list_any, list_any-from_Any}
use Rattle.std.proofs.lemmas.List.Sums.{list_all-from_AllPass}
use Rattle.std.proofs.lemmas.Slice.Eq.{bytes_eq-Decides}
use Rattle.fk_base.specs.Net.{covers}
use Rattle.fk_base.specs.declared.address.Ip4.{Ip4}
use Rattle.fk_base.specs.declared.pair.Pair.{Pair}
use Rattle.fk_base.specs.declared.pair.Proto.{Proto}
use Rattle.fk_base.specs.declared.pair.Proto.TheVariants.{Tcp, Udp}
use Rattle.fk_base.proofs.PairTexts.{Pair-same}
use Rattle.fk_access.specs.declared.sources.Sources.{Sources}
use Rattle.fk_access.specs.declared.sources.Sources.TheVariants.{Any as AnySource, Nets}
use Rattle.fk_access.specs.declared.stanza.Stanza.{Stanza}
use Rattle.fk_admit.specs.Conditions.{is_in, is_open_at, is_same_proto, may_open, serves}
use Rattle.fk_exchange.specs.Permits.{IsAmong, IsOpenTo}

pub served : (sources : Sources) (source : Ip4) → IsAmong sources source → serves sources source ≡ true
served AnySource source among = refl
served (Nets nets) source among = list_any-from_Any (λ net. covers net source) nets among

pub not_over : (last : Option ℕ) (moment : ℕ) → IfSome last (λ l. moment ≤ l) → is_open_at last moment ≡ true
not_over None moment within = refl
not_over (Some l) moment within = le-leb moment l within

pub young : (moment stamp age : ℕ) → moment ≤ stamp + age → stamp ≤ moment + age → nat_le (abs_diff moment stamp) age ≡ true
young moment stamp age late early = le-leb ((moment - stamp) + (stamp - moment)) age (omega arith)

pub required : (name : Option (List ℕ)) (user : List ℕ) → IfSome name (λ n. user ≡ n) → option_map_or (λ n. bytes_eq n user) name true ≡ true
required None user is = refl
required (Some n) user is = (bytes_eq-Decides n user).1 (sym is)

pub named : (need : Bool) (ip : ℕ) → (need ≡ true → ip ≢ 0) → not (need && ip == 0) ≡ true
named false ip some = refl
named true ip some = ap not (ne_eqb ip 0 (some refl))

-- a pair in a list

itself : (proto : Proto) (port : ℕ) → (is_same_proto proto proto && port == port) ≡ true
itself Tcp port = eq-eqb port port refl
itself Udp port = eq-eqb port port refl

pub listed : (pairs : List Pair) (pair : Pair) → Contains pairs pair → is_in pairs pair ≡ true
listed pairs pair among =
    list_any-from_Any (λ p. is_same_proto p.proto pair.proto && p.port == pair.port) pairs
    (among.0, pair, among.1, among.2, itself pair.proto pair.port)

same_proto : (a b : Proto) → is_same_proto a b ≡ true → a ≡ b
same_proto Tcp Tcp is = refl
same_proto Udp Udp is = refl
same_proto Tcp Udp is = cc
same_proto Udp Tcp is = cc

pub found : (pairs : List Pair) (pair : Pair) → is_in pairs pair ≡ true → Contains pairs pair
found pairs pair is =
    let some = Any-from_list_any (λ p. is_same_proto p.proto pair.proto && p.port == pair.port) pairs is in
    let both = and_parts (is_same_proto some.1.proto pair.proto) (some.1.port == pair.port) some.4 in
    let same : some.1 ≡ pair = Pair-same some.1 pair (same_proto some.1.proto pair.proto both.0) (eqb-true some.1.port pair.port both.1) in
    subst (Contains pairs) same (some.0, some.2, some.3)

pub unlisted : (pairs : List Pair) (pair : Pair) → ¬ Contains pairs pair → is_in pairs pair ≡ false
unlisted pairs pair none = elim (cases_Bool (is_in pairs pair)) [
  | inl is ↦ absurd (none (found pairs pair is))
  | inr other ↦ other
]

allowed : (list : Option (List Pair)) (pair : Pair) → IfSome list (λ pairs. Contains pairs pair) → option_map_or (λ pairs. is_in pairs pair) list true ≡ true
allowed None pair among = refl
allowed (Some pairs) pair among = listed pairs pair among

barred : (list : Option (List Pair)) (pair : Pair) → IfSome list (λ pairs. ¬ Contains pairs pair) → option_map_or (λ pairs. is_in pairs pair) list false ≡ false
barred None pair none = refl
barred (Some pairs) pair none = unlisted pairs pair none

opens_to : (stanza : Stanza) (pair : Pair) → IsOpenTo stanza pair → may_open stanza pair ≡ true
opens_to stanza pair is = rw (allowed stanza.allowed pair is.allowed, barred stanza.barred pair is.not_barred) refl

pub opens_to_all : (stanza : Stanza) (pairs : List Pair) → All (IsOpenTo stanza) pairs → list_all (may_open stanza) pairs ≡ true
opens_to_all stanza pairs all = list_all-from_AllPass (may_open stanza) pairs (λ k d lt. opens_to stanza _ (all k d lt))
