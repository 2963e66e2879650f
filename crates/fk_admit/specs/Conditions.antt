-- The ten conditions under which a stanza grants, in the order of their tests, each with its refusal: 3 to 5 pick one of its
-- pairs of keys, and 6 to 10 are asked under that pair.
use Rattle.std.specs.Prelude.{ℕ, Bool, true, false, not, ◌&&◌, ◌==◌, nat_le, is_some, List, [], ◌∷◌, ◌++◌, Option}
use Rattle.std.specs.Int.{abs_diff}
use Rattle.std.specs.List.{list_all, list_any}
use Rattle.std.specs.Option.{option_map_or}
use Rattle.std.specs.Str.{bytes_eq}
use Rattle.fk_base.specs.Net.{covers}
use Rattle.fk_base.specs.declared.address.Ip4.{Ip4}
use Rattle.fk_base.specs.declared.pair.Pair.{Pair}
use Rattle.fk_base.specs.declared.pair.Proto.{Proto}
use Rattle.fk_base.specs.declared.pair.Proto.TheVariants.{Tcp, Udp}
use Rattle.fk_base.specs.declared.keys.Keys.{Keys}
use Rattle.fk_fields.specs.declared.fields.Fields.{Fields}
use Rattle.fk_fields.specs.Fields.{asked_ip, asked_pairs}
use Rattle.fk_access.specs.declared.sources.Sources.{Sources}
use Rattle.fk_access.specs.declared.sources.Sources.TheVariants.{Any, Nets}
use Rattle.fk_access.specs.declared.stanza.Stanza.{Stanza}
use Rattle.fk_admit.specs.Arrival.{Arrival}
use Rattle.fk_access.specs.Current.{current_keys}
use Rattle.fk_admit.specs.KeyConditions.{fields_under, is_served_type, key_tests, picked, ring_refusal}
use Rattle.fk_admit.specs.declared.refusal.Refusal.{Refusal}
use Rattle.fk_admit.specs.declared.refusal.Refusal.TheVariants.{NoStanza, Expired, Kind, Age, User, Source, Port}

-- 1: the source is one of the stanza's
abbrev pub serves : Sources → Ip4 → Bool
serves Any source = true
serves (Nets nets) source = list_any (λ net. covers net source) nets

-- 2: the moment is at most the stanza's last one, where it has one
abbrev pub is_open_at : Option ℕ → ℕ → Bool
is_open_at last moment = option_map_or (λ l. nat_le moment l) last true

-- 7: moment and stamp differ by at most the age, whichever is the later
abbrev pub is_young : Arrival → Fields → Bool
is_young arrival fields = nat_le (abs_diff arrival.moment fields.stamp) arrival.age

-- 8: the user is the required one, where one is
abbrev pub is_user_of : Stanza → Fields → Bool
is_user_of stanza fields = option_map_or (λ user. bytes_eq user fields.user) stanza.user true

-- 9: the packet names an address, where it has to
abbrev pub names_address : Stanza → Fields → Bool
names_address stanza fields = not (stanza.need_source && (asked_ip fields.ask).0 == 0)

abbrev pub is_same_proto : Proto → Proto → Bool
is_same_proto Tcp Tcp = true
is_same_proto Udp Udp = true
is_same_proto _ _ = false

-- the pair stands in the list
abbrev pub is_in : List Pair → Pair → Bool
is_in pairs pair = list_any (λ p. is_same_proto p.proto pair.proto && p.port == pair.port) pairs

-- a pair that may be asked for: it is permitted, where the stanza says what is, and not barred
abbrev pub may_open : Stanza → Pair → Bool
may_open stanza pair =
    option_map_or (λ pairs. is_in pairs pair) stanza.allowed true && not (option_map_or (λ pairs. is_in pairs pair) stanza.barred false)

-- 10: each pair may be asked for
abbrev pub may_open_all : Stanza → Fields → Bool
may_open_all stanza fields = list_all (may_open stanza) (asked_pairs fields.ask)

-- the conditions on the fields, 7 to 10
abbrev pub field_tests : Stanza → Arrival → Fields → List (Bool × Refusal)
field_tests stanza arrival fields =
    (is_young arrival fields, Age) ∷ (is_user_of stanza fields, User) ∷ (names_address stanza fields, Source)
    ∷ (may_open_all stanza fields, Port) ∷ []

-- the conditions behind those of the keys that are picked: the type, which is 6, and those on the fields
abbrev pub picked_tests : Stanza → Arrival → Keys → List (Bool × Refusal)
picked_tests stanza arrival keys =
    (is_served_type keys arrival.datagram, Kind)
    ∷ option_map_or (field_tests stanza arrival) (fields_under keys arrival.datagram) []

-- the pairs of keys that a stanza has at the moment
abbrev pub keys_at : Stanza → Arrival → List Keys
keys_at stanza arrival = current_keys arrival.moment stanza.ring

-- the keys of a stanza that are picked: the first of those in use under which 3 to 5 hold
abbrev pub picked_by : Stanza → Arrival → Option Keys
picked_by stanza arrival = picked (keys_at stanza arrival) arrival.datagram

-- the conditions behind the first: that the stanza is not over, that keys are picked, and 6 to 10 under those keys alone
abbrev pub served_tests : Stanza → Arrival → List (Bool × Refusal)
served_tests stanza arrival =
    (is_open_at stanza.expire arrival.moment, Expired)
    ∷ (is_some (picked_by stanza arrival), ring_refusal (keys_at stanza arrival) arrival.datagram)
    ∷ option_map_or (picked_tests stanza arrival) (picked_by stanza arrival) []

-- all of them
abbrev pub tests : Stanza → Arrival → List (Bool × Refusal)
tests stanza arrival = (serves stanza.sources arrival.source, NoStanza) ∷ served_tests stanza arrival

-- the ten conditions in a row, where there is one pair of keys: by `one_pair_is_ten_conditions` the tests of such a stanza are these
abbrev pub tests_under : Keys → Stanza → Arrival → List (Bool × Refusal)
tests_under keys stanza arrival =
    (serves stanza.sources arrival.source, NoStanza) ∷ (is_open_at stanza.expire arrival.moment, Expired)
    ∷ (key_tests keys arrival.datagram ++ picked_tests stanza arrival keys)
