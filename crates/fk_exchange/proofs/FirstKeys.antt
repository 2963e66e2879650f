-- The pair of keys that a stanza picks, by its place.
use Rattle.std.proofs.Common.{◌≡◌, ℕ, zero, suc, ◌<◌, ◌≤◌, Bool, true, false, List, [], ◌∷◌, map, Option, Some, None, refl, sym, ◌∙◌, ap, subst, inl, inr, arith, if◌then◌else◌}
use Rattle.std.specs.Prelude.{IfSome, find, nat_le, slice_get}
use Rattle.std.specs.List.{filter}
use Rattle.std.specs.Option.{option_map_or}
use Rattle.std.proofs.lemmas.Bool.{cases_Bool, false_from_ne_true, le-leb, leb-true}
use Rattle.fk_base.specs.declared.keys.Keys.{Keys}
use Rattle.fk_packet.specs.Pick.{fits}
use Rattle.fk_access.specs.Current.{current_keys, is_current}
use Rattle.fk_access.specs.declared.key_ring.TimedKeys.{TimedKeys}
use Rattle.fk_admit.specs.Arrival.{Arrival}
use Rattle.fk_admit.specs.KeyConditions.{is_plaintext, picked}
use Rattle.fk_exchange.specs.Permits.{HasFirst, IsInUse}

current_until : (last : Option ℕ) (moment : ℕ) → IfSome last (λ l. moment ≤ l) → option_map_or (λ l. nat_le moment l) last true ≡ true
current_until None moment is = refl
current_until (Some l) moment is = le-leb moment l is

in_use_until : (last : Option ℕ) (moment : ℕ) → option_map_or (λ l. nat_le moment l) last true ≡ true → IfSome last (λ l. moment ≤ l)
in_use_until None moment is = tt
in_use_until (Some l) moment is = leb-true moment l is

is_in_use : (moment : ℕ) (timed : TimedKeys) → is_current moment timed ≡ true → IsInUse moment timed
is_in_use moment timed is = in_use_until timed.until moment is

-- the keys in use, from the front

front_over : (moment : ℕ) (timed : TimedKeys) (ring : List TimedKeys) → is_current moment timed ≡ false →
    current_keys moment (timed ∷ ring) ≡ current_keys moment ring
front_over moment timed ring is = rw is refl

front_used : (moment : ℕ) (timed : TimedKeys) (ring : List TimedKeys) → is_current moment timed ≡ true →
    current_keys moment (timed ∷ ring) ≡ timed.keys ∷ current_keys moment ring
front_used moment timed ring is = rw is refl

pick_front : (keys : Keys) (rest : List Keys) (datagram : List ℕ) (b : Bool) → fits is_plaintext datagram keys ≡ b →
    picked (keys ∷ rest) datagram ≡ (if b then Some keys else picked rest datagram)
pick_front keys rest datagram b is = ap (λ (e : Bool). if e then Some keys else picked rest datagram) is

-- one pair in front that is not picked
passed_over : (timed : TimedKeys) (ring : List TimedKeys) (arrival : Arrival) →
    (IsInUse arrival.moment timed → ¬ (fits is_plaintext arrival.datagram timed.keys ≡ true)) →
    picked (current_keys arrival.moment (timed ∷ ring)) arrival.datagram ≡ picked (current_keys arrival.moment ring) arrival.datagram
passed_over timed ring arrival other = elim (cases_Bool (is_current arrival.moment timed)) [
  | inl used ↦ ap (λ (k : List Keys). picked k arrival.datagram) (front_used arrival.moment timed ring used)
      ∙ pick_front timed.keys (current_keys arrival.moment ring) arrival.datagram false
      (false_from_ne_true (fits is_plaintext arrival.datagram timed.keys) (other (is_in_use arrival.moment timed used)))
  | inr over ↦ ap (λ (k : List Keys). picked k arrival.datagram) (front_over arrival.moment timed ring over)
]

pick_at : (ring : List TimedKeys) (place : ℕ) (timed : TimedKeys) (arrival : Arrival) → slice_get ring place ≡ Some timed → IsInUse arrival.moment timed →
    ((earlier : ℕ) (other : TimedKeys) → earlier < place → slice_get ring earlier ≡ Some other → IsInUse arrival.moment other →
    ¬ (fits is_plaintext arrival.datagram other.keys ≡ true)) → fits is_plaintext arrival.datagram timed.keys ≡ true →
    picked (current_keys arrival.moment ring) arrival.datagram ≡ Some timed.keys
pick_at [] place timed arrival here used first fitting = cc
pick_at (t ∷ ring) zero timed arrival here used first fitting =
    let same : t ≡ timed = cc in
    subst (λ (x : TimedKeys). picked (current_keys arrival.moment (x ∷ ring)) arrival.datagram ≡ Some timed.keys) (sym same)
    (ap (λ (k : List Keys). picked k arrival.datagram) (front_used arrival.moment timed ring (current_until timed.until arrival.moment used))
    ∙ pick_front timed.keys (current_keys arrival.moment ring) arrival.datagram true fitting)
pick_at (t ∷ ring) (suc place) timed arrival here used first fitting =
    passed_over t ring arrival (first 0 t (omega arith) refl)
    ∙ pick_at ring place timed arrival here used (λ earlier other lt is. first (suc earlier) other (omega arith) is) fitting

-- the first pair with its keys is picked
pub first_is_picked : (ring : List TimedKeys) (keys : Keys) (arrival : Arrival) → fits is_plaintext arrival.datagram keys ≡ true →
    HasFirst ring keys arrival → picked (current_keys arrival.moment ring) arrival.datagram ≡ Some keys
first_is_picked ring keys arrival fitting first =
    pick_at ring first.place first.timed arrival first.here first.in_use first.no_earlier
    (ap (fits is_plaintext arrival.datagram) first.keys_are ∙ fitting)
    ∙ ap (λ (k : Keys). Some k) first.keys_are

-- and keys that are picked have a first pair

found_here : (timed : TimedKeys) (ring : List TimedKeys) (keys : Keys) (arrival : Arrival) → IsInUse arrival.moment timed → timed.keys ≡ keys →
    HasFirst (timed ∷ ring) keys arrival
found_here timed ring keys arrival used same = record {
  place = 0;
  timed = timed;
  here = refl;
  keys_are = same;
  in_use = used;
  no_earlier = λ earlier other lt is. absurd (omega arith);
}

earlier_other : (t : TimedKeys) (ring : List TimedKeys) (keys : Keys) (arrival : Arrival) →
    (IsInUse arrival.moment t → ¬ (fits is_plaintext arrival.datagram t.keys ≡ true)) → (rest : HasFirst ring keys arrival) →
    (earlier : ℕ) (other : TimedKeys) → earlier < suc rest.place → slice_get (t ∷ ring) earlier ≡ Some other → IsInUse arrival.moment other →
    ¬ (fits is_plaintext arrival.datagram other.keys ≡ true)
earlier_other t ring keys arrival none rest zero other lt is =
    let same : t ≡ other = cc in
    subst (λ (x : TimedKeys). IsInUse arrival.moment x → ¬ (fits is_plaintext arrival.datagram x.keys ≡ true)) same none
earlier_other t ring keys arrival none rest (suc earlier) other lt is = rest.no_earlier earlier other (omega arith) is

found_later : (t : TimedKeys) (ring : List TimedKeys) (keys : Keys) (arrival : Arrival) →
    (IsInUse arrival.moment t → ¬ (fits is_plaintext arrival.datagram t.keys ≡ true)) → HasFirst ring keys arrival → HasFirst (t ∷ ring) keys arrival
found_later t ring keys arrival none rest = record {
  place = suc rest.place;
  timed = rest.timed;
  here = rest.here;
  keys_are = rest.keys_are;
  in_use = rest.in_use;
  no_earlier = earlier_other t ring keys arrival none rest;
}

one_more : (t : TimedKeys) (ring : List TimedKeys) (keys : Keys) (arrival : Arrival) (used fitting : Bool) → is_current arrival.moment t ≡ used →
    fits is_plaintext arrival.datagram t.keys ≡ fitting → picked (current_keys arrival.moment (t ∷ ring)) arrival.datagram ≡ Some keys →
    (picked (current_keys arrival.moment ring) arrival.datagram ≡ Some keys → HasFirst ring keys arrival) → HasFirst (t ∷ ring) keys arrival
one_more t ring keys arrival true true used fitting is rest =
    let this = sym (ap (λ (k : List Keys). picked k arrival.datagram) (front_used arrival.moment t ring used)
    ∙ pick_front t.keys (current_keys arrival.moment ring) arrival.datagram true fitting) ∙ is in
    let same : t.keys ≡ keys = cc in
    found_here t ring keys arrival (is_in_use arrival.moment t used) same
one_more t ring keys arrival true false used fitting is rest =
    let none : IsInUse arrival.moment t → ¬ (fits is_plaintext arrival.datagram t.keys ≡ true) =
    λ in_use yes_fits. let wrong : true ≡ false = sym yes_fits ∙ fitting in cc in
    found_later t ring keys arrival none (rest (sym (passed_over t ring arrival none) ∙ is))
one_more t ring keys arrival false fitting_ used fitting is rest =
    let none : IsInUse arrival.moment t → ¬ (fits is_plaintext arrival.datagram t.keys ≡ true) =
    λ in_use yes_fits. let wrong : true ≡ false = sym (current_until t.until arrival.moment in_use) ∙ used in cc in
    found_later t ring keys arrival none (rest (sym (passed_over t ring arrival none) ∙ is))

pub picked_is_first : (ring : List TimedKeys) (keys : Keys) (arrival : Arrival) → picked (current_keys arrival.moment ring) arrival.datagram ≡ Some keys →
    HasFirst ring keys arrival
picked_is_first [] keys arrival is = cc
picked_is_first (t ∷ ring) keys arrival is =
    one_more t ring keys arrival (is_current arrival.moment t) (fits is_plaintext arrival.datagram t.keys) refl refl is (picked_is_first ring keys arrival)
