-- What is known while the pairs of keys of a stanza are tried one by one.
use Rattle.std.proofs.Common.{◌≡◌, ℕ, ◌+◌, ◌≤◌, Bool, true, false, List, [], ◌∷◌, ◌++◌, length, map, take, drop, Option, Some, None, Ok, refl, sym, ◌∙◌, ap, arith, if◌then◌else◌, add-one}
use Rattle.std.specs.Prelude.{find, is_some, slice_get, unwrap_or}
use Rattle.std.specs.List.{filter}
use Rattle.std.specs.Option.{option_map, option_map_or, option_or}
use Rattle.std.proofs.lemmas.List.{append-nil, map-append, take-append-drop}
use Rattle.std.proofs.lemmas.List.Elements.{filter-append}
use Rattle.std.proofs.lemmas.List.Folds.{find-append}
use Rattle.std.proofs.lemmas.List.Sums.{sum_by-append}
use Rattle.fk_base.specs.FirstFailed.{first_failed}
use Rattle.fk_base.specs.declared.keys.Keys.{Keys}
use Rattle.fk_fields.specs.declared.fields.Fields.{Fields}
use Rattle.fk_access.specs.Current.{current_keys, is_current}
use Rattle.fk_access.specs.declared.key_ring.TimedKeys.{TimedKeys}
use Rattle.fk_access.specs.declared.stanza.Stanza.{Stanza}
use Rattle.fk_packet.specs.Opens.{blocks_under, is_authentic, opened_under}
use Rattle.fk_packet.specs.Pick.{blocks_under_each, first_authentic, fits}
use Rattle.fk_admit.specs.Arrival.{Arrival}
use Rattle.fk_admit.specs.Conditions.{keys_at, picked_by}
use Rattle.fk_admit.specs.KeyConditions.{is_plaintext, is_served_type, key_refusal, picked, ring_refusal}
use Rattle.fk_admit.specs.Private.{ArePicked, ring_tests}
use Rattle.fk_admit.specs.declared.refusal.Refusal.{Refusal}
use Rattle.fk_admit.specs.declared.refusal.Refusal.TheVariants.{Kind, Mac}
use Rattle.fk_admit.proofs.AllStanzas.{take-item, take-whole}
use Rattle.fk_admit.proofs.KeyTests.{opens_fields}

-- the keys in use

current-append : (moment : ℕ) (xs ys : List TimedKeys) → current_keys moment (xs ++ ys) ≡ current_keys moment xs ++ current_keys moment ys
current-append moment xs ys =
    ap (map (λ (t : TimedKeys). t.keys)) (filter-append (is_current moment) xs ys)
    ∙ map-append (λ (t : TimedKeys). t.keys) (filter (is_current moment) xs) (filter (is_current moment) ys)

pub current_one : (moment : ℕ) (timed : TimedKeys) (b : Bool) → is_current moment timed ≡ b →
    current_keys moment (timed ∷ []) ≡ (if b then timed.keys ∷ [] else [])
current_one moment timed true is = rw is refl
current_one moment timed false is = rw is refl

-- those of the pairs up to a place
abbrev pub front : Stanza → Arrival → ℕ → List Keys
front stanza arrival at = current_keys arrival.moment (take at stanza.ring)

next_front : (stanza : Stanza) (arrival : Arrival) (at : ℕ) (timed : TimedKeys) (b : Bool) → slice_get stanza.ring at ≡ Some timed →
    is_current arrival.moment timed ≡ b → front stanza arrival (at + 1) ≡ front stanza arrival at ++ (if b then timed.keys ∷ [] else [])
next_front stanza arrival at timed b here is =
    ap (λ (n : ℕ). front stanza arrival n) (add-one at)
    ∙ ap (current_keys arrival.moment) (take-item stanza.ring at timed here)
    ∙ current-append arrival.moment (take at stanza.ring) (timed ∷ [])
    ∙ ap (λ (k : List Keys). front stanza arrival at ++ k) (current_one arrival.moment timed b is)

split_at : (stanza : Stanza) (arrival : Arrival) (n : ℕ) → keys_at stanza arrival ≡ front stanza arrival n ++ current_keys arrival.moment (drop n stanza.ring)
split_at stanza arrival n =
    ap (current_keys arrival.moment) (sym (take-append-drop n stanza.ring))
    ∙ current-append arrival.moment (take n stanza.ring) (drop n stanza.ring)

-- one more pair

find_one : (p : Keys → Bool) (k : Keys) (b : Bool) → p k ≡ b → find p (k ∷ []) ≡ (if b then Some k else None)
find_one p k b is = ap (λ (e : Bool). if e then Some k else None) is

find_more : (p : Keys → Bool) (ks : List Keys) (k : Keys) (b : Bool) → p k ≡ b → find p (ks ++ k ∷ []) ≡ option_or (find p ks) (if b then Some k else None)
find_more p ks k b is = find-append p ks (k ∷ []) ∙ ap (λ (o : Option Keys). option_or (find p ks) o) (find_one p k b is)

or_none : (a : Option Keys) → option_or a None ≡ a
or_none None = refl
or_none (Some x) = refl

map_or : (f : Keys → Refusal) (a b : Option Keys) → option_map f (option_or a b) ≡ option_or (option_map f a) (option_map f b)
map_or f None b = refl
map_or f (Some x) b = refl

unwrapped : (f : Keys → Refusal) (found : Option Keys) → unwrap_or (option_map f found) Mac ≡ option_map_or f found Mac
unwrapped f None = refl
unwrapped f (Some x) = refl

-- so many pairs were tried, and none of them is picked
pub record IsPicking (stanza : Stanza) (arrival : Arrival) (at : ℕ) (first : Option Refusal) : Type 0 where
  pub none : picked (front stanza arrival at) arrival.datagram ≡ None
  pub first_is : first ≡ option_map (key_refusal arrival.datagram) (first_authentic (front stanza arrival at) arrival.datagram)

pub picking_begins : (stanza : Stanza) (arrival : Arrival) → IsPicking stanza arrival 0 None
picking_begins stanza arrival = record { none = refl; first_is = refl }

pub picking_passes : (stanza : Stanza) (arrival : Arrival) (at : ℕ) (timed : TimedKeys) (first : Option Refusal) → slice_get stanza.ring at ≡ Some timed →
    is_current arrival.moment timed ≡ false → IsPicking stanza arrival at first → IsPicking stanza arrival (at + 1) first
picking_passes stanza arrival at timed first here over before =
    let same = next_front stanza arrival at timed false here over ∙ append-nil (front stanza arrival at) in
    record {
      none = ap (λ (k : List Keys). picked k arrival.datagram) same ∙ before.none;
      first_is = before.first_is ∙ sym (ap (λ (k : List Keys). option_map (key_refusal arrival.datagram) (first_authentic k arrival.datagram)) same);
    }

none_picked : (stanza : Stanza) (arrival : Arrival) (at : ℕ) (timed : TimedKeys) → slice_get stanza.ring at ≡ Some timed →
    is_current arrival.moment timed ≡ true → fits is_plaintext arrival.datagram timed.keys ≡ false → picked (front stanza arrival at) arrival.datagram ≡ None →
    picked (front stanza arrival (at + 1)) arrival.datagram ≡ None
none_picked stanza arrival at timed here current other none =
    ap (λ (k : List Keys). picked k arrival.datagram) (next_front stanza arrival at timed true here current)
    ∙ find_more (fits is_plaintext arrival.datagram) (front stanza arrival at) timed.keys false other
    ∙ ap (λ (o : Option Keys). option_or o None) none

next_first : (stanza : Stanza) (arrival : Arrival) (at : ℕ) (timed : TimedKeys) (b : Bool) → slice_get stanza.ring at ≡ Some timed →
    is_current arrival.moment timed ≡ true → is_authentic timed.keys arrival.datagram ≡ b →
    first_authentic (front stanza arrival (at + 1)) arrival.datagram
    ≡ option_or (first_authentic (front stanza arrival at) arrival.datagram) (if b then Some timed.keys else None)
next_first stanza arrival at timed b here current is =
    ap (λ (k : List Keys). first_authentic k arrival.datagram) (next_front stanza arrival at timed true here current)
    ∙ find_more (λ (k : Keys). is_authentic k arrival.datagram) (front stanza arrival at) timed.keys b is

other_fits : (keys : Keys) (datagram : List ℕ) → is_authentic keys datagram ≡ false → fits is_plaintext datagram keys ≡ false
other_fits keys datagram other = rw other refl

pub picking_goes_on : (stanza : Stanza) (arrival : Arrival) (at : ℕ) (timed : TimedKeys) (first : Option Refusal) → slice_get stanza.ring at ≡ Some timed →
    is_current arrival.moment timed ≡ true → is_authentic timed.keys arrival.datagram ≡ false → IsPicking stanza arrival at first →
    IsPicking stanza arrival (at + 1) first
picking_goes_on stanza arrival at timed first here current other before = record {
  none = none_picked stanza arrival at timed here current (other_fits timed.keys arrival.datagram other) before.none;
  first_is = before.first_is
      ∙ sym (ap (option_map (key_refusal arrival.datagram)) (next_first stanza arrival at timed false here current other
      ∙ or_none (first_authentic (front stanza arrival at) arrival.datagram)));
}

pub picking_fails : (stanza : Stanza) (arrival : Arrival) (at : ℕ) (timed : TimedKeys) (first next : Option Refusal) (why : Refusal) →
    slice_get stanza.ring at ≡ Some timed → is_current arrival.moment timed ≡ true →
    (is_authentic timed.keys arrival.datagram ≡ true) × (fits is_plaintext arrival.datagram timed.keys ≡ false) × (key_refusal arrival.datagram timed.keys ≡ why) →
    next ≡ option_or first (Some why) → IsPicking stanza arrival at first → IsPicking stanza arrival (at + 1) next
picking_fails stanza arrival at timed first next why here current failed next_is before =
    let f = key_refusal arrival.datagram in
    let earlier = first_authentic (front stanza arrival at) arrival.datagram in
    record {
      none = none_picked stanza arrival at timed here current failed.1 before.none;
      first_is = next_is ∙ ap (λ (o : Option Refusal). option_or o (Some why)) before.first_is
          ∙ ap (λ (r : Refusal). option_or (option_map f earlier) (Some r)) (sym failed.2)
          ∙ sym (ap (option_map f) (next_first stanza arrival at timed true here current failed.0) ∙ map_or f earlier (Some timed.keys));
    }

-- a pair is picked

pub is_picked : (stanza : Stanza) (arrival : Arrival) (at : ℕ) (timed : TimedKeys) (first : Option Refusal) → slice_get stanza.ring at ≡ Some timed →
    is_current arrival.moment timed ≡ true → fits is_plaintext arrival.datagram timed.keys ≡ true → IsPicking stanza arrival at first →
    picked_by stanza arrival ≡ Some timed.keys
is_picked stanza arrival at timed first here current fitting before =
    let this : picked (front stanza arrival (at + 1)) arrival.datagram ≡ Some timed.keys =
    ap (λ (k : List Keys). picked k arrival.datagram) (next_front stanza arrival at timed true here current)
    ∙ find_more (fits is_plaintext arrival.datagram) (front stanza arrival at) timed.keys true fitting
    ∙ ap (λ (o : Option Keys). option_or o (Some timed.keys)) before.none in
    let rest = current_keys arrival.moment (drop (at + 1) stanza.ring) in
    ap (λ (k : List Keys). picked k arrival.datagram) (split_at stanza arrival (at + 1))
    ∙ find-append (fits is_plaintext arrival.datagram) (front stanza arrival (at + 1)) rest
    ∙ ap (λ (o : Option Keys). option_or o (picked rest arrival.datagram)) this

pub fields_are_picked : (stanza : Stanza) (arrival : Arrival) (at : ℕ) (timed : TimedKeys) (first : Option Refusal) (fields : Fields) →
    slice_get stanza.ring at ≡ Some timed → is_current arrival.moment timed ≡ true → opened_under timed.keys arrival.datagram ≡ Ok fields →
    IsPicking stanza arrival at first → ArePicked stanza arrival fields
fields_are_picked stanza arrival at timed first fields here current opened before = record {
  keys = timed.keys;
  picked = is_picked stanza arrival at timed first here current (opens_fields timed.keys arrival.datagram fields opened).fitting before;
  opened = opened;
}

pub other_type : (stanza : Stanza) (arrival : Arrival) (at : ℕ) (timed : TimedKeys) (first : Option Refusal) → slice_get stanza.ring at ≡ Some timed →
    is_current arrival.moment timed ≡ true → (fits is_plaintext arrival.datagram timed.keys ≡ true) × (is_served_type timed.keys arrival.datagram ≡ false) →
    IsPicking stanza arrival at first → first_failed (ring_tests stanza arrival) ≡ Some Kind
other_type stanza arrival at timed first here current is before =
    ap (λ (o : Option Keys). first_failed ((is_some o, ring_refusal (keys_at stanza arrival) arrival.datagram)
    ∷ option_map_or (λ keys. (is_served_type keys arrival.datagram, Kind) ∷ []) o [])) (is_picked stanza arrival at timed first here current is.0 before)
    ∙ ap (λ (b : Bool). if b then None else Some Kind) is.1

-- none is

pub picking_ends : (stanza : Stanza) (arrival : Arrival) (at : ℕ) (first : Option Refusal) → IsPicking stanza arrival at first → length stanza.ring ≤ at →
    first_failed (ring_tests stanza arrival) ≡ Some (unwrap_or first Mac)
picking_ends stanza arrival at first before all =
    let whole : front stanza arrival at ≡ keys_at stanza arrival = ap (current_keys arrival.moment) (take-whole stanza.ring at all) in
    let none : picked_by stanza arrival ≡ None = ap (λ (k : List Keys). picked k arrival.datagram) (sym whole) ∙ before.none in
    let why : unwrap_or first Mac ≡ ring_refusal (keys_at stanza arrival) arrival.datagram =
    ap (λ (o : Option Refusal). unwrap_or o Mac) before.first_is
    ∙ unwrapped (key_refusal arrival.datagram) (first_authentic (front stanza arrival at) arrival.datagram)
    ∙ ap (λ (k : List Keys). ring_refusal k arrival.datagram) whole in
    ap (λ (o : Option Keys). first_failed ((is_some o, ring_refusal (keys_at stanza arrival) arrival.datagram)
    ∷ option_map_or (λ keys. (is_served_type keys arrival.datagram, Kind) ∷ []) o [])) none
    ∙ ap (λ (r : Refusal). Some r) (sym why)

-- the blocks

pub blocks_next : (stanza : Stanza) (arrival : Arrival) (at : ℕ) (timed : TimedKeys) → slice_get stanza.ring at ≡ Some timed →
    is_current arrival.moment timed ≡ true →
    blocks_under_each (front stanza arrival (at + 1)) arrival.datagram
    ≡ blocks_under_each (front stanza arrival at) arrival.datagram + blocks_under timed.keys arrival.datagram
blocks_next stanza arrival at timed here current =
    ap (λ (k : List Keys). blocks_under_each k arrival.datagram) (next_front stanza arrival at timed true here current)
    ∙ sum_by-append (λ (k : Keys). blocks_under k arrival.datagram) (front stanza arrival at) (timed.keys ∷ [])
    ∙ omega arith

pub blocks_same : (stanza : Stanza) (arrival : Arrival) (at : ℕ) (timed : TimedKeys) → slice_get stanza.ring at ≡ Some timed →
    is_current arrival.moment timed ≡ false →
    blocks_under_each (front stanza arrival (at + 1)) arrival.datagram ≡ blocks_under_each (front stanza arrival at) arrival.datagram
blocks_same stanza arrival at timed here over =
    ap (λ (k : List Keys). blocks_under_each k arrival.datagram) (next_front stanza arrival at timed false here over ∙ append-nil (front stanza arrival at))

pub blocks_within : (stanza : Stanza) (arrival : Arrival) (n : ℕ) →
    blocks_under_each (front stanza arrival n) arrival.datagram ≤ blocks_under_each (keys_at stanza arrival) arrival.datagram
blocks_within stanza arrival n =
    let rest = current_keys arrival.moment (drop n stanza.ring) in
    let parts = sum_by-append (λ (k : Keys). blocks_under k arrival.datagram) (front stanza arrival n) rest in
    let whole = ap (λ (k : List Keys). blocks_under_each k arrival.datagram) (split_at stanza arrival n) in
    omega (arith, parts, whole)
