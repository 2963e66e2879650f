-- The tests of a stanza with one pair of keys are the ten conditions in a row.
use Rattle.std.proofs.Common.{◌≡◌, ℕ, Bool, true, false, ◌&&◌, List, [], ◌∷◌, ◌++◌, Option, Some, None, refl, ◌∙◌, ap, if◌then◌else◌}
use Rattle.std.specs.Prelude.{is_some, nat_le, unwrap_or}
use Rattle.std.specs.Option.{option_map_or}
use Rattle.fk_base.specs.FirstFailed.{first_failed}
use Rattle.fk_base.specs.declared.keys.Keys.{Keys}
use Rattle.fk_access.specs.Current.{current_keys}
use Rattle.fk_access.specs.declared.key_ring.TimedKeys.{TimedKeys}
use Rattle.fk_access.specs.declared.stanza.Stanza.{Stanza}
use Rattle.fk_packet.specs.Opens.{is_authentic}
use Rattle.fk_packet.specs.Pick.{plain_under}
use Rattle.fk_admit.specs.Arrival.{Arrival}
use Rattle.fk_admit.specs.Conditions.{is_open_at, keys_at, picked_tests, serves, tests, tests_under}
use Rattle.fk_admit.specs.KeyConditions.{is_plaintext, key_refusal, picked, ring_refusal}
use Rattle.fk_admit.specs.declared.refusal.Refusal.{Refusal}
use Rattle.fk_admit.specs.declared.refusal.Refusal.TheVariants.{Cipher, Expired, Mac, NoStanza, Plain}
use Rattle.fk_admit.proofs.PickedPairs.{current_one}

-- the conditions of keys whose HMAC and plaintext are these
abbrev tests_by : Bool → Option (List ℕ) → List (Bool × Refusal)
tests_by authentic plain = (authentic, Mac) ∷ (is_some plain, Cipher) ∷ (option_map_or is_plaintext plain false, Plain) ∷ []

-- what is picked of these keys alone
abbrev picked_as : Keys → Bool → Option Keys
picked_as keys fitting = if fitting then Some keys else None

abbrev refusal_as : Bool → Option (List ℕ) → Refusal
refusal_as authentic plain = option_map_or (λ (k : Bool). unwrap_or (first_failed (tests_by k plain)) Mac) (if authentic then Some authentic else None) Mac

plain_alone : (keys : Keys) (right : Bool) (behind : Keys → List (Bool × Refusal)) →
    first_failed ((is_some (picked_as keys right), unwrap_or (first_failed ((right, Plain) ∷ [])) Mac) ∷ option_map_or behind (picked_as keys right) [])
    ≡ first_failed ((right, Plain) ∷ behind keys)
plain_alone keys true behind = refl
plain_alone keys false behind = refl

alone : (keys : Keys) (authentic : Bool) (plain : Option (List ℕ)) (behind : Keys → List (Bool × Refusal)) →
    first_failed ((is_some (picked_as keys (authentic && option_map_or is_plaintext plain false)), refusal_as authentic plain)
    ∷ option_map_or behind (picked_as keys (authentic && option_map_or is_plaintext plain false)) [])
    ≡ first_failed (tests_by authentic plain ++ behind keys)
alone keys false plain behind = refl
alone keys true None behind = refl
alone keys true (Some text) behind = plain_alone keys (is_plaintext text) behind

-- the refusal under these keys alone
refusal_alone : (keys : Keys) (datagram : List ℕ) (authentic : Bool) → is_authentic keys datagram ≡ authentic →
    ring_refusal (keys ∷ []) datagram ≡ refusal_as authentic (plain_under keys datagram)
refusal_alone keys datagram true is =
    ap (λ (b : Bool). option_map_or (key_refusal datagram) (if b then Some keys else None) Mac) is
    ∙ ap (λ (b : Bool). unwrap_or (first_failed (tests_by b (plain_under keys datagram))) Mac) is
refusal_alone keys datagram false is = ap (λ (b : Bool). option_map_or (key_refusal datagram) (if b then Some keys else None) Mac) is

keys_alone : (keys : Keys) (stanza : Stanza) (arrival : Arrival) →
    first_failed ((is_some (picked (keys ∷ []) arrival.datagram), ring_refusal (keys ∷ []) arrival.datagram)
    ∷ option_map_or (picked_tests stanza arrival) (picked (keys ∷ []) arrival.datagram) [])
    ≡ first_failed (tests_by (is_authentic keys arrival.datagram) (plain_under keys arrival.datagram) ++ picked_tests stanza arrival keys)
keys_alone keys stanza arrival =
    ap (λ (r : Refusal). first_failed ((is_some (picked (keys ∷ []) arrival.datagram), r)
    ∷ option_map_or (picked_tests stanza arrival) (picked (keys ∷ []) arrival.datagram) [])) (refusal_alone keys arrival.datagram (is_authentic keys arrival.datagram) refl)
    ∙ alone keys (is_authentic keys arrival.datagram) (plain_under keys arrival.datagram) (picked_tests stanza arrival)

one_current : (timed : TimedKeys) (stanza : Stanza) (arrival : Arrival) → stanza.ring ≡ timed ∷ [] → timed.until ≡ None → keys_at stanza arrival ≡ timed.keys ∷ []
one_current timed stanza arrival ring until =
    ap (current_keys arrival.moment) ring
    ∙ current_one arrival.moment timed true (ap (λ (u : Option ℕ). option_map_or (λ last. nat_le arrival.moment last) u true) until)

pub one_pair : (stanza : Stanza) (arrival : Arrival) (timed : TimedKeys) → stanza.ring ≡ timed ∷ [] → timed.until ≡ None →
    first_failed (tests stanza arrival) ≡ first_failed (tests_under timed.keys stanza arrival)
one_pair stanza arrival timed ring until =
    let inner : List Keys → Option Refusal = λ ks. first_failed ((is_some (picked ks arrival.datagram), ring_refusal ks arrival.datagram)
    ∷ option_map_or (picked_tests stanza arrival) (picked ks arrival.datagram) []) in
    let outer : Option Refusal → Option Refusal = λ r.
    if serves stanza.sources arrival.source then (if is_open_at stanza.expire arrival.moment then r else Some Expired) else Some NoStanza in
    ap outer (ap inner (one_current timed stanza arrival ring until) ∙ keys_alone timed.keys stanza arrival)
