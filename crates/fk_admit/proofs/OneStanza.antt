-- What one stanza answers, by what its picked keys open.
use Rattle.std.proofs.Common.{◌≡◌, ◌≢◌, ◌⊎◌, ℕ, ◌+◌, ◌<◌, ◌≤◌, Bool, true, false, [], ◌∷◌, Option, Some, None, Result, Ok, Err, refl, sym, ◌∙◌, ap, subst, inl, inr, ⊎_elim, arith, if◌then◌else◌}
use Rattle.std.specs.Prelude.{is_some}
use Rattle.std.specs.Option.{option_and_then, option_map, option_map_or}
use Rattle.std.proofs.lemmas.Bool.{cases_Bool}
use Rattle.fk_base.specs.FirstFailed.{first_failed}
use Rattle.fk_base.specs.declared.keys.Keys.{Keys}
use Rattle.fk_fields.specs.declared.fields.Fields.{Fields}
use Rattle.fk_access.specs.declared.stanza.Stanza.{Stanza}
use Rattle.fk_packet.specs.declared.fault.PacketFault.{PacketFault}
use Rattle.fk_packet.specs.declared.fault.PacketFault.TheVariants as fault
use Rattle.fk_packet.specs.Pick.{blocks_under_each}
use Rattle.fk_admit.specs.declared.refusal.AdmitFault.{AdmitFault}
use Rattle.fk_admit.specs.declared.refusal.AdmitFault.TheVariants.{Refused, NoMemory}
use Rattle.fk_admit.specs.declared.refusal.Refusal.{Refusal}
use Rattle.fk_admit.specs.declared.refusal.Refusal.TheVariants.{Expired, Kind}
use Rattle.fk_admit.specs.Admit.{fields_by, grant_of}
use Rattle.fk_admit.specs.Arrival.{Arrival}
use Rattle.fk_admit.specs.Conditions.{field_tests, is_open_at, keys_at, picked_by, picked_tests, served_tests}
use Rattle.fk_admit.specs.KeyConditions.{fields_under, is_served_type, ring_refusal}
use Rattle.fk_admit.specs.Private.{ArePicked, IsRingFault, IsServedFault}
use Rattle.fk_admit.proofs.KeyTests.{opens_fields}

-- the tests behind the last moment of a stanza, by the keys that are picked
abbrev behind : Stanza → Arrival → Option Keys → Option Refusal
behind stanza arrival found = first_failed (
    (is_some found, ring_refusal (keys_at stanza arrival) arrival.datagram) ∷ option_map_or (picked_tests stanza arrival) found []
    )

served_open : (stanza : Stanza) (arrival : Arrival) → is_open_at stanza.expire arrival.moment ≡ true →
    first_failed (served_tests stanza arrival) ≡ behind stanza arrival (picked_by stanza arrival)
served_open stanza arrival open_at = ap (λ (b : Bool). if b then behind stanza arrival (picked_by stanza arrival) else Some Expired) open_at

type_fails : (served : Bool) (rest : Option Refusal) (why : Refusal) → (if served then None else Some Kind) ≡ Some why → (if served then rest else Some Kind) ≡ Some why
type_fails true rest why is = cc
type_fails false rest why is = is

ring_fails : (stanza : Stanza) (arrival : Arrival) (found : Option Keys) (why : Refusal) →
    first_failed ((is_some found, ring_refusal (keys_at stanza arrival) arrival.datagram)
    ∷ option_map_or (λ keys. (is_served_type keys arrival.datagram, Kind) ∷ []) found []) ≡ Some why → behind stanza arrival found ≡ Some why
ring_fails stanza arrival None why is = is
ring_fails stanza arrival (Some keys) why is =
    type_fails (is_served_type keys arrival.datagram) (first_failed (option_map_or (field_tests stanza arrival) (fields_under keys arrival.datagram) [])) why is

pub served_fault : (stanza : Stanza) (arrival : Arrival) (answer : AdmitFault) → is_open_at stanza.expire arrival.moment ≡ true →
    IsRingFault stanza arrival answer → IsServedFault stanza arrival answer
served_fault stanza arrival (Refused why) open_at is = served_open stanza arrival open_at ∙ ring_fails stanza arrival (picked_by stanza arrival) why is
served_fault stanza arrival NoMemory open_at some =
    subst (λ (b : Bool). 0 < (if b then blocks_under_each (keys_at stanza arrival) arrival.datagram else 0)) (sym open_at) some

pub served_fields : (stanza : Stanza) (arrival : Arrival) (fields : Fields) → is_open_at stanza.expire arrival.moment ≡ true →
    ArePicked stanza arrival fields → first_failed (served_tests stanza arrival) ≡ first_failed (field_tests stanza arrival fields)
served_fields stanza arrival fields open_at found =
    let opens = opens_fields found.keys arrival.datagram fields found.opened in
    served_open stanza arrival open_at
    ∙ ap (behind stanza arrival) found.picked
    ∙ ap (λ (b : Bool). if b then first_failed (option_map_or (field_tests stanza arrival) (fields_under found.keys arrival.datagram) []) else Some Kind) opens.served
    ∙ ap (λ (o : Option Fields). first_failed (option_map_or (field_tests stanza arrival) o [])) opens.fields_are

pub served_grant : (number : ℕ) (stanza : Stanza) (arrival : Arrival) (fields : Fields) → ArePicked stanza arrival fields →
    option_map (grant_of number stanza arrival) (fields_by stanza arrival) ≡ Some (grant_of number stanza arrival fields)
served_grant number stanza arrival fields found =
    ap (λ (o : Option Keys). option_map (grant_of number stanza arrival) (option_and_then (λ keys. fields_under keys arrival.datagram) o)) found.picked
    ∙ ap (option_map (grant_of number stanza arrival)) (opens_fields found.keys arrival.datagram fields found.opened).fields_are

-- the steps

pub record AreWithin (old new blocks : ℕ) : Type 0 where
  pub least : old ≤ new
  pub most : new ≤ old + blocks

is_memory : PacketFault → Bool
is_memory fault.NoMemory = true
is_memory _ = false

is_want : Result Fields PacketFault → Bool
is_want (Ok fields) = false
is_want (Err f) = is_memory f

other_answer : (read : Result Fields PacketFault) → is_want read ≡ false → read ≢ Err fault.NoMemory
unfolding is_want is_memory
other_answer read other is = absurd (let e : true ≡ false = sym (ap is_want is) ∙ other in cc)

want_answer : (read : Result Fields PacketFault) → is_want read ≡ true → read ≡ Err fault.NoMemory
unfolding is_want is_memory
want_answer (Ok fields) want = cc
want_answer (Err fault.NoMemory) want = refl
want_answer (Err fault.Size) want = cc
want_answer (Err (fault.Alphabet place)) want = cc
want_answer (Err fault.Prefix) want = cc
want_answer (Err fault.Mac) want = cc
want_answer (Err fault.Cipher) want = cc
want_answer (Err (fault.Plain w)) want = cc

pub steps_within : (read : Result Fields PacketFault) (old new blocks : ℕ) → (read ≢ Err fault.NoMemory → new ≡ old + blocks) →
    (read ≡ Err fault.NoMemory → (new ≡ old) ⊎ (new ≡ old + blocks)) → AreWithin old new blocks
steps_within read old new blocks steps memory = elim (cases_Bool (is_want read)) [
  | inl want ↦ ⊎_elim (λ same. record { least = omega (arith, same); most = omega (arith, same) })
      (λ more. record { least = omega (arith, more); most = omega (arith, more) }) (memory (want_answer read want))
  | inr other ↦ let is = steps (other_answer read other) in record { least = omega arith; most = omega arith }
]
