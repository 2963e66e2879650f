-- What the contracts of this crate's private functions alone speak of. No public contract cites it, so no caller has to
-- believe it.
use Rattle.std.specs.Prelude.{◌≡◌, ◌<◌, Bool, true, false, is_some, ℕ, List, [], ◌∷◌, Some, Ok}
use Rattle.std.specs.Option.{option_map_or}
use Rattle.fk_base.specs.FirstFailed.{first_failed}
use Rattle.fk_base.specs.declared.keys.Keys.{Keys}
use Rattle.fk_codec.specs.declared.fault.DecodeFault.{DecodeFault}
use Rattle.fk_codec.specs.declared.fault.DecodeFault.TheVariants.{KindOut}
use Rattle.fk_fields.specs.declared.fields.Fields.{Fields}
use Rattle.fk_packet.specs.Opens.{blocks_under, is_authentic, opened_under}
use Rattle.fk_packet.specs.Pick.{blocks_under_each, fits}
use Rattle.fk_packet.specs.declared.fault.PacketFault.{PacketFault}
use Rattle.fk_packet.specs.declared.fault.PacketFault.TheVariants as fault
use Rattle.fk_access.specs.declared.stanza.Stanza.{Stanza}
use Rattle.fk_admit.specs.Admit.{served_blocks}
use Rattle.fk_admit.specs.Arrival.{Arrival}
use Rattle.fk_admit.specs.Conditions.{keys_at, picked_by, served_tests}
use Rattle.fk_admit.specs.KeyConditions.{is_plaintext, is_served_type, key_refusal, ring_refusal}
use Rattle.fk_admit.specs.declared.arriving.Arriving.{Arriving}
use Rattle.fk_admit.specs.declared.opening.Opening.{Opening}
use Rattle.fk_admit.specs.declared.opening.Opening.TheVariants as opening
use Rattle.fk_admit.specs.declared.refusal.Refusal.{Refusal}
use Rattle.fk_admit.specs.declared.refusal.Refusal.TheVariants.{Cipher, Plain, Kind}
use Rattle.fk_admit.specs.declared.refusal.AdmitFault.{AdmitFault}
use Rattle.fk_admit.specs.declared.refusal.AdmitFault.TheVariants.{Refused, NoMemory}

-- what arrives, seen without its place in memory
abbrev pub arrival_of : Arriving → Arrival
arrival_of a = record { age = a.age; source = a.source; datagram = a.datagram.now; moment = a.moment }

-- what a plaintext that is none is to one pair of keys
abbrev pub plain_opening : DecodeFault → Opening
plain_opening (KindOut type) = opening.OtherType
plain_opening _ = opening.Failed Plain

-- what a datagram that is not opened is to one pair of keys; its shape is right
abbrev pub fault_opening : PacketFault → Opening
fault_opening fault.Cipher = opening.Failed Cipher
fault_opening (fault.Plain why) = plain_opening why
fault_opening fault.NoMemory = opening.NoMemory
fault_opening _ = opening.OtherHmac

-- what a datagram is to one pair of keys, by their conditions and the type
abbrev pub IsOpening : Keys → List ℕ → Opening → Type 0
IsOpening keys datagram (opening.Opened fields) = opened_under keys datagram ≡ Ok fields
IsOpening keys datagram opening.OtherType = (fits is_plaintext datagram keys ≡ true) × (is_served_type keys datagram ≡ false)
IsOpening keys datagram (opening.Failed why) =
    (is_authentic keys datagram ≡ true) × (fits is_plaintext datagram keys ≡ false) × (key_refusal datagram keys ≡ why)
IsOpening keys datagram opening.OtherHmac = is_authentic keys datagram ≡ false
IsOpening keys datagram opening.NoMemory = 0 < blocks_under keys datagram

-- these fields are those under the keys that a stanza picks
pub record ArePicked (stanza : Stanza) (arrival : Arrival) (fields : Fields) : Type 0 where
  pub keys : Keys
  pub picked : picked_by stanza arrival ≡ Some keys
  pub opened : opened_under keys arrival.datagram ≡ Ok fields

-- the tests of the keys of a stanza and of the type under those that are picked
abbrev pub ring_tests : Stanza → Arrival → List (Bool × Refusal)
ring_tests stanza arrival =
    (is_some (picked_by stanza arrival), ring_refusal (keys_at stanza arrival) arrival.datagram)
    ∷ option_map_or (λ keys. (is_served_type keys arrival.datagram, Kind) ∷ []) (picked_by stanza arrival) []

-- the keys of a stanza open no fields of a type that is served, or memory ran out behind a right HMAC
abbrev pub IsRingFault : Stanza → Arrival → AdmitFault → Type 0
IsRingFault stanza arrival (Refused why) = first_failed (ring_tests stanza arrival) ≡ Some why
IsRingFault stanza arrival NoMemory = 0 < blocks_under_each (keys_at stanza arrival) arrival.datagram

-- a stanza that serves the source fails this condition first, or memory ran out behind a right HMAC
abbrev pub IsServedFault : Stanza → Arrival → AdmitFault → Type 0
IsServedFault stanza arrival (Refused why) = first_failed (served_tests stanza arrival) ≡ Some why
IsServedFault stanza arrival NoMemory = 0 < served_blocks arrival stanza
