-- What opening a datagram under keys says of the conditions that the keys decide.
use Rattle.std.proofs.Common.{◌≡◌, ◌⊎◌, ℕ, ◌<◌, Bool, true, false, ◌&&◌, List, [], ◌∷◌, Option, Some, None, Result, Ok, Err, refl, sym, subst, inl, inr, if◌then◌else◌}
use Rattle.std.specs.Prelude.{is_ok, is_some, unwrap_or}
use Rattle.std.specs.Option.{option_and_then, option_map_or}
use Rattle.std.specs.Result.{result_ok}
use Rattle.fk_base.specs.FirstFailed.{first_failed}
use Rattle.fk_base.specs.declared.keys.Keys.{Keys}
use Rattle.fk_fields.specs.declared.fields.Fields.{Fields}
use Rattle.fk_codec.specs.declared.fault.DecodeFault.{DecodeFault}
use Rattle.fk_codec.specs.declared.fault.DecodeFault.TheVariants as decode
use Rattle.fk_codec.specs.DecodeFault.{decoded}
use Rattle.fk_packet.specs.declared.fault.PacketFault.{PacketFault}
use Rattle.fk_packet.specs.declared.fault.PacketFault.TheVariants as fault
use Rattle.fk_packet.specs.Opens.{blocks_under, fields_opened, is_authentic, opened_under, read_plain}
use Rattle.fk_packet.specs.Pick.{fits, plain_under}
use Rattle.fk_admit.specs.declared.opening.Opening.{Opening}
use Rattle.fk_admit.specs.declared.opening.Opening.TheVariants as opening
use Rattle.fk_admit.specs.declared.refusal.Refusal.TheVariants.{Mac, Cipher, Plain}
use Rattle.fk_admit.specs.KeyConditions.{fields_under, is_plaintext, is_right_but_for_type, is_served_type}
use Rattle.fk_admit.specs.Private.{IsOpening, fault_opening, plain_opening}

-- what opening gives where the fields are opened

pub record OpensFields (keys : Keys) (datagram : List ℕ) (fields : Fields) : Type 0 where
  pub fitting : fits is_plaintext datagram keys ≡ true
  pub served : is_served_type keys datagram ≡ true
  pub fields_are : fields_under keys datagram ≡ Some fields

abbrev Facts : Bool → Option (List ℕ) → Fields → Type 0
Facts authentic plain fields =
    (authentic && option_map_or is_plaintext plain false ≡ true) × (option_map_or (λ text. is_ok (decoded text)) plain false ≡ true)
    × (option_and_then (λ text. result_ok (decoded text)) plain ≡ Some fields)

read_facts : (read : Result Fields DecodeFault) (fields : Fields) → read_plain read ≡ Ok fields →
    (is_right_but_for_type read ≡ true) × (is_ok read ≡ true) × (result_ok read ≡ Some fields)
read_facts (Ok f) fields is = (refl, refl, cc)
read_facts (Err w) fields is = cc

facts : (authentic : Bool) (plain : Option (List ℕ)) (fields : Fields) →
    (if authentic then fields_opened plain else Err fault.Mac) ≡ Ok fields → Facts authentic plain fields
facts false plain fields is = cc
facts true None fields is = cc
facts true (Some text) fields is = read_facts (decoded text) fields is

pub opens_fields : (keys : Keys) (datagram : List ℕ) (fields : Fields) → opened_under keys datagram ≡ Ok fields → OpensFields keys datagram fields
unfolding opened_under
opens_fields keys datagram fields is =
    let known = facts (is_authentic keys datagram) (plain_under keys datagram) fields is in
    record { fitting = known.0; served = known.1; fields_are = known.2 }

-- and where they are not

abbrev IsReadBy : Result Fields DecodeFault → Opening → Type 0
IsReadBy read (opening.Opened fields) = ⊥
IsReadBy read opening.OtherType = (is_right_but_for_type read ≡ true) × (is_ok read ≡ false)
IsReadBy read (opening.Failed why) = (true ≡ true) × (is_right_but_for_type read ≡ false)
    × (unwrap_or (first_failed ((is_right_but_for_type read, Plain) ∷ [])) Mac ≡ why)
IsReadBy read opening.OtherHmac = ⊥
IsReadBy read opening.NoMemory = ⊥

abbrev IsOpeningBy : Bool → Option (List ℕ) → Opening → Type 0
IsOpeningBy authentic plain (opening.Opened fields) = ⊥
IsOpeningBy authentic plain opening.OtherType =
    (authentic && option_map_or is_plaintext plain false ≡ true) × (option_map_or (λ text. is_ok (decoded text)) plain false ≡ false)
IsOpeningBy authentic plain (opening.Failed why) = (authentic ≡ true) × (authentic && option_map_or is_plaintext plain false ≡ false)
    × (unwrap_or (first_failed ((authentic, Mac) ∷ (is_some plain, Cipher) ∷ (option_map_or is_plaintext plain false, Plain) ∷ [])) Mac ≡ why)
IsOpeningBy authentic plain opening.OtherHmac = authentic ≡ false
IsOpeningBy authentic plain opening.NoMemory = ⊥

plain_wrong : (why : DecodeFault) → IsReadBy (Err why) (plain_opening why)
plain_wrong (decode.Missing n) = (refl, refl, refl)
plain_wrong (decode.Bad n) = (refl, refl, refl)
plain_wrong (decode.KindOut type) = (refl, refl)
plain_wrong decode.DigestLength = (refl, refl, refl)
plain_wrong decode.DigestDiffers = (refl, refl, refl)
plain_wrong decode.NoMemory = (refl, refl, refl)

plain_by : (read : Result Fields DecodeFault) (f : PacketFault) → read_plain read ≡ Err f → IsReadBy read (fault_opening f)
plain_by (Ok fields) f is = cc
plain_by (Err why) f is =
    let e : fault.Plain why ≡ f = cc in
    subst (λ (g : PacketFault). IsReadBy (Err why) (fault_opening g)) e (plain_wrong why)

by_text : (text : List ℕ) (o : Opening) → IsReadBy (decoded text) o → IsOpeningBy true (Some text) o
by_text text (opening.Opened fields) is = is
by_text text opening.OtherType is = is
by_text text (opening.Failed why) is = is
by_text text opening.OtherHmac is = absurd is
by_text text opening.NoMemory is = is

fault_by : (authentic : Bool) (plain : Option (List ℕ)) (f : PacketFault) → (if authentic then fields_opened plain else Err fault.Mac) ≡ Err f →
    IsOpeningBy authentic plain (fault_opening f)
fault_by false plain f is =
    let e : fault.Mac ≡ f = cc in subst (λ (g : PacketFault). IsOpeningBy false plain (fault_opening g)) e refl
fault_by true None f is =
    let e : fault.Cipher ≡ f = cc in subst (λ (g : PacketFault). IsOpeningBy true None (fault_opening g)) e (refl, refl, refl)
fault_by true (Some text) f is = by_text text (fault_opening f) (plain_by (decoded text) f is)

by_keys : (keys : Keys) (datagram : List ℕ) (o : Opening) → IsOpeningBy (is_authentic keys datagram) (plain_under keys datagram) o → IsOpening keys datagram o
by_keys keys datagram (opening.Opened fields) is = absurd is
by_keys keys datagram opening.OtherType is = is
by_keys keys datagram (opening.Failed why) is = is
by_keys keys datagram opening.OtherHmac is = is
by_keys keys datagram opening.NoMemory is = absurd is

refused : (keys : Keys) (datagram : List ℕ) (f : PacketFault) → opened_under keys datagram ≡ Err f → IsOpening keys datagram (fault_opening f)
unfolding opened_under
refused keys datagram f is =
    by_keys keys datagram (fault_opening f) (fault_by (is_authentic keys datagram) (plain_under keys datagram) f is)

pub opens_none : (keys : Keys) (datagram : List ℕ) (f : PacketFault) →
    (opened_under keys datagram ≡ Err f) ⊎ ((f ≡ fault.NoMemory) × (0 < blocks_under keys datagram)) → IsOpening keys datagram (fault_opening f)
opens_none keys datagram f (inl is) = refused keys datagram f is
opens_none keys datagram f (inr wanting) = subst (λ (g : PacketFault). IsOpening keys datagram (fault_opening g)) (sym wanting.0) wanting.1
