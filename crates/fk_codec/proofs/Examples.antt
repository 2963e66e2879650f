-- One plaintext and its faults, computed by hand.
use Rattle.std.proofs.Common.{◌≡◌, ◌+◌, ◌*◌, ◌^◌, [], ◌∷◌, Some, refl, codes, zero-le, suc-le-suc}
use Rattle.std.specs.Fmt.{digits}
use Rattle.fk_base.specs.declared.pair.Proto.TheVariants.{Tcp}
use Rattle.fk_base.specs.declared.hash_kind.HashKind.TheVariants.{Sha256}
use Rattle.fk_base.specs.Decimal.{number_in}
use Rattle.fk_text.specs.Found.{bytes_in, bytes_of}
use Rattle.fk_text.specs.Text.{bits_of, group_numbers, text_of}
use Rattle.fk_text.specs.TextFault.{letter_number}
use Rattle.fk_fields.specs.declared.fields.Ask.TheVariants.{Access, Timed}
use Rattle.fk_fields.specs.declared.fields.Fields.{Fields}
use Rattle.fk_codec.specs.declared.fault.DecodeFault.TheVariants.{Missing, Bad, KindOut}
use Rattle.fk_codec.specs.DecodeFault.{decode_fault, user_in}
use Rattle.fk_codec.specs.Spells.{front_of}

-- what bob asked for
bob : Fields
bob = record {
  rand = codes "0123456789012345";
  user = codes "bob";
  stamp = 1700000000;
  version = codes "3.0.0";
  ask = Access (record { 0 = 10 * 2 ^ 24 + 7 }) (record { proto = Tcp; port = 22; has_port = suc-le-suc zero-le } ∷ []);
  kind = Sha256;
}

-- the same for a minute
bob_for_a_minute : Fields
bob_for_a_minute = record {
  rand = codes "0123456789012345";
  user = codes "bob";
  stamp = 1700000000;
  version = codes "3.0.0";
  ask = Timed (record { 0 = 10 * 2 ^ 24 + 7 }) (record { proto = Tcp; port = 22; has_port = suc-le-suc zero-le } ∷ []) 60;
  kind = Sha256;
}

front : front_of bob ≡ codes "0123456789012345:Ym9i:1700000000:3.0.0:1:MTAuMC4wLjcsdGNwLzIy"
unfolding bob front_of digits bits_of group_numbers text_of
front = refl

timed_front : front_of bob_for_a_minute ≡ codes "0123456789012345:Ym9i:1700000000:3.0.0:3:MTAuMC4wLjcsdGNwLzIy:60"
unfolding bob_for_a_minute front_of digits bits_of group_numbers text_of
timed_front = refl

user : user_in (codes "Ym9i") ≡ Some (codes "bob")
unfolding user_in bytes_in bytes_of letter_number bits_of group_numbers text_of
user = refl

no_parts : decode_fault [] ≡ Some (Missing 2)
unfolding decode_fault
no_parts = refl

leading_zero : decode_fault (codes "0123456789012345:Ym9i:01:3.0.0:9:") ≡ Some (Bad 3)
unfolding decode_fault user_in bytes_in bytes_of letter_number bits_of group_numbers text_of number_in
leading_zero = refl

other_type : decode_fault (codes "0123456789012345:Ym9i:1:3.0.0:2:") ≡ Some (KindOut 2)
unfolding decode_fault user_in bytes_in bytes_of letter_number bits_of group_numbers text_of number_in
other_type = refl
