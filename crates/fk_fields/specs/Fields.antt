-- The rules that the fields of a packet keep.
use Rattle.std.specs.Prelude.{◌≡◌, ◌<◌, ◌^◌, Bool, true, nat_le, IsTrue, List, [], ◌∷◌, Option, None}
use Rattle.fk_base.specs.FirstFailed.{first_failed}
use Rattle.fk_base.specs.Pairs.{IsPairs}
use Rattle.fk_base.specs.declared.address.Ip4.{Ip4}
use Rattle.fk_base.specs.declared.moment.TheConstants.{GREATEST_MOMENT}
use Rattle.fk_base.specs.declared.pair.Pair.{Pair}
use Rattle.fk_fields.specs.declared.fields.Ask.{Ask}
use Rattle.fk_fields.specs.declared.fields.Ask.TheVariants.{Access, Timed}
use Rattle.fk_fields.specs.declared.fields.Fields.{Fields}
use Rattle.fk_fields.specs.declared.fields.FieldFault.{FieldFault}
use Rattle.fk_fields.specs.declared.fields.FieldFault.TheVariants.{User, Stamp, Version, Timeout}
use Rattle.fk_fields.specs.FieldText.{is_rand, is_user, is_version, is_timeout}

-- the address that asks
abbrev pub asked_ip : Ask → Ip4
asked_ip (Access ip pairs) = ip
asked_ip (Timed ip pairs seconds) = ip

-- the pairs that it asks for
abbrev pub asked_pairs : Ask → List Pair
asked_pairs (Access ip pairs) = pairs
asked_pairs (Timed ip pairs seconds) = pairs

-- the seconds of a timed request are within their bounds
abbrev pub has_timeout : Ask → Bool
has_timeout (Access ip pairs) = true
has_timeout (Timed ip pairs seconds) = is_timeout seconds

-- the first field outside its rule
abbrev pub field_fault : Fields → Option FieldFault
field_fault f = first_failed (
    (is_user f.user, User) ∷ (nat_le f.stamp GREATEST_MOMENT, Stamp) ∷ (is_version f.version, Version) ∷ (has_timeout f.ask, Timeout) ∷ []
    )

-- fields within their rules: a random value of 16 digits, an address of 32 bits, 1 to 16 pairs, and no field outside its rule
pub record IsFields (f : Fields) : Type 0 where
  pub rand : IsTrue (is_rand f.rand)
  pub address : (asked_ip f.ask).0 < 2 ^ 32
  pub pairs : IsPairs (asked_pairs f.ask)
  pub checked : field_fault f ≡ None
