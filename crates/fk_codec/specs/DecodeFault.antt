-- What is wrong with a text that is no plaintext, in the order in which it is tested, and the fields of one that is. By
-- `plaintexts_are_decoded` these are the fields that spell the text.
use Rattle.std.specs.Prelude.{ℕ, ◌+◌, ◌-◌, ◌==◌, nat_le, Bool, ◌||◌, List, [], ◌∷◌, ◌++◌, length, take, slice_index_or, Option, Some, None, is_some, unwrap_or, Result, Ok, Err, if◌then◌else◌}
use Rattle.std.specs.List.{join_with_byte}
use Rattle.std.specs.Option.{option_and_then}
use Rattle.std.specs.Str.{bytes_eq}
use Rattle.fk_base.specs.Decimal.{decimal_value, number_in}
use Rattle.fk_base.specs.FirstFailed.{first_failed}
use Rattle.fk_base.specs.HashKind.{kind_by_len}
use Rattle.fk_base.specs.Parts.{parts_at}
use Rattle.fk_base.specs.declared.address.Ip4.{Ip4}
use Rattle.fk_base.specs.declared.hash_kind.HashKind.TheVariants.{Sha256}
use Rattle.fk_base.specs.declared.moment.TheConstants.{GREATEST_MOMENT, LONGEST_TIME}
use Rattle.fk_base.specs.declared.pair.Pair.{Pair}
use Rattle.fk_text.specs.Found.{bytes_in}
use Rattle.fk_fields.specs.declared.fields.Ask.{Ask}
use Rattle.fk_fields.specs.declared.fields.Ask.TheVariants.{Access, Timed}
use Rattle.fk_fields.specs.declared.fields.Fields.{Fields}
use Rattle.fk_fields.specs.FieldText.{is_rand, is_timeout, is_user, is_version}
use Rattle.fk_fields.specs.Message.{message_in}
use Rattle.fk_codec.specs.declared.fault.DecodeFault.{DecodeFault}
use Rattle.fk_codec.specs.declared.fault.DecodeFault.TheVariants.{Missing, Bad, KindOut, DigestLength, DigestDiffers}
use Rattle.fk_codec.specs.Spells.{digest_text}

-- a value that passes a test, or none
abbrev pub passing : {A : Type 0} → (A → Bool) → A → Option A
passing test value = if test value then Some value else None

-- the user whose base64 a part is
unfoldable pub user_in : List ℕ → Option (List ℕ)
user_in part = option_and_then (passing is_user) (bytes_in part)

-- the address and the pairs of the message whose base64 a part is
unfoldable pub asked_in : List ℕ → Option (Ip4 × List Pair)
asked_in part = option_and_then message_in (bytes_in part)

-- the seconds of a timed request that a part writes
unfoldable pub seconds_in : List ℕ → Option ℕ
seconds_in part = option_and_then (passing is_timeout) (number_in LONGEST_TIME part)

-- how many parts there are in a plaintext of this type
abbrev pub parts_needed : ℕ → ℕ
parts_needed type = if type == 3 then 8 else 7

-- a part by its number, counted from 1
abbrev pub part : ℕ → List (List ℕ) → List ℕ
part n parts = slice_index_or parts (n - 1) []

-- the tests of the first five parts
abbrev pub head_tests : (rand user stamp version type : List ℕ) → List (Bool × DecodeFault)
head_tests rand user stamp version type =
    (is_rand rand, Bad 1) ∷ (is_some (user_in user), Bad 2) ∷ (is_some (number_in GREATEST_MOMENT stamp), Bad 3) ∷ (is_version version, Bad 4)
    ∷ (is_some (number_in 6 type), Bad 5) ∷ (decimal_value type == 1 || decimal_value type == 3, KindOut (decimal_value type)) ∷ []

-- the tests of how many parts there are, by how many are needed
abbrev pub count_tests : (needed count : ℕ) → List (Bool × DecodeFault)
count_tests needed count = (nat_le needed count, Missing (count + 1)) ∷ (nat_le count needed, Bad (needed + 1)) ∷ []

-- the tests of the message and of the seconds, which a timed request alone has
abbrev pub ask_tests : (needed : ℕ) → (message seconds : List ℕ) → List (Bool × DecodeFault)
ask_tests needed message seconds = (is_some (asked_in message), Bad 6) ∷ (needed == 7 || is_some (seconds_in seconds), Bad 7) ∷ []

-- the tests of the digest of a front, under the hash that its length names
abbrev pub digest_tests : (front digest : List ℕ) → List (Bool × DecodeFault)
digest_tests front digest =
    (is_some (kind_by_len (length digest)), DigestLength)
    ∷ (bytes_eq digest (digest_text (unwrap_or (kind_by_len (length digest)) Sha256) front), DigestDiffers) ∷ []

-- the tests of parts, of which so many are needed
abbrev pub tests_needing : ℕ → List (List ℕ) → List (Bool × DecodeFault)
tests_needing needed parts =
    (nat_le 5 (length parts), Missing (length parts + 1))
    ∷ (head_tests (part 1 parts) (part 2 parts) (part 3 parts) (part 4 parts) (part 5 parts) ++ count_tests needed (length parts)
    ++ ask_tests needed (part 6 parts) (part 7 parts)
    ++ digest_tests (join_with_byte 58 (take (needed - 1) parts)) (part needed parts))

-- the tests of a text's parts, in their order
abbrev pub decode_tests : List (List ℕ) → List (Bool × DecodeFault)
decode_tests parts = tests_needing (parts_needed (decimal_value (part 5 parts))) parts

-- the first test that a text fails
unfoldable pub decode_fault : List ℕ → Option DecodeFault
decode_fault text = first_failed (decode_tests (parts_at 58 text))

-- what a request of a type asks for
abbrev pub ask_of : ℕ → Ip4 × List Pair → ℕ → Ask
ask_of type asked seconds = if type == 3 then Timed asked.0 asked.1 seconds else Access asked.0 asked.1

-- the fields of parts that pass all tests
abbrev pub fields_of : List (List ℕ) → Fields
fields_of parts =
    let type = decimal_value (part 5 parts) in
    record {
      rand = part 1 parts;
      user = unwrap_or (user_in (part 2 parts)) [];
      stamp = decimal_value (part 3 parts);
      version = part 4 parts;
      ask = ask_of type (unwrap_or (asked_in (part 6 parts)) (record { 0 = 0 }, [])) (decimal_value (part 7 parts));
      kind = unwrap_or (kind_by_len (length (part (parts_needed type) parts))) Sha256;
    }

-- a value where there is no fault
abbrev pub ok_unless : {A E : Type 0} → Option E → A → Result A E
ok_unless None value = Ok value
ok_unless (Some fault) value = Err fault

-- the fields of a text, or the first test that it fails
unfoldable pub decoded : List ℕ → Result Fields DecodeFault
decoded text = ok_unless (decode_fault text) (fields_of (parts_at 58 text))
