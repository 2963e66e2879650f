-- What the contracts of this crate's private functions alone speak of. No public contract cites it, so no caller has to
-- believe it.
use Rattle.std.specs.Prelude.{ℕ, ◌+◌, ◌==◌, Bool, List, [], ◌∷◌, ◌++◌, length, codes, Option, Some, None, unwrap_or, if◌then◌else◌}
use Rattle.std.specs.Borrow.{Bor}
use Rattle.std.specs.Fmt.{decimal}
use Rattle.fk_base.specs.Decimal.{decimal_value}
use Rattle.fk_base.specs.declared.address.Ip4.{Ip4}
use Rattle.fk_base.specs.declared.pair.Pair.{Pair}
use Rattle.fk_text.specs.Text.{text_of}
use Rattle.fk_fields.specs.Message.{message_text}
use Rattle.fk_fields.specs.declared.fields.Ask.{Ask}
use Rattle.fk_fields.specs.declared.fields.Ask.TheVariants as ask
use Rattle.fk_fields.specs.declared.fields.Fields.{Fields}
use Rattle.fk_codec.specs.DecodeFault.{ask_of, ask_tests, asked_in, part}
use Rattle.fk_codec.specs.declared.fault.DecodeFault.{DecodeFault}
use Rattle.fk_codec.specs.declared.head.RequestType.{RequestType}
use Rattle.fk_codec.specs.declared.head.RequestType.TheVariants.{Access, Timed}
use Rattle.fk_codec.specs.declared.tail.Tail.{Tail}
use Rattle.fk_codec.specs.declared.reading.Found.{Found}

-- the number of a type of request
abbrev pub type_number : RequestType → ℕ
type_number Access = 1
type_number Timed = 3

-- the part of the seconds, where there is one
abbrev pub seconds_parts : Option (Bor (List ℕ)) → List (List ℕ)
seconds_parts None = []
seconds_parts (Some seconds) = seconds.now ∷ []

-- the parts behind the type
abbrev pub tail_parts : Tail → List (List ℕ)
tail_parts t = t.message.now ∷ (seconds_parts t.seconds ++ t.digest.now ∷ [])

-- the tests of the message and of the seconds, by the parts behind the type
abbrev pub tail_tests : List (List ℕ) → List (Bool × DecodeFault)
tail_tests parts = ask_tests (length parts + 5) (part 1 parts) (part 2 parts)

-- what the parts behind the type ask for
abbrev pub tail_ask : List (List ℕ) → Ask
tail_ask parts =
    ask_of (if length parts == 3 then 3 else 1) (unwrap_or (asked_in (part 1 parts)) (record { 0 = 0 }, [])) (decimal_value (part 2 parts))

-- the fields that were found, before they are copied
abbrev pub found_fields : Found → Fields
found_fields f =
    record { rand = f.rand; user = f.user; stamp = f.stamp; version = f.version.now; ask = f.ask; kind = f.kind }

-- the type and the message of a request, each behind a `:`
abbrev pub request_text : List ℕ → Ip4 → List Pair → List ℕ
request_text type ip pairs = 58 ∷ type ++ 58 ∷ text_of (message_text ip pairs)

-- the parts of what is asked for, each behind a `:`
abbrev pub ask_text : Ask → List ℕ
ask_text (ask.Access ip pairs) = request_text (codes "1") ip pairs
ask_text (ask.Timed ip pairs seconds) = request_text (codes "3") ip pairs ++ 58 ∷ decimal seconds
