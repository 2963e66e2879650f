-- A line of what is to be packed: `RAND USER STAMP MESSAGE`, or `RAND USER STAMP MESSAGE SECONDS`, with one space (32) between two parts.
use Rattle.std.specs.Prelude.{ℕ, List, [], ◌∷◌, Option, Some, None}
use Rattle.std.specs.Option.{option_map}
use Rattle.fk_base.specs.Decimal.{number_in}
use Rattle.fk_base.specs.Parts.{parts_at}
use Rattle.fk_base.specs.declared.address.Ip4.{Ip4}
use Rattle.fk_base.specs.declared.moment.TheConstants.{GREATEST_MOMENT}
use Rattle.fk_base.specs.declared.pair.Pair.{Pair}
use Rattle.fk_codec.specs.DecodeFault.{passing, seconds_in}
use Rattle.fk_fields.specs.FieldText.{is_rand, is_user}
use Rattle.fk_fields.specs.Message.{message_in}

-- what a line asks for; the seconds where it says so
pub record Asked : Type 0 where
  pub rand : List ℕ
  pub user : List ℕ
  pub stamp : ℕ
  pub ip : Ip4
  pub pairs : List Pair
  pub seconds : Option ℕ

-- what the parts behind the message say: one part the seconds, 1 to a week, and no part none
abbrev pub seconds_of_parts : List (List ℕ) → Option (Option ℕ)
seconds_of_parts [] = Some None
seconds_of_parts (part ∷ []) = option_map Some (seconds_in part)
seconds_of_parts _ = None

-- what the values of the parts make, where each has one
abbrev pub asked_of : Option (List ℕ) → Option (List ℕ) → Option ℕ → Option (Ip4 × List Pair) → Option (Option ℕ) → Option Asked
asked_of (Some rand) (Some user) (Some stamp) (Some said) (Some seconds) =
    Some (record { rand = rand; user = user; stamp = stamp; ip = said.0; pairs = said.1; seconds = seconds })
asked_of _ _ _ _ _ = None

-- what four parts and those behind them ask for: 16 digits, a user, who has no space between two of these, a moment and a message
abbrev pub asked_of_five : (rand user stamp message : List ℕ) → List (List ℕ) → Option Asked
asked_of_five rand user stamp message behind =
    asked_of (passing is_rand rand) (passing is_user user) (number_in GREATEST_MOMENT stamp) (message_in message) (seconds_of_parts behind)

abbrev pub asked_of_parts : List (List ℕ) → Option Asked
asked_of_parts (rand ∷ user ∷ stamp ∷ message ∷ behind) = asked_of_five rand user stamp message behind
asked_of_parts _ = None

-- what a line asks for, where it is one
abbrev pub asked_in : List ℕ → Option Asked
asked_in line = asked_of_parts (parts_at 32 line)
