-- Numbers in decimal: digits alone, with no sign, and no zero in front of another digit.
use Rattle.std.specs.Prelude.{ℕ, Bool, not, ◌&&◌, List, length, Option, Some, None, if◌then◌else◌, nat_lt, ◌==◌, slice_index}
use Rattle.std.specs.List.{position}
use Rattle.std.specs.Char.{is_ascii_digit}
use Rattle.std.specs.Str.Parse.{digits_value}
use Rattle.fk_base.specs.declared.decimal.NumFault.{NumFault}
use Rattle.fk_base.specs.declared.decimal.NumFault.TheVariants.{Empty, NotDigit, LeadingZero, TooLarge}

-- the number that a text of digits writes, the highest digit first
abbrev pub decimal_value : List ℕ → ℕ
decimal_value text = digits_value 10 text

-- the place of the first byte that is no digit
abbrev pub first_non_digit : List ℕ → Option ℕ
first_non_digit text = position (λ byte. not (is_ascii_digit byte)) text

-- a zero stands in front of another digit
abbrev pub has_leading_zero : List ℕ → Bool
has_leading_zero text = nat_lt 1 (length text) && (slice_index text 0 == 48)

-- what is wrong with a text whose first byte that is no digit is known: that byte, then a zero in front, then the size
abbrev pub digits_fault : ℕ → List ℕ → Option ℕ → Option NumFault
digits_fault limit text (Some place) = Some (NotDigit place)
digits_fault limit text None =
    if has_leading_zero text then Some LeadingZero
    else (if nat_lt limit (decimal_value text) then Some TooLarge else None)

-- the first of its four tests that a text fails, which is to be a number of at most `limit`
abbrev pub first_num_fault : ℕ → List ℕ → Option NumFault
first_num_fault limit text =
    if length text == 0 then Some Empty else digits_fault limit text (first_non_digit text)

-- the number of a text that has no fault
abbrev pub number_unless : Option NumFault → ℕ → Option ℕ
number_unless None value = Some value
number_unless (Some fault) value = None

-- the number of at most `greatest` that a text writes: by `numbers_are_found` the one whose text it is
unfoldable pub number_in : ℕ → List ℕ → Option ℕ
number_in greatest text = number_unless (first_num_fault greatest text) (decimal_value text)
