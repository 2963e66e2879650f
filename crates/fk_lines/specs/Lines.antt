-- The lines of a configuration file, all at once: each with its number, and with its name and value or its fault.
use Rattle.std.specs.Prelude.{ℕ, ◌+◌, ◌-◌, ◌==◌, ◌&&◌, ◌||◌, nat_lt, Bool, not, List, [], ◌∷◌, length, take, drop, reverse, slice_index, Result, Ok, Err, if◌then◌else◌, codes}
use Rattle.std.specs.List.{list_all, before_first, onto_first, position_or_len}
use Rattle.fk_base.specs.Characters.{is_blank, is_line_byte}
use Rattle.fk_lines.specs.declared.fault.LineFault.{LineFault}
use Rattle.fk_lines.specs.declared.fault.LineFault.TheVariants.{NoValue, BadByte, TooLong}

abbrev pub is_no_blank : ℕ → Bool
is_no_blank byte = not (is_blank byte)

-- the text from its first byte on that is no blank
abbrev pub trim_front : List ℕ → List ℕ
trim_front text = drop (position_or_len is_no_blank text) text

-- the text up to its last byte that is no blank
abbrev pub trim_back : List ℕ → List ℕ
trim_back text = take (length text - position_or_len is_no_blank (reverse text)) text

-- the text without the blanks at both of its ends
abbrev pub trimmed : List ℕ → List ℕ
trimmed text = trim_back (trim_front text)

-- the text without this byte at its end, where it has it there
abbrev pub without_last : ℕ → List ℕ → List ℕ
without_last byte text = if slice_index text (length text - 1) == byte then take (length text - 1) text else text

-- what a line says
pub record Setting : Type 0 where
  pub name : List ℕ
  pub value : List ℕ

-- a line with its number in the file, counted from 1: what it says, or its fault
pub record NumberedLine : Type 0 where
  pub number : ℕ
  pub reading : Result Setting LineFault

-- the text, cut at each line feed; nothing follows a last line feed
abbrev pub raw_lines : List ℕ → List (List ℕ)
raw_lines [] = []
raw_lines (byte ∷ bytes) = if byte == 10 then [] ∷ raw_lines bytes else onto_first byte (raw_lines bytes)

-- a line without the carriage return at its end (13) and the blanks round it
abbrev pub bare_line : List ℕ → List ℕ
bare_line raw = trimmed (without_last 13 raw)

-- an empty line or a comment, which begins with `#` (35), is skipped, whatever bytes it holds
abbrev pub is_skipped : List ℕ → Bool
is_skipped line = length line == 0 || slice_index line 0 == 35

-- the line stands in brackets: it begins with `[` (91) and ends with `]` (93)
abbrev pub is_bracketed : List ℕ → Bool
is_bracketed line = slice_index line 0 == 91 && slice_index line (length line - 1) == 93

-- the name `[`, and what stands between the brackets
abbrev pub bracketed_setting : List ℕ → Setting
bracketed_setting line = record { name = codes "["; value = trimmed (drop 1 (take (length line - 1) line)) }

-- The name is the longest front without a blank, less a `:` (58) at its end. The value is the rest, less a `;` (59) at
-- its end, without blanks at its ends.
abbrev pub plain_setting : List ℕ → Setting
plain_setting line = record {
  name = without_last 58 (before_first is_blank line);
  value = trim_back (without_last 59 (trimmed (drop (position_or_len is_blank line) line)));
}

-- the name and the value of a line
abbrev pub setting_of : List ℕ → Setting
setting_of line = if is_bracketed line then bracketed_setting line else plain_setting line

-- a setting has a value
abbrev pub with_value : Setting → Result Setting LineFault
with_value setting = if length setting.value == 0 then Err NoValue else Ok setting

-- what a line says that isn't skipped, or the first of its three tests that it fails
abbrev pub reading_of : List ℕ → Result Setting LineFault
reading_of line =
    if nat_lt 2000 (length line) then Err TooLong
    else (if list_all is_line_byte line then with_value (setting_of line) else Err BadByte)

-- the lines that aren't skipped, the first of them being the line of this number
unfoldable pub lines_from : ℕ → List (List ℕ) → List NumberedLine
lines_from number [] = []
lines_from number (raw ∷ raws) =
    if is_skipped (bare_line raw) then lines_from (number + 1) raws
    else record { number = number; reading = reading_of (bare_line raw) } ∷ lines_from (number + 1) raws

-- the lines of a text that aren't skipped, in their order
abbrev pub lines_of : List ℕ → List NumberedLine
lines_of text = lines_from 1 (raw_lines text)
