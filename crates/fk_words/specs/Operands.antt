-- The words of `fko`: a command, and behind it its operands, each at its place.
use Rattle.std.specs.Prelude.{ℕ, ◌+◌, nat_le, Bool, not, List, [], ◌∷◌, length, codes, find, slice_get, Option, Some, None, Result, Ok, Err, if◌then◌else◌}
use Rattle.std.specs.Str.{bytes_eq, is_utf8}
use Rattle.fk_base.specs.FirstFailed.{first_failed}
use Rattle.fk_values.specs.Settings.{reads_as}
use Rattle.fk_values.specs.Values.{number_within}
use Rattle.fk_words.specs.declared.operand.Operand.{Operand}
use Rattle.fk_words.specs.declared.operand.Operand.TheVariants.{Name, Count}
use Rattle.fk_words.specs.declared.operand.TheConstants.{GREATEST_COUNT}
use Rattle.fk_words.specs.declared.option_set.OptionSet.{OptionSet}
use Rattle.fk_words.specs.declared.option_set.OptionSet.TheVariants.{Encode, Decode, KeyGen, Journal, Generate}
use Rattle.fk_words.specs.declared.word_fault.WordFault.{WordFault}
use Rattle.fk_words.specs.declared.word_fault.WordFault.TheVariants.{Unknown, BadValue, Modes}
use Rattle.fk_words.specs.WordFaults.{begins_option, first_fault_at}
use Rattle.fk_words.specs.WordPlaces.{word_at}

-- how many lines to generate
abbrev pub count_in : List ℕ → Option ℕ
count_in = number_within 1 GREATEST_COUNT

-- what an operand may be: the name of a file or of a stanza, or a count
abbrev pub is_operand : Operand → List ℕ → Bool
is_operand Name = is_utf8
is_operand Count = reads_as count_in

-- the word of a command
abbrev pub command_word : OptionSet → List ℕ
command_word Encode = codes "encode"
command_word Decode = codes "decode"
command_word KeyGen = codes "keygen"
command_word Journal = codes "journal"
command_word Generate = codes "generate"
command_word _ = []

-- the commands
abbrev pub fko_commands : List OptionSet
fko_commands = Encode ∷ Decode ∷ KeyGen ∷ Journal ∷ Generate ∷ []

-- the operands of a command
abbrev pub operands_of : OptionSet → List Operand
operands_of Encode = Name ∷ Name ∷ []
operands_of Decode = Name ∷ Name ∷ []
operands_of Generate = Count ∷ []
operands_of _ = []

-- the tests of the word at a place that is to be this operand: that the command has one there, that the word begins with no dash,
-- that it is right
abbrev pub operand_fault : ℕ → List ℕ → Option Operand → Option WordFault
operand_fault place word None = Some (Unknown place)
operand_fault place word (Some operand) =
    first_failed ((not (begins_option word), Unknown place) ∷ (is_operand operand word, BadValue place) ∷ [])

-- the fault of the word at a place behind the command, counted from 0; the first of them is the second word of all
abbrev pub operand_fault_at : List Operand → List (List ℕ) → ℕ → Option WordFault
operand_fault_at operands words at = operand_fault (at + 2) (word_at words at) (slice_get operands at)

-- the command that these words follow, where none has a fault and none is missing
abbrev pub complete : Option WordFault → OptionSet → List (List ℕ) → Result OptionSet WordFault
complete (Some fault) command words = Err fault
complete None command words = if nat_le (length (operands_of command)) (length words) then Ok command else Err Modes

-- the command that the words behind its own make, or the first test that they fail
abbrev pub command_read : Option OptionSet → List (List ℕ) → Result OptionSet WordFault
command_read None words = Err (Unknown 1)
command_read (Some command) words = complete (first_fault_at (operand_fault_at (operands_of command) words) (length words)) command words

-- the command that words make, or the first test that they fail
abbrev pub fko_read : List (List ℕ) → Result OptionSet WordFault
fko_read [] = Err Modes
fko_read (first ∷ others) = command_read (find (λ command. bytes_eq (command_word command) first) fko_commands) others
