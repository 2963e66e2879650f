-- The tests of a command line's words, from the first word to the last.
use Rattle.std.specs.Prelude.{ℕ, zero, suc, ◌+◌, ◌==◌, Bool, false, not, List, [], ◌∷◌, length, take, drop, find, Option, Some, None, if◌then◌else◌}
use Rattle.std.specs.List.{list_any}
use Rattle.std.specs.Option.{option_map_or, option_or}
use Rattle.std.specs.Str.{bytes_eq}
use Rattle.fk_base.specs.FirstFailed.{first_failed}
use Rattle.fk_words.specs.declared.tool.Tool.{Tool}
use Rattle.fk_words.specs.declared.command_option.CommandOption.{CommandOption}
use Rattle.fk_words.specs.declared.word_fault.WordFault.{WordFault}
use Rattle.fk_words.specs.declared.word_fault.WordFault.TheVariants.{Unknown, Twice, NoValue, BadValue}
use Rattle.fk_words.specs.CommandOptions.{OptionRule, option_rule, options_of}
use Rattle.fk_words.specs.WordPlaces.{word_at}

-- the option of a program that a word is
abbrev pub option_of : Tool → List ℕ → Option CommandOption
option_of tool word = find (λ option. bytes_eq (option_rule option).word word) (options_of tool)

-- the word is an option that a value follows
abbrev pub awaits_value : Tool → List ℕ → Bool
awaits_value tool word = option_map_or (λ option. (option_rule option).has_value) (option_of tool word) false

-- a word that begins with a dash (45) is no value
abbrev pub begins_option : List ℕ → Bool
begins_option [] = false
begins_option (first ∷ others) = first == 45

-- the tests of the value of the option at a place, in these words behind it: that there is one, and that it is right
abbrev pub value_fault : OptionRule → ℕ → List (List ℕ) → Option WordFault
value_fault rule place [] = Some (NoValue place)
value_fault rule place (value ∷ words) =
    first_failed ((not (begins_option value), NoValue place) ∷ (rule.is_value value, BadValue (place + 1)) ∷ [])

-- the tests of an option at a place, between these words: that it did not stand before, and those of its value
abbrev pub known_fault : OptionRule → List (List ℕ) → ℕ → List (List ℕ) → Option WordFault
known_fault rule before place behind =
    if list_any (λ word. bytes_eq word rule.word) before then Some (Twice place)
    else (if rule.has_value then value_fault rule place behind else None)

-- the tests of a word that is to be an option, between these words
abbrev pub option_fault : List (List ℕ) → List (List ℕ) → Option CommandOption → Option WordFault
option_fault before behind None = Some (Unknown (length before + 1))
option_fault before behind (Some option) = known_fault (option_rule option) before (length before + 1) behind

-- The word at a place, counted from 0, is the value of the option before it. No value begins with a dash, so before the first
-- fault that is exactly where the word before it awaits a value.
abbrev pub is_value_at : Tool → List (List ℕ) → ℕ → Bool
is_value_at tool words zero = false
is_value_at tool words (suc before) = awaits_value tool (word_at words before)

-- the fault of the word at a place, counted from 0; a value is tested with its option
abbrev pub fault_at : Tool → List (List ℕ) → ℕ → Option WordFault
fault_at tool words at =
    if is_value_at tool words at then None
    else option_fault (take at words) (drop (at + 1) words) (option_of tool (word_at words at))

-- the first fault of so many places, one by one
abbrev pub first_fault_at : (ℕ → Option WordFault) → ℕ → Option WordFault
first_fault_at fault zero = None
first_fault_at fault (suc at) = option_or (first_fault_at fault at) (fault at)

-- the first test that the words fail, from the first word to the last
abbrev pub words_fault : Tool → List (List ℕ) → Option WordFault
words_fault tool words = first_fault_at (fault_at tool words) (length words)
