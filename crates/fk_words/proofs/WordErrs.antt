-- No test of the words tells want of memory.
use Rattle.std.proofs.Common.{◌≡◌, ℕ, zero, suc, ◌+◌, Bool, true, false, List, [], ◌∷◌, length, take, drop, Option, Some, None, Result, Ok, Err, subst, if◌then◌else◌}
use Rattle.std.specs.Prelude.{find, nat_le, not, codes, slice_get}
use Rattle.std.specs.List.{list_any}
use Rattle.std.specs.Option.{option_or}
use Rattle.std.specs.Str.{bytes_eq}
use Rattle.fk_words.specs.declared.tool.Tool.{Tool}
use Rattle.fk_words.specs.declared.tool.Tool.TheVariants.{Daemon, Client, Fko}
use Rattle.fk_words.specs.declared.command_option.CommandOption.{CommandOption}
use Rattle.fk_words.specs.declared.option_set.OptionSet.{OptionSet}
use Rattle.fk_words.specs.declared.option_set.OptionSet.TheVariants.{Help, Version}
use Rattle.fk_words.specs.declared.word_fault.WordFault.{WordFault}
use Rattle.fk_words.specs.declared.word_fault.WordFault.TheVariants.{Unknown, Twice, NoValue, BadValue, Modes, NoMemory}
use Rattle.fk_words.specs.CommandOptions.{OptionRule, option_rule}
use Rattle.fk_words.specs.OptionSets.{fits, sets_of}
use Rattle.fk_words.specs.declared.operand.Operand.{Operand}
use Rattle.fk_words.specs.Operands.{command_read, command_word, complete, fko_commands, fko_read, is_operand, operand_fault, operand_fault_at, operands_of}
use Rattle.fk_words.specs.ReadsWords.{IsWordErr, set_read, set_unless, tool_read}
use Rattle.fk_words.specs.WordFaults.{begins_option, fault_at, first_fault_at, is_value_at, known_fault, option_fault, option_of, value_fault, words_fault}
use Rattle.fk_words.specs.WordPlaces.{is_only, word_at}

IsTold : Option WordFault → Type 0
IsTold None = Unit {0}
IsTold (Some NoMemory) = ⊥
IsTold (Some (Unknown place)) = Unit {0}
IsTold (Some (NoValue place)) = Unit {0}
IsTold (Some (Twice place)) = Unit {0}
IsTold (Some (BadValue place)) = Unit {0}
IsTold (Some Modes) = Unit {0}

told_if : (b : Bool) (x y : Option WordFault) → IsTold x → IsTold y → IsTold (if b then x else y)
unfolding IsTold
told_if true x y first second = first
told_if false x y first second = second

told_or : (x y : Option WordFault) → IsTold x → IsTold y → IsTold (option_or x y)
unfolding IsTold
told_or None y first second = second
told_or (Some fault) y first second = first

told_value : (rule : OptionRule) (place : ℕ) (words : List (List ℕ)) → IsTold (value_fault rule place words)
unfolding IsTold
told_value rule place [] = tt
told_value rule place (value ∷ words) =
    told_if (not (begins_option value)) (if rule.is_value value then None else Some (BadValue (place + 1))) (Some (NoValue place))
    (told_if (rule.is_value value) None (Some (BadValue (place + 1))) tt tt) tt

told_known : (rule : OptionRule) (before : List (List ℕ)) (place : ℕ) (behind : List (List ℕ)) → IsTold (known_fault rule before place behind)
unfolding IsTold
told_known rule before place behind =
    told_if (list_any (λ word. bytes_eq word rule.word) before) (Some (Twice place)) (if rule.has_value then value_fault rule place behind else None) tt
    (told_if rule.has_value (value_fault rule place behind) None (told_value rule place behind) tt)

told_option : (before behind : List (List ℕ)) (option : Option CommandOption) → IsTold (option_fault before behind option)
unfolding IsTold
told_option before behind None = tt
told_option before behind (Some option) = told_known (option_rule option) before (length before + 1) behind

told_at : (tool : Tool) (words : List (List ℕ)) (at : ℕ) → IsTold (fault_at tool words at)
unfolding IsTold
told_at tool words at =
    told_if (is_value_at tool words at) None (option_fault (take at words) (drop (at + 1) words) (option_of tool (word_at words at))) tt
    (told_option (take at words) (drop (at + 1) words) (option_of tool (word_at words at)))

told_operand : (place : ℕ) (word : List ℕ) (operand : Option Operand) → IsTold (operand_fault place word operand)
unfolding IsTold
told_operand place word None = tt
told_operand place word (Some operand) =
    told_if (not (begins_option word)) (if is_operand operand word then None else Some (BadValue place)) (Some (Unknown place))
    (told_if (is_operand operand word) None (Some (BadValue place)) tt tt) tt

told_first : (fault : ℕ → Option WordFault) → ((at : ℕ) → IsTold (fault at)) → (count : ℕ) → IsTold (first_fault_at fault count)
unfolding IsTold
told_first fault each zero = tt
told_first fault each (suc at) = told_or (first_fault_at fault at) (fault at) (told_first fault each at) (each at)

IsToldBy : Result OptionSet WordFault → Type 0
IsToldBy (Ok set) = Unit {0}
IsToldBy (Err fault) = IsTold (Some fault)

told_unless : (fault : Option WordFault) (set : Option OptionSet) → IsTold fault → IsToldBy (set_unless fault set)
unfolding IsTold IsToldBy
told_unless (Some fault) set told = told
told_unless None None told = tt
told_unless None (Some set) told = tt

told_either : (b : Bool) (x y : Result OptionSet WordFault) → IsToldBy x → IsToldBy y → IsToldBy (if b then x else y)
unfolding IsToldBy
told_either true x y first second = first
told_either false x y first second = second

told_complete : (fault : Option WordFault) (command : OptionSet) (words : List (List ℕ)) → IsTold fault → IsToldBy (complete fault command words)
unfolding IsTold IsToldBy
told_complete (Some fault) command words told = told
told_complete None command words told = told_either (nat_le (length (operands_of command)) (length words)) (Ok command) (Err Modes) tt tt

told_command : (command : Option OptionSet) (words : List (List ℕ)) → IsToldBy (command_read command words)
unfolding IsTold IsToldBy
told_command None words = tt
told_command (Some command) words =
    told_complete (first_fault_at (operand_fault_at (operands_of command) words) (length words)) command words
    (told_first (operand_fault_at (operands_of command) words)
    (λ at. told_operand (at + 2) (word_at words at) (slice_get (operands_of command) at)) (length words))

told_fko : (words : List (List ℕ)) → IsToldBy (fko_read words)
unfolding IsTold IsToldBy
told_fko [] = tt
told_fko (first ∷ others) = told_command (find (λ command. bytes_eq (command_word command) first) fko_commands) others

told_options : (tool : Tool) (words : List (List ℕ)) → IsToldBy (set_unless (words_fault tool words) (find (fits tool words) (sets_of tool)))
told_options tool words =
    told_unless (words_fault tool words) (find (fits tool words) (sets_of tool)) (told_first (fault_at tool words) (told_at tool words) (length words))

told_tool : (tool : Tool) (words : List (List ℕ)) → IsToldBy (tool_read tool words)
told_tool Daemon words = told_options Daemon words
told_tool Client words = told_options Client words
told_tool Fko words = told_fko words

told_read : (tool : Tool) (words : List (List ℕ)) → IsToldBy (set_read tool words)
unfolding IsToldBy
told_read tool words =
    told_either (is_only (codes "--help") words) (Ok Help) (if is_only (codes "--version") words then Ok Version else tool_read tool words) tt
    (told_either (is_only (codes "--version") words) (Ok Version) (tool_read tool words) tt (told_tool tool words))

pub is_word_err : (tool : Tool) (words : List (List ℕ)) (fault : WordFault) → set_read tool words ≡ Err fault → IsWordErr tool words fault
unfolding IsTold IsToldBy
is_word_err tool words NoMemory is = absurd (subst (λ (r : Result OptionSet WordFault). IsToldBy r) is (told_read tool words))
is_word_err tool words (Unknown place) is = is
is_word_err tool words (NoValue place) is = is
is_word_err tool words (Twice place) is = is
is_word_err tool words (BadValue place) is = is
is_word_err tool words Modes is = is
