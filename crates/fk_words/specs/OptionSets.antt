-- The sets that the options of a command line may make.
use Rattle.std.specs.Prelude.{ℕ, Bool, ◌&&◌, ◌||◌, not, List, [], ◌∷◌, ◌++◌}
use Rattle.std.specs.List.{list_all, list_any}
use Rattle.std.specs.Str.{bytes_eq}
use Rattle.fk_words.specs.declared.tool.Tool.{Tool}
use Rattle.fk_words.specs.declared.tool.Tool.TheVariants.{Daemon, Client, Fko}
use Rattle.fk_words.specs.declared.command_option.CommandOption.{CommandOption}
use Rattle.fk_words.specs.declared.command_option.CommandOption.TheVariants.{Foreground, ConfFile, AccessFile, PacketLimit, TurnLimit, Verbose, Trial, Quiet, FwList, StanzaName, RcFileName, PairList, Address, PacketSource, Server, ServerPort, Seconds, Print, NewKeys}
use Rattle.fk_words.specs.declared.option_set.OptionSet.{OptionSet}
use Rattle.fk_words.specs.declared.option_set.OptionSet.TheVariants.{Serve, SendForAddress, SendForSource, KeyGen}
use Rattle.fk_words.specs.declared.option_set.OptionSet.TheVariants as sets
use Rattle.fk_words.specs.CommandOptions.{option_rule, options_of}
use Rattle.fk_words.specs.WordPlaces.{is_word}

-- a set: the options that have to be there, and those that may be there too
pub record SetRule : Type 0 where
  pub required : List CommandOption
  pub allowed : List CommandOption

abbrev pub one_set : List CommandOption → List CommandOption → SetRule
one_set required allowed = record { required = required; allowed = allowed }

-- what every packet may be asked for with
abbrev pub for_packets : List CommandOption
for_packets = StanzaName ∷ RcFileName ∷ PairList ∷ Server ∷ ServerPort ∷ Seconds ∷ Print ∷ []

-- the table of the sets; the others are words of their own, and no options
abbrev pub set_of : OptionSet → SetRule
set_of Serve = one_set (Foreground ∷ ConfFile ∷ AccessFile ∷ []) (PacketLimit ∷ TurnLimit ∷ Verbose ∷ [])
set_of sets.Trial = one_set (Trial ∷ ConfFile ∷ AccessFile ∷ []) (Quiet ∷ Verbose ∷ [])
set_of sets.List = one_set (FwList ∷ []) []
set_of SendForAddress = one_set [] (for_packets ++ Address ∷ [])
set_of SendForSource = one_set [] (for_packets ++ PacketSource ∷ [])
set_of KeyGen = one_set (NewKeys ∷ []) []
set_of _ = one_set [] []

-- the sets of each program, of which at most one fits, but where an address is asked for neither way
abbrev pub sets_of : Tool → List OptionSet
sets_of Daemon = Serve ∷ sets.Trial ∷ sets.List ∷ []
sets_of Client = SendForAddress ∷ SendForSource ∷ KeyGen ∷ []
sets_of Fko = []

-- the option is in the words; no value is the word of an option
abbrev pub stands : CommandOption → List (List ℕ) → Bool
stands option words = is_word (option_rule option).word words

-- the option is one of these, which are of the same program
abbrev pub is_among : CommandOption → List CommandOption → Bool
is_among option options = list_any (λ other. bytes_eq (option_rule other).word (option_rule option).word) options

abbrev pub is_in_set : CommandOption → OptionSet → Bool
is_in_set option set = is_among option (set_of set).required || is_among option (set_of set).allowed

-- what has to be there is there, and what is there is of the set
abbrev pub fits : Tool → List (List ℕ) → OptionSet → Bool
fits tool words set =
    list_all (λ option. stands option words) (set_of set).required
    && list_all (λ option. not (stands option words) || is_in_set option set) (options_of tool)
