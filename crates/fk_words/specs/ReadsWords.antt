-- What the words of a command line ask for.
use Rattle.std.specs.Prelude.{◌≡◌, ℕ, Bool, true, false, List, [], codes, find, Option, Some, None, unwrap_or, Result, Ok, Err, if◌then◌else◌}
use Rattle.std.specs.Option.{option_and_then, option_or}
use Rattle.fk_base.specs.Address.{ip_in}
use Rattle.fk_base.specs.declared.address.Ip4.{Ip4}
use Rattle.fk_values.specs.Values.{host_in, number_within}
use Rattle.fk_base.specs.declared.moment.TheConstants.{LONGEST_TIME}
use Rattle.fk_words.specs.declared.command.Command.{Command}
use Rattle.fk_words.specs.declared.command.Command.TheVariants as command
use Rattle.fk_words.specs.declared.command.SendWords.{SendWords}
use Rattle.fk_words.specs.declared.command_option.CommandOption.{CommandOption}
use Rattle.fk_words.specs.declared.command_option.CommandOption.TheVariants.{ConfFile, AccessFile, PacketLimit, TurnLimit, Verbose, Quiet, StanzaName, RcFileName, PairList, Address, PacketSource, Server, ServerPort, Seconds, Print}
use Rattle.fk_words.specs.declared.option_set.OptionSet.{OptionSet}
use Rattle.fk_words.specs.declared.option_set.OptionSet.TheVariants.{Serve, Trial, SendForAddress, SendForSource, KeyGen, Encode, Decode, Journal, Generate, Help, Version}
use Rattle.fk_words.specs.declared.option_set.OptionSet.TheVariants as sets
use Rattle.fk_words.specs.declared.tool.Tool.{Tool}
use Rattle.fk_words.specs.declared.tool.Tool.TheVariants.{Daemon, Client, Fko}
use Rattle.fk_words.specs.declared.word_fault.WordFault.{WordFault}
use Rattle.fk_words.specs.declared.word_fault.WordFault.TheVariants.{Modes, NoMemory}
use Rattle.fk_words.specs.CommandOptions.{limit_in, option_rule, pairs_unbroken}
use Rattle.fk_words.specs.Operands.{count_in, fko_read}
use Rattle.fk_words.specs.OptionSets.{fits, sets_of, stands}
use Rattle.fk_words.specs.WordFaults.{words_fault}
use Rattle.fk_words.specs.WordPlaces.{is_only, word_at, word_behind}

-- the set that words make which fail this test, or none, where their options fit this set, or none
abbrev pub set_unless : Option WordFault → Option OptionSet → Result OptionSet WordFault
set_unless (Some fault) set = Err fault
set_unless None None = Err Modes
set_unless None (Some set) = Ok set

-- the set that the words of a program make which asks neither for help nor for its version, or the first test that they fail
abbrev pub tool_read : Tool → List (List ℕ) → Result OptionSet WordFault
tool_read Daemon words = set_unless (words_fault Daemon words) (find (fits Daemon words) (sets_of Daemon))
tool_read Client words = set_unless (words_fault Client words) (find (fits Client words) (sets_of Client))
tool_read Fko words = fko_read words

-- The set that words make, or the first test that they fail. Help and version stand alone.
abbrev pub set_read : Tool → List (List ℕ) → Result OptionSet WordFault
set_read tool words =
    if is_only (codes "--help") words then Ok Help
    else (if is_only (codes "--version") words then Ok Version else tool_read tool words)

-- the value of an option, where it is given
abbrev pub value_of : CommandOption → List (List ℕ) → Option (List ℕ)
value_of option words = word_behind (option_rule option).word words

-- what the value of an option reads as, where it is given
abbrev pub read_from : {X : Type 0} → (List ℕ → Option X) → CommandOption → List (List ℕ) → Option X
read_from read option words = option_and_then read (value_of option words)

-- how many packets or turns an option limits a run to, where it is given
abbrev pub limit_of : CommandOption → List (List ℕ) → Option ℕ
limit_of option words = read_from limit_in option words

-- the address that is asked for: a given one, or 0.0.0.0 for the one that the packet comes from
abbrev pub asked_address : List (List ℕ) → Option Ip4
asked_address words = option_or (read_from ip_in Address words) (if stands PacketSource words then Some (record { 0 = 0 }) else None)

-- the names of the daemon's two files, of which each set that asks for them has both
pub record IsNamed (words : List (List ℕ)) (conf access : List ℕ) : Type 0 where
  pub conf_is : conf ≡ unwrap_or (value_of ConfFile words) []
  pub access_is : access ≡ unwrap_or (value_of AccessFile words) []

-- what the words of a client say
pub record IsSend (words : List (List ℕ)) (send : SendWords) : Type 0 where
  pub name : send.name ≡ unwrap_or (value_of StanzaName words) (codes "default")
  pub file : send.file ≡ unwrap_or (value_of RcFileName words) (codes ".fwknoprc")
  pub pairs : send.pairs ≡ read_from pairs_unbroken PairList words
  pub allow : send.allow ≡ asked_address words
  pub server : send.server ≡ read_from host_in Server words
  pub port : send.port ≡ read_from (number_within 1 65535) ServerPort words
  pub seconds : send.seconds ≡ read_from (number_within 1 LONGEST_TIME) Seconds words
  pub print : send.print ≡ stands Print words

-- the names of the client's file and of its stanza, which are the operands of each command that asks for them
pub record IsStanzaNamed (words : List (List ℕ)) (file name : List ℕ) : Type 0 where
  pub file_is : file ≡ word_at words 1
  pub name_is : name ≡ word_at words 2

-- the words of this set ask for this; the command that generates lines has its count as its operand
abbrev pub IsCommand : List (List ℕ) → OptionSet → Command → Type 0
IsCommand words Serve (command.Serve conf access packets turns verbose) =
    IsNamed words conf access
    × ((packets ≡ limit_of PacketLimit words) × (turns ≡ limit_of TurnLimit words) × (verbose ≡ stands Verbose words))
IsCommand words Trial (command.Trial conf access quiet verbose) =
    IsNamed words conf access × ((quiet ≡ stands Quiet words) × (verbose ≡ stands Verbose words))
IsCommand words sets.List command.List = Unit {0}
IsCommand words SendForAddress (command.Send send) = IsSend words send
IsCommand words SendForSource (command.Send send) = IsSend words send
IsCommand words KeyGen command.KeyGen = Unit {0}
IsCommand words Encode (command.Encode file name) = IsStanzaNamed words file name
IsCommand words Decode (command.Decode file name) = IsStanzaNamed words file name
IsCommand words Journal command.Journal = Unit {0}
IsCommand words Generate (command.Generate count) = count ≡ unwrap_or (count_in (word_at words 1)) 1
IsCommand words Help command.Help = Unit {0}
IsCommand words Version command.Version = Unit {0}
IsCommand words _ _ = ⊥

-- the words fail no test, and ask for this
pub record ReadsWords (tool : Tool) (words : List (List ℕ)) (command : Command) : Type 0 where
  pub set : OptionSet
  pub reads : set_read tool words ≡ Ok set
  pub asks : IsCommand words set command

-- a command of this set keeps names
abbrev pub keeps_names : OptionSet → Bool
keeps_names Serve = true
keeps_names Trial = true
keeps_names SendForAddress = true
keeps_names SendForSource = true
keeps_names Encode = true
keeps_names Decode = true
keeps_names _ = false

-- the words fail no test, and ask for what keeps names
pub record AsksForNames (tool : Tool) (words : List (List ℕ)) : Type 0 where
  pub set : OptionSet
  pub reads : set_read tool words ≡ Ok set
  pub keeps : keeps_names set ≡ true

-- The answer where there is no command: the first test that the words fail, or want of memory, which is asked for only to keep
-- names.
abbrev pub IsWordErr : Tool → List (List ℕ) → WordFault → Type 0
IsWordErr tool words NoMemory = AsksForNames tool words
IsWordErr tool words fault = set_read tool words ≡ Err fault
