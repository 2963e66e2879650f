-- What the words of a program may ask for, and that those of a client ask for one packet.
use Rattle.std.proofs.Common.{◌≡◌, ℕ, Bool, true, false, List, [], ◌∷◌, Option, Some, None, Result, Ok, if◌then◌else◌, refl, sym, subst, ◌∙◌}
use Rattle.std.specs.Prelude.{codes, find, length, nat_le}
use Rattle.std.specs.Str.{bytes_eq}
use Rattle.fk_words.specs.declared.command.Command.{Command}
use Rattle.fk_words.specs.declared.command.Command.TheVariants as command
use Rattle.fk_words.specs.declared.command.SendWords.{SendWords}
use Rattle.fk_words.specs.declared.option_set.OptionSet.{OptionSet}
use Rattle.fk_words.specs.declared.option_set.OptionSet.TheVariants as sets
use Rattle.fk_words.specs.declared.tool.Tool.{Tool}
use Rattle.fk_words.specs.declared.tool.Tool.TheVariants.{Daemon, Client, Fko}
use Rattle.fk_words.specs.declared.word_fault.WordFault.{WordFault}
use Rattle.fk_words.specs.CommandOf.{AskAlike, IsCommandOf, SaysSame}
use Rattle.fk_words.specs.Operands.{command_read, command_word, complete, fko_commands, fko_read, operand_fault_at, operands_of}
use Rattle.fk_words.specs.OptionSets.{fits}
use Rattle.fk_words.specs.ReadsWords.{IsCommand, IsSend, ReadsWords, set_read, set_unless}
use Rattle.fk_words.specs.WordFaults.{first_fault_at, words_fault}
use Rattle.fk_words.specs.WordPlaces.{is_only}

-- a set of a program
abbrev pub IsSetOf : Tool → OptionSet → Type 0
IsSetOf Daemon sets.Serve = Unit {0}
IsSetOf Daemon sets.Trial = Unit {0}
IsSetOf Daemon sets.List = Unit {0}
IsSetOf Daemon sets.SendForAddress = ⊥
IsSetOf Daemon sets.SendForSource = ⊥
IsSetOf Daemon sets.KeyGen = ⊥
IsSetOf Daemon sets.Encode = ⊥
IsSetOf Daemon sets.Decode = ⊥
IsSetOf Daemon sets.Journal = ⊥
IsSetOf Daemon sets.Generate = ⊥
IsSetOf Daemon sets.Help = Unit {0}
IsSetOf Daemon sets.Version = Unit {0}
IsSetOf Client sets.Serve = ⊥
IsSetOf Client sets.Trial = ⊥
IsSetOf Client sets.List = ⊥
IsSetOf Client sets.SendForAddress = Unit {0}
IsSetOf Client sets.SendForSource = Unit {0}
IsSetOf Client sets.KeyGen = Unit {0}
IsSetOf Client sets.Encode = ⊥
IsSetOf Client sets.Decode = ⊥
IsSetOf Client sets.Journal = ⊥
IsSetOf Client sets.Generate = ⊥
IsSetOf Client sets.Help = Unit {0}
IsSetOf Client sets.Version = Unit {0}
IsSetOf Fko sets.Serve = ⊥
IsSetOf Fko sets.Trial = ⊥
IsSetOf Fko sets.List = ⊥
IsSetOf Fko sets.SendForAddress = ⊥
IsSetOf Fko sets.SendForSource = ⊥
IsSetOf Fko sets.KeyGen = Unit {0}
IsSetOf Fko sets.Encode = Unit {0}
IsSetOf Fko sets.Decode = Unit {0}
IsSetOf Fko sets.Journal = Unit {0}
IsSetOf Fko sets.Generate = Unit {0}
IsSetOf Fko sets.Help = Unit {0}
IsSetOf Fko sets.Version = Unit {0}

from-ok : (tool : Tool) (x set : OptionSet) → IsSetOf tool x → (let read : Result OptionSet WordFault = Ok x in read ≡ Ok set) → IsSetOf tool set
from-ok tool x set is e = let same : x ≡ set = cc in subst (IsSetOf tool) same is

chosen : (tool : Tool) (x y z : OptionSet) → IsSetOf tool sets.Help → IsSetOf tool sets.Version → IsSetOf tool x → IsSetOf tool y → IsSetOf tool z
    → (help version : Bool) (fault : Option WordFault) (first second third : Bool) (set : OptionSet)
    → (if help then Ok sets.Help else (if version then Ok sets.Version
    else set_unless fault (if first then Some x else (if second then Some y else (if third then Some z else None))))) ≡ Ok set
    → IsSetOf tool set
chosen tool x y z h v a b c true version fault first second third set e = from-ok tool sets.Help set h e
chosen tool x y z h v a b c false true fault first second third set e = from-ok tool sets.Version set v e
chosen tool x y z h v a b c false false (Some fault) first second third set e = absurd cc
chosen tool x y z h v a b c false false None true second third set e = from-ok tool x set a e
chosen tool x y z h v a b c false false None false true third set e = from-ok tool y set b e
chosen tool x y z h v a b c false false None false false true set e = from-ok tool z set c e
chosen tool x y z h v a b c false false None false false false set e = absurd cc

fko-found : (found : Bool) (x : OptionSet) (rest : Option OptionSet) (set : OptionSet) → IsSetOf Fko x → (rest ≡ Some set → IsSetOf Fko set)
    → (if found then Some x else rest) ≡ Some set → IsSetOf Fko set
fko-found true x rest set is others e = let same : x ≡ set = cc in subst (IsSetOf Fko) same is
fko-found false x rest set is others e = others e

none-found : (set : OptionSet) → (let found : Option OptionSet = None in found ≡ Some set) → IsSetOf Fko set
none-found set e = absurd cc

fko-command : (found : OptionSet → Bool) (set : OptionSet) → find found fko_commands ≡ Some set → IsSetOf Fko set
fko-command found set e =
    fko-found (found sets.Encode) sets.Encode _ set tt
    (fko-found (found sets.Decode) sets.Decode _ set tt
    (fko-found (found sets.KeyGen) sets.KeyGen _ set tt
    (fko-found (found sets.Journal) sets.Journal _ set tt
    (fko-found (found sets.Generate) sets.Generate _ set tt (none-found set))))) e

fko-complete : (fault : Option WordFault) (x set : OptionSet) (words : List (List ℕ)) (enough : Bool) → IsSetOf Fko x
    → complete fault x words ≡ Ok set → nat_le (length (operands_of x)) (length words) ≡ enough → IsSetOf Fko set
fko-complete (Some fault) x set words enough is e known = absurd cc
fko-complete None x set words true is e known = let same : x ≡ set = cc in subst (IsSetOf Fko) same is
fko-complete None x set words false is e known = absurd cc

fko-behind : (command : Option OptionSet) (words : List (List ℕ)) (set : OptionSet) → ((x : OptionSet) → command ≡ Some x → IsSetOf Fko x)
    → command_read command words ≡ Ok set → IsSetOf Fko set
fko-behind None words set is e = absurd cc
fko-behind (Some x) words set is e =
    fko-complete (first_fault_at (operand_fault_at (operands_of x) words) (length words)) x set words
    (nat_le (length (operands_of x)) (length words)) (is x refl) e refl

fko-set : (words : List (List ℕ)) (set : OptionSet) → fko_read words ≡ Ok set → IsSetOf Fko set
fko-set [] set e = absurd cc
fko-set (first ∷ others) set e =
    fko-behind (find (λ command. bytes_eq (command_word command) first) fko_commands) others set
    (fko-command (λ command. bytes_eq (command_word command) first)) e

fko-chosen : (help version : Bool) (words : List (List ℕ)) (set : OptionSet)
    → (if help then Ok sets.Help else (if version then Ok sets.Version else fko_read words)) ≡ Ok set → IsSetOf Fko set
fko-chosen true version words set e = from-ok Fko sets.Help set tt e
fko-chosen false true words set e = from-ok Fko sets.Version set tt e
fko-chosen false false words set e = fko-set words set e

-- the words of a program make a set of it
pub set-of : (tool : Tool) (words : List (List ℕ)) (set : OptionSet) → set_read tool words ≡ Ok set → IsSetOf tool set
set-of Daemon words set e =
    chosen Daemon sets.Serve sets.Trial sets.List tt tt tt tt tt (is_only (codes "--help") words) (is_only (codes "--version") words)
    (words_fault Daemon words) (fits Daemon words sets.Serve) (fits Daemon words sets.Trial) (fits Daemon words sets.List) set e
set-of Client words set e =
    chosen Client sets.SendForAddress sets.SendForSource sets.KeyGen tt tt tt tt tt (is_only (codes "--help") words) (is_only (codes "--version") words)
    (words_fault Client words) (fits Client words sets.SendForAddress) (fits Client words sets.SendForSource) (fits Client words sets.KeyGen) set e
set-of Fko words set e = fko-chosen (is_only (codes "--help") words) (is_only (codes "--version") words) words set e

asks : (tool : Tool) (words : List (List ℕ)) (set : OptionSet) (asked : Command) → IsSetOf tool set → IsCommand words set asked → IsCommandOf tool asked
asks Daemon words sets.Serve (command.Serve conf access packets turns verbose) is says = tt
asks Daemon words sets.Serve _ is says = absurd says
asks Daemon words sets.Trial (command.Trial conf access quiet verbose) is says = tt
asks Daemon words sets.Trial _ is says = absurd says
asks Daemon words sets.List command.List is says = tt
asks Daemon words sets.List _ is says = absurd says
asks Daemon words sets.SendForAddress _ is says = absurd is
asks Daemon words sets.SendForSource _ is says = absurd is
asks Daemon words sets.KeyGen _ is says = absurd is
asks Daemon words sets.Encode _ is says = absurd is
asks Daemon words sets.Decode _ is says = absurd is
asks Daemon words sets.Journal _ is says = absurd is
asks Daemon words sets.Generate _ is says = absurd is
asks Client words sets.Serve _ is says = absurd is
asks Client words sets.Trial _ is says = absurd is
asks Client words sets.List _ is says = absurd is
asks Client words sets.SendForAddress (command.Send send) is says = tt
asks Client words sets.SendForAddress _ is says = absurd says
asks Client words sets.SendForSource (command.Send send) is says = tt
asks Client words sets.SendForSource _ is says = absurd says
asks Client words sets.KeyGen command.KeyGen is says = tt
asks Client words sets.KeyGen _ is says = absurd says
asks Client words sets.Encode _ is says = absurd is
asks Client words sets.Decode _ is says = absurd is
asks Client words sets.Journal _ is says = absurd is
asks Client words sets.Generate _ is says = absurd is
asks Fko words sets.Serve _ is says = absurd is
asks Fko words sets.Trial _ is says = absurd is
asks Fko words sets.List _ is says = absurd is
asks Fko words sets.SendForAddress _ is says = absurd is
asks Fko words sets.SendForSource _ is says = absurd is
asks Fko words sets.KeyGen command.KeyGen is says = tt
asks Fko words sets.KeyGen _ is says = absurd says
asks Fko words sets.Encode (command.Encode file name) is says = tt
asks Fko words sets.Encode _ is says = absurd says
asks Fko words sets.Decode (command.Decode file name) is says = tt
asks Fko words sets.Decode _ is says = absurd says
asks Fko words sets.Journal command.Journal is says = tt
asks Fko words sets.Journal _ is says = absurd says
asks Fko words sets.Generate (command.Generate count) is says = tt
asks Fko words sets.Generate _ is says = absurd says
asks tool words sets.Help command.Help is says = tt
asks tool words sets.Help _ is says = absurd says
asks tool words sets.Version command.Version is says = tt
asks tool words sets.Version _ is says = absurd says

-- the words of a program ask for a command of it
pub of-program : (tool : Tool) (words : List (List ℕ)) (asked : Command) → ReadsWords tool words asked → IsCommandOf tool asked
of-program tool words asked reads = asks tool words reads.set asked (set-of tool words reads.set reads.reads) reads.asks

same-send : (words : List (List ℕ)) (a b : SendWords) → IsSend words a → IsSend words b → SaysSame a b
same-send words a b one two = record {
  name = one.name ∙ sym two.name;
  file = one.file ∙ sym two.file;
  pairs = one.pairs ∙ sym two.pairs;
  allow = one.allow ∙ sym two.allow;
  server = one.server ∙ sym two.server;
  port = one.port ∙ sym two.port;
  seconds = one.seconds ∙ sym two.seconds;
  print = one.print ∙ sym two.print;
}

alike-of : (words : List (List ℕ)) (set : OptionSet) (a b : Command) → IsSetOf Client set → IsCommand words set a → IsCommand words set b → AskAlike a b
alike-of words sets.Serve a b is one two = absurd is
alike-of words sets.Trial a b is one two = absurd is
alike-of words sets.List a b is one two = absurd is
alike-of words sets.SendForAddress (command.Send a) (command.Send b) is one two = same-send words a b one two
alike-of words sets.SendForAddress (command.Send a) _ is one two = absurd two
alike-of words sets.SendForAddress _ _ is one two = absurd one
alike-of words sets.SendForSource (command.Send a) (command.Send b) is one two = same-send words a b one two
alike-of words sets.SendForSource (command.Send a) _ is one two = absurd two
alike-of words sets.SendForSource _ _ is one two = absurd one
alike-of words sets.KeyGen command.KeyGen command.KeyGen is one two = tt
alike-of words sets.KeyGen command.KeyGen _ is one two = absurd two
alike-of words sets.KeyGen _ _ is one two = absurd one
alike-of words sets.Encode a b is one two = absurd is
alike-of words sets.Decode a b is one two = absurd is
alike-of words sets.Journal a b is one two = absurd is
alike-of words sets.Generate a b is one two = absurd is
alike-of words sets.Help command.Help command.Help is one two = tt
alike-of words sets.Help command.Help _ is one two = absurd two
alike-of words sets.Help _ _ is one two = absurd one
alike-of words sets.Version command.Version command.Version is one two = tt
alike-of words sets.Version command.Version _ is one two = absurd two
alike-of words sets.Version _ _ is one two = absurd one

-- two sets that were read of the same words are one
pub ok-same : (read : Result OptionSet WordFault) (x y : OptionSet) → read ≡ Ok x → read ≡ Ok y → x ≡ y
ok-same read x y a b = cc

-- words of a client ask for one packet
pub ask-alike : (words : List (List ℕ)) (a b : Command) → ReadsWords Client words a → ReadsWords Client words b → AskAlike a b
ask-alike words a b one two =
    let same : two.set ≡ one.set = ok-same (set_read Client words) two.set one.set two.reads one.reads in
    alike-of words one.set a b (set-of Client words one.set one.reads) one.asks (subst (λ (set : OptionSet). IsCommand words set b) same two.asks)
