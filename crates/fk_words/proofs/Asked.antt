-- What the words of the daemon may ask for, and that those of the daemon and of the tool ask for one command.
use Rattle.std.proofs.Common.{◌≡◌, ℕ, ◌≤◌, nat_le, List, Option, Some, None, IfSome, if◌then◌else◌, refl, sym, subst, ◌∙◌, arith}
use Rattle.std.specs.Option.{option_and_then}
use Rattle.std.proofs.lemmas.Bool.Decides.{nat_tests}
use Rattle.fk_base.specs.Decimal.{number_in}
use Rattle.fk_base.proofs.FoundValues.{number_in_some}
use Rattle.fk_values.specs.Values.{number_within}
use Rattle.fk_words.specs.declared.command.Command.{Command}
use Rattle.fk_words.specs.declared.command.Command.TheVariants as command
use Rattle.fk_words.specs.declared.command_option.CommandOption.{CommandOption}
use Rattle.fk_words.specs.declared.command_option.CommandOption.TheVariants.{PacketLimit, TurnLimit}
use Rattle.fk_words.specs.declared.option_set.OptionSet.{OptionSet}
use Rattle.fk_words.specs.declared.option_set.OptionSet.TheVariants as sets
use Rattle.fk_words.specs.declared.tool.Tool.TheVariants.{Daemon, Fko}
use Rattle.fk_words.specs.ReadsWords.{IsCommand, ReadsWords, limit_of, set_read, value_of}
use Rattle.fk_words.specs.Limits.{IsLimit}
use Rattle.fk_words.specs.DaemonCommands.{IsForDaemon}
use Rattle.fk_words.proofs.WordsAsk.{IsSetOf, ok-same, set-of}

least-one : (found : Option ℕ) (n : ℕ) → option_and_then (λ n. if nat_le 1 n then Some n else None) found ≡ Some n → (1 ≤ n) × (found ≡ Some n)
least-one None n e = absurd cc
least-one (Some m) n e = (grind (arith, nat_tests), grind (arith, nat_tests))

read-within : (value : Option (List ℕ)) (n : ℕ) → option_and_then (number_within 1 1000000000) value ≡ Some n → (1 ≤ n) × (n ≤ 1000000000)
read-within None n e = absurd cc
read-within (Some text) n e =
    let least = least-one (number_in 1000000000 text) n e in
    let most = number_in_some 1000000000 n text (omega arith) least.1 in
    (least.0, most.1)

-- a limit that words give is one
pub limit-within : (option : CommandOption) (words : List (List ℕ)) (limit : Option ℕ) → limit ≡ limit_of option words
    → IfSome limit IsLimit
limit-within option words None is = tt
limit-within option words (Some n) is = read-within (value_of option words) n (sym is)

asks : (words : List (List ℕ)) (set : OptionSet) (asked : Command) → IsSetOf Daemon set → IsCommand words set asked → IsForDaemon asked
asks words sets.Serve (command.Serve conf access packets turns verbose) is says = (limit-within PacketLimit words packets says.1.0, limit-within TurnLimit words turns says.1.1)
asks words sets.Serve _ is says = absurd says
asks words sets.Trial (command.Trial conf access quiet verbose) is says = tt
asks words sets.Trial _ is says = absurd says
asks words sets.List command.List is says = tt
asks words sets.List _ is says = absurd says
asks words sets.SendForAddress _ is says = absurd is
asks words sets.SendForSource _ is says = absurd is
asks words sets.KeyGen _ is says = absurd is
asks words sets.Encode _ is says = absurd is
asks words sets.Decode _ is says = absurd is
asks words sets.Journal _ is says = absurd is
asks words sets.Generate _ is says = absurd is
asks words sets.Help command.Help is says = tt
asks words sets.Help _ is says = absurd says
asks words sets.Version command.Version is says = tt
asks words sets.Version _ is says = absurd says

-- the words of this program ask for what is its
pub daemon-command : (words : List (List ℕ)) (asked : Command) → ReadsWords Daemon words asked → IsForDaemon asked
daemon-command words asked reads = asks words reads.set asked (set-of Daemon words reads.set reads.reads) reads.asks

same-named : (words : List (List ℕ)) (set : OptionSet) (a b : Command) → IsSetOf Daemon set → IsCommand words set a → IsCommand words set b → a ≡ b
same-named words sets.Serve (command.Serve c a p t v) (command.Serve c' a' p' t' v') is one two =
    let ec : c ≡ c' = one.0.conf_is ∙ sym two.0.conf_is in
    let ea : a ≡ a' = one.0.access_is ∙ sym two.0.access_is in
    let ep : p ≡ p' = one.1.0 ∙ sym two.1.0 in
    let et : t ≡ t' = one.1.1 ∙ sym two.1.1 in
    let ev : v ≡ v' = one.1.2 ∙ sym two.1.2 in
    cc
same-named words sets.Serve (command.Serve c a p t v) _ is one two = absurd two
same-named words sets.Serve _ _ is one two = absurd one
same-named words sets.Trial (command.Trial c a q v) (command.Trial c' a' q' v') is one two =
    let ec : c ≡ c' = one.0.conf_is ∙ sym two.0.conf_is in
    let ea : a ≡ a' = one.0.access_is ∙ sym two.0.access_is in
    let eq : q ≡ q' = one.1.0 ∙ sym two.1.0 in
    let ev : v ≡ v' = one.1.1 ∙ sym two.1.1 in
    cc
same-named words sets.Trial (command.Trial c a q v) _ is one two = absurd two
same-named words sets.Trial _ _ is one two = absurd one
same-named words sets.List command.List command.List is one two = refl
same-named words sets.List command.List _ is one two = absurd two
same-named words sets.List _ _ is one two = absurd one
same-named words sets.SendForAddress _ _ is one two = absurd is
same-named words sets.SendForSource _ _ is one two = absurd is
same-named words sets.KeyGen _ _ is one two = absurd is
same-named words sets.Encode _ _ is one two = absurd is
same-named words sets.Decode _ _ is one two = absurd is
same-named words sets.Journal _ _ is one two = absurd is
same-named words sets.Generate _ _ is one two = absurd is
same-named words sets.Help command.Help command.Help is one two = refl
same-named words sets.Help command.Help _ is one two = absurd two
same-named words sets.Help _ _ is one two = absurd one
same-named words sets.Version command.Version command.Version is one two = refl
same-named words sets.Version command.Version _ is one two = absurd two
same-named words sets.Version _ _ is one two = absurd one

-- words of this program ask for one command
pub same-command : (words : List (List ℕ)) (a b : Command) → ReadsWords Daemon words a → ReadsWords Daemon words b → a ≡ b
same-command words a b one two =
    let same : two.set ≡ one.set = ok-same (set_read Daemon words) two.set one.set two.reads one.reads in
    same-named words one.set a b (set-of Daemon words one.set one.reads) one.asks (subst (λ (set : OptionSet). IsCommand words set b) same two.asks)

same-asked : (words : List (List ℕ)) (set : OptionSet) (a b : Command) → IsSetOf Fko set → IsCommand words set a → IsCommand words set b → a ≡ b
same-asked words sets.Encode (command.Encode f n) (command.Encode f' n') is one two =
    let ef : f ≡ f' = one.file_is ∙ sym two.file_is in
    let en : n ≡ n' = one.name_is ∙ sym two.name_is in
    cc
same-asked words sets.Encode (command.Encode f n) _ is one two = absurd two
same-asked words sets.Encode _ _ is one two = absurd one
same-asked words sets.Decode (command.Decode f n) (command.Decode f' n') is one two =
    let ef : f ≡ f' = one.file_is ∙ sym two.file_is in
    let en : n ≡ n' = one.name_is ∙ sym two.name_is in
    cc
same-asked words sets.Decode (command.Decode f n) _ is one two = absurd two
same-asked words sets.Decode _ _ is one two = absurd one
same-asked words sets.KeyGen command.KeyGen command.KeyGen is one two = refl
same-asked words sets.KeyGen command.KeyGen _ is one two = absurd two
same-asked words sets.KeyGen _ _ is one two = absurd one
same-asked words sets.Journal command.Journal command.Journal is one two = refl
same-asked words sets.Journal command.Journal _ is one two = absurd two
same-asked words sets.Journal _ _ is one two = absurd one
same-asked words sets.Generate (command.Generate c) (command.Generate c') is one two =
    let ec : c ≡ c' = one ∙ sym two in
    cc
same-asked words sets.Generate (command.Generate c) _ is one two = absurd two
same-asked words sets.Generate _ _ is one two = absurd one
same-asked words sets.Help command.Help command.Help is one two = refl
same-asked words sets.Help command.Help _ is one two = absurd two
same-asked words sets.Help _ _ is one two = absurd one
same-asked words sets.Version command.Version command.Version is one two = refl
same-asked words sets.Version command.Version _ is one two = absurd two
same-asked words sets.Version _ _ is one two = absurd one
same-asked words sets.Serve _ _ is one two = absurd is
same-asked words sets.Trial _ _ is one two = absurd is
same-asked words sets.List _ _ is one two = absurd is
same-asked words sets.SendForAddress _ _ is one two = absurd is
same-asked words sets.SendForSource _ _ is one two = absurd is

-- words of the tool ask for one command
pub same-tool_command : (words : List (List ℕ)) (a b : Command) → ReadsWords Fko words a → ReadsWords Fko words b → a ≡ b
same-tool_command words a b one two =
    let same : two.set ≡ one.set = ok-same (set_read Fko words) two.set one.set two.reads one.reads in
    same-asked words one.set a b (set-of Fko words one.set one.reads) one.asks (subst (λ (set : OptionSet). IsCommand words set b) same two.asks)
