-- The commands of each program, and when two askings for a packet say the same.
use Rattle.std.specs.Prelude.{◌≡◌}
use Rattle.fk_words.specs.declared.command.Command.{Command}
use Rattle.fk_words.specs.declared.command.Command.TheVariants as command
use Rattle.fk_words.specs.declared.command.SendWords.{SendWords}
use Rattle.fk_words.specs.declared.tool.Tool.{Tool}
use Rattle.fk_words.specs.declared.tool.Tool.TheVariants.{Daemon, Client, Fko}

-- a program has the commands of its own, and each the help and the version
abbrev pub IsCommandOf : Tool → Command → Type 0
IsCommandOf Daemon (command.Serve conf access packets turns verbose) = Unit {0}
IsCommandOf Daemon (command.Trial conf access quiet verbose) = Unit {0}
IsCommandOf Daemon command.List = Unit {0}
IsCommandOf Daemon (command.Send send) = ⊥
IsCommandOf Daemon command.KeyGen = ⊥
IsCommandOf Daemon (command.Encode file name) = ⊥
IsCommandOf Daemon (command.Decode file name) = ⊥
IsCommandOf Daemon command.Journal = ⊥
IsCommandOf Daemon (command.Generate count) = ⊥
IsCommandOf Client (command.Serve conf access packets turns verbose) = ⊥
IsCommandOf Client (command.Trial conf access quiet verbose) = ⊥
IsCommandOf Client command.List = ⊥
IsCommandOf Client (command.Send send) = Unit {0}
IsCommandOf Client command.KeyGen = Unit {0}
IsCommandOf Client (command.Encode file name) = ⊥
IsCommandOf Client (command.Decode file name) = ⊥
IsCommandOf Client command.Journal = ⊥
IsCommandOf Client (command.Generate count) = ⊥
IsCommandOf Fko (command.Serve conf access packets turns verbose) = ⊥
IsCommandOf Fko (command.Trial conf access quiet verbose) = ⊥
IsCommandOf Fko command.List = ⊥
IsCommandOf Fko (command.Send send) = ⊥
IsCommandOf Fko command.KeyGen = Unit {0}
IsCommandOf Fko (command.Encode file name) = Unit {0}
IsCommandOf Fko (command.Decode file name) = Unit {0}
IsCommandOf Fko command.Journal = Unit {0}
IsCommandOf Fko (command.Generate count) = Unit {0}
IsCommandOf tool command.Help = Unit {0}
IsCommandOf tool command.Version = Unit {0}

-- two askings for a packet say the same
pub record SaysSame (a b : SendWords) : Type 0 where
  pub name : a.name ≡ b.name
  pub file : a.file ≡ b.file
  pub pairs : a.pairs ≡ b.pairs
  pub allow : a.allow ≡ b.allow
  pub server : a.server ≡ b.server
  pub port : a.port ≡ b.port
  pub seconds : a.seconds ≡ b.seconds
  pub print : a.print ≡ b.print

-- where one of two commands asks for a packet the other does, and says the same
abbrev pub AskAlike : Command → Command → Type 0
AskAlike (command.Send a) (command.Send b) = SaysSame a b
AskAlike (command.Send a) _ = ⊥
AskAlike _ (command.Send b) = ⊥
AskAlike _ _ = Unit {0}
