-- What the words of the daemon may ask for.
use Rattle.std.specs.Prelude.{IfSome}
use Rattle.fk_words.specs.declared.command.Command.{Command}
use Rattle.fk_words.specs.declared.command.Command.TheVariants as command
use Rattle.fk_words.specs.Limits.{IsLimit}

-- the command is one of the daemon, with limits that are such
abbrev pub IsForDaemon : Command → Type 0
IsForDaemon (command.Serve conf access packets turns verbose) = IfSome packets IsLimit × IfSome turns IsLimit
IsForDaemon (command.Trial conf access quiet verbose) = Unit {0}
IsForDaemon command.List = Unit {0}
IsForDaemon (command.Send send) = ⊥
IsForDaemon command.KeyGen = ⊥
IsForDaemon (command.Encode file name) = ⊥
IsForDaemon (command.Decode file name) = ⊥
IsForDaemon command.Journal = ⊥
IsForDaemon (command.Generate count) = ⊥
IsForDaemon command.Help = Unit {0}
IsForDaemon command.Version = Unit {0}
