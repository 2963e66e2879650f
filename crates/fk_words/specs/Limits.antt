-- The limits that a command line sets a run are within bounds.
use Rattle.std.specs.Prelude.{◌≤◌, ℕ, IfSome}
use Rattle.fk_words.specs.declared.command.Command.{Command}
use Rattle.fk_words.specs.declared.command.Command.TheVariants as command
use Rattle.fk_words.specs.declared.command_option.TheConstants.{GREATEST_LIMIT}
use Rattle.fk_words.specs.declared.operand.TheConstants.{GREATEST_COUNT}

-- so many packets or turns
abbrev pub IsLimit : ℕ → Type 0
IsLimit limit = (1 ≤ limit) × (limit ≤ GREATEST_LIMIT)

-- the limits of a command, where it has some
abbrev pub HasLimits : Command → Type 0
HasLimits (command.Serve conf access packets turns verbose) = IfSome packets IsLimit × IfSome turns IsLimit
HasLimits (command.Generate count) = (1 ≤ count) × (count ≤ GREATEST_COUNT)
HasLimits _ = Unit {0}
