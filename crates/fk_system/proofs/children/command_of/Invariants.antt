use Rattle.std.proofs.Common.{◌≡◌, Some, drop, take}
use Rattle.std.specs.List.{slice_get}
use Rattle.std.specs.Process.{command_program, command_args}
use Rattle.fk_system.proofs.children.command_of.Given as goal

-- the program and the arguments so far are those of the words
abbrev pub invariant-loop-at : goal.invariant-loop-at
invariant-loop-at l = (slice_get l.words 0 ≡ Some (command_program l.command)) × (command_args l.command ≡ drop 1 (take l.at l.words))
