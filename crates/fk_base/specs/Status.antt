-- The numbers that the programs end with.
use Rattle.std.specs.Prelude.{ℕ}
use Rattle.fk_base.specs.declared.status.Status.{Status}
use Rattle.fk_base.specs.declared.status.Status.TheVariants.{Done, Usage, Config, FileFault, FeedFault, DiskFault, Damaged, SinkFault, NoMemory, ReadFault, LinkFault, EntropyFault}

-- 0 where all went well, and for each fault a number of its own; 1 is left to the shell
abbrev pub exit_code : Status → ℕ
exit_code Done = 0
exit_code Usage = 2
exit_code Config = 3
exit_code FileFault = 4
exit_code FeedFault = 5
exit_code DiskFault = 6
exit_code Damaged = 7
exit_code SinkFault = 8
exit_code NoMemory = 9
exit_code ReadFault = 10
exit_code LinkFault = 11
exit_code EntropyFault = 12
