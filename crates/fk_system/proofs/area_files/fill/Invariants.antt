use Rattle.std.proofs.Common.{◌≤◌, length}
use Rattle.fk_system.proofs.area_files.fill.Given as goal

abbrev pub invariant-loop : goal.invariant-loop
invariant-loop l = l.count ≤ length l.buf
