-- what is left to apply gives the result
use Rattle.std.proofs.Common.{◌≡◌, ◌-◌}
use Rattle.std.specs.Fn.{iterate}
use Rattle.md5.specs.Md5.{md5}
use Rattle.fk_speed.specs.declared.repeat.TheConstants.{SHORT_START}
use Rattle.fk_speed.proofs.repeat.last_md5.Given as goal

abbrev pub invariant-loop : goal.invariant-loop
invariant-loop l = iterate md5 (l.count - l.counter) l.digest ≡ iterate md5 l.count SHORT_START
