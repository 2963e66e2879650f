-- what is left to apply gives the result
use Rattle.std.proofs.Common.{◌≡◌, ◌-◌}
use Rattle.std.specs.Fn.{iterate}
use Rattle.fk_aes.specs.Cipher.{cipher}
use Rattle.fk_speed.specs.declared.repeat.TheConstants.{KEY, BLOCK}
use Rattle.fk_speed.proofs.repeat.encrypted.Given as goal

abbrev pub invariant-loop : goal.invariant-loop
invariant-loop l = iterate (cipher KEY) (l.count - l.counter) l.block ≡ iterate (cipher KEY) l.count BLOCK
