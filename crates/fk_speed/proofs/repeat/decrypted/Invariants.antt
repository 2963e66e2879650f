-- what is left to apply gives the result
use Rattle.std.proofs.Common.{◌≡◌, ◌-◌}
use Rattle.std.specs.Fn.{iterate}
use Rattle.fk_aes.specs.Cipher.{decipher}
use Rattle.fk_speed.specs.declared.repeat.TheConstants.{KEY, BLOCK}
use Rattle.fk_speed.proofs.repeat.decrypted.Given as goal

abbrev pub invariant-loop : goal.invariant-loop
invariant-loop g l = iterate (decipher KEY) (l.count - l.counter) l.block ≡ iterate (decipher KEY) l.count BLOCK
