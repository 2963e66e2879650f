-- what is left to apply gives the result
use Rattle.std.proofs.Common.{◌≡◌, ◌-◌, ◌++◌}
use Rattle.std.specs.Fn.{iterate}
use Rattle.sha2.specs.Sha256.{sha256}
use Rattle.fk_speed.specs.declared.repeat.TheConstants.{BEHIND_DIGEST, START}
use Rattle.fk_speed.proofs.repeat.last_digest.Given as goal

abbrev pub invariant-loop : goal.invariant-loop
invariant-loop l = iterate (λ digest. sha256 (digest ++ BEHIND_DIGEST)) (l.count - l.counter) l.digest ≡ iterate (λ digest. sha256 (digest ++ BEHIND_DIGEST)) l.count START
