-- what is left to apply gives the result
use Rattle.std.proofs.Common.{◌≡◌, ◌-◌, [], ◌++◌}
use Rattle.std.specs.Fn.{iterate}
use Rattle.fk_mac.specs.Hmac.{hmac}
use Rattle.fk_base.specs.declared.hash_kind.HashKind.TheVariants as HashKind
use Rattle.fk_speed.specs.declared.repeat.TheConstants.{KEY, BEHIND_CODE}
use Rattle.fk_speed.proofs.repeat.last_keyed_mac.Given as goal

abbrev pub invariant-loop : goal.invariant-loop
invariant-loop l = iterate (λ code. hmac HashKind.Sha256 KEY (code ++ BEHIND_CODE)) (l.count - l.counter) l.code ≡ iterate (λ code. hmac HashKind.Sha256 KEY (code ++ BEHIND_CODE)) l.count []
