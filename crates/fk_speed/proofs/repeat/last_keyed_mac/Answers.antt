use Rattle.std.proofs.Common.{◌++◌, ◌∙◌, ap, sym}
use Rattle.fk_base.specs.declared.hash_kind.HashKind.TheVariants as HashKind
use Rattle.fk_mac.specs.Hmac.{hmac}
use Rattle.fk_speed.specs.declared.repeat.TheConstants.{KEY, BEHIND_CODE}
use Rattle.fk_speed.proofs.Iterates.{iterate-step}
use Rattle.fk_speed.proofs.repeat.last_keyed_mac.Goals as goal

pub loop-preserved : goal.loop-preserved
loop-preserved c =
    sym (iterate-step (λ code. hmac HashKind.Sha256 KEY (code ++ BEHIND_CODE)) c.args.count c.loop.counter c.loop.code c.mac.new.out c.loop-test.true
    (c.mac.ensures HashKind.Sha256 KEY c.new-key.ensures ∙ ap (λ code. hmac HashKind.Sha256 KEY (code ++ BEHIND_CODE)) c.as_slice.ensures.value))
    ∙ c.loop.invariant
