use Rattle.std.proofs.Common.{◌++◌, ◌∙◌, sym}
use Rattle.sha2.specs.Sha256.{sha256}
use Rattle.fk_speed.specs.declared.repeat.TheConstants.{BEHIND_DIGEST}
use Rattle.fk_speed.proofs.Iterates.{iterate-step}
use Rattle.fk_speed.proofs.repeat.last_digest.Goals as goal

pub loop-preserved : goal.loop-preserved
loop-preserved c =
    sym (iterate-step (λ digest. sha256 (digest ++ BEHIND_DIGEST)) c.args.count c.loop.counter c.loop.digest c.digest_of-digest.result c.loop-test.true c.digest_of-digest.ensures)
    ∙ c.loop.invariant
