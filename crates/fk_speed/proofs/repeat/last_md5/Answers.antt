use Rattle.std.proofs.Common.{◌∙◌, sym}
use Rattle.md5.specs.Md5.{md5}
use Rattle.fk_speed.proofs.Iterates.{iterate-step}
use Rattle.fk_speed.proofs.repeat.last_md5.Goals as goal

pub loop-preserved : goal.loop-preserved
loop-preserved c =
    sym (iterate-step md5 c.args.count c.loop.counter c.loop.digest c.md5_of-digest.result c.loop-test.true c.md5_of-digest.ensures)
    ∙ c.loop.invariant
