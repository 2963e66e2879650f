use Rattle.std.proofs.Common.{map}
use Rattle.fk_cycle.specs.Kept.{noted_ended}
use Rattle.fk_cycle.proofs.TimedLemmas.{dues-noted, due-ended}
use Rattle.fk_cycle.proofs.DuesLemmas.{HasPassed-none}
use Rattle.fk_cycle.proofs.machine.Machine.note_ended.Goals as goal

pub invariant_of-self : goal.invariant_of-self
invariant_of-self c =
    rw (c.ended.ensures.kept, c.look_again.ensures) (record {
      timed = rw (dues-noted (noted_ended c.args.purpose c.args.good c.args.moment) (due-ended c.args.purpose c.args.good c.args.moment) c.self.inside.records.kept) c.self.invariant.timed;
      passed = HasPassed-none c.self.inside.dues.at (map (noted_ended c.args.purpose c.args.good c.args.moment) c.self.inside.records.kept) c.self.inside.dues.come;
    })
