use Rattle.fk_cycle.specs.Kept.{noted_not_begun}
use Rattle.fk_cycle.proofs.TimedLemmas.{dues-noted, due-not_begun, id-not_begun}
use Rattle.fk_cycle.proofs.DuesLemmas.{HasPassed-noted, ready-not_begun}
use Rattle.fk_cycle.proofs.machine.Machine.note_not_begun.Goals as goal

pub invariant_of-self : goal.invariant_of-self
invariant_of-self c =
    let dues = c.self.inside.dues in
    rw c.not_begun.ensures.kept (record {
      timed = rw (dues-noted (noted_not_begun c.args.purpose) (due-not_begun c.args.purpose) c.self.inside.records.kept) c.self.invariant.timed;
      passed = HasPassed-noted dues.at (noted_not_begun c.args.purpose) (id-not_begun c.args.purpose) (ready-not_begun c.args.purpose dues.at) c.self.inside.records.kept dues.passed dues.come c.self.invariant.passed;
    })
