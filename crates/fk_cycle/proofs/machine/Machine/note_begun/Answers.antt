use Rattle.fk_cycle.specs.Kept.{noted_begun}
use Rattle.fk_cycle.proofs.TimedLemmas.{dues-noted, due-begun, id-begun}
use Rattle.fk_cycle.proofs.DuesLemmas.{HasPassed-noted, ready-begun}
use Rattle.fk_cycle.proofs.machine.Machine.note_begun.Goals as goal

pub invariant_of-self : goal.invariant_of-self
invariant_of-self c =
    let dues = c.self.inside.dues in
    rw c.begun.ensures.kept (record {
      timed = rw (dues-noted (noted_begun c.args.purpose) (due-begun c.args.purpose) c.self.inside.records.kept) c.self.invariant.timed;
      passed = HasPassed-noted dues.at (noted_begun c.args.purpose) (id-begun c.args.purpose) (ready-begun c.args.purpose dues.at) c.self.inside.records.kept dues.passed dues.come c.self.invariant.passed;
    })
