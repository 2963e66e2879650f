use Rattle.std.proofs.Common.{refl, map}
use Rattle.fk_cycle.specs.Kept.{noted_turn}
use Rattle.fk_cycle.proofs.TimedLemmas.{dues-noted}
use Rattle.fk_cycle.proofs.DuesLemmas.{HasPassed-none}
use Rattle.fk_cycle.proofs.machine.Machine.note_turn.Goals as goal

pub invariant_of-self : goal.invariant_of-self
invariant_of-self c =
    rw (c.turn.ensures.kept, c.look_again.ensures) (record {
      timed = rw (dues-noted noted_turn (λ kept. refl) c.self.inside.records.kept) c.self.invariant.timed;
      passed = HasPassed-none c.self.inside.dues.at (map noted_turn c.self.inside.records.kept) c.self.inside.dues.come;
    })
