use Rattle.fk_cycle.proofs.StandsLemmas.{Stands-turn}
use Rattle.fk_cycle.proofs.machine.Machine.turn.Goals as goal

pub returns-clause-stands : goal.returns-clause-stands
returns-clause-stands c =
    λ past ends live stands number moments faults. rw c.note_turn.ensures.kept (Stands-turn c.args.self.now.kept past ends live stands number moments faults)
