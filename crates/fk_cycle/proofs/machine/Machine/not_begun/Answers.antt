use Rattle.fk_cycle.proofs.StandsLemmas.{Stands-not_begun}
use Rattle.fk_cycle.proofs.machine.Machine.not_begun.Goals as goal

pub returns-clause-stands : goal.returns-clause-stands
returns-clause-stands c =
    λ past ends live stands words moments faults.
    rw c.note_not_begun.ensures.kept (Stands-not_begun c.args.self.now.kept past ends live stands c.args.purpose words moments faults)
