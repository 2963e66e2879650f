use Rattle.fk_cycle.proofs.StandsLemmas.{Stands-began}
use Rattle.fk_cycle.proofs.machine.Machine.begun.Goals as goal

pub returns-clause-stands : goal.returns-clause-stands
returns-clause-stands c =
    λ past ends live stands number below words moments faults.
    rw c.note_begun.ensures.kept (Stands-began c.args.self.now.kept past ends live stands c.args.purpose c.requires number below words moments faults)
