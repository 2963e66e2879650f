use Rattle.fk_cycle.proofs.DueLemmas.{is_due-began, is_due-not_begun}
use Rattle.fk_cycle.proofs.machine.Machine.tries_each_once.Goals as goal

pub returns-clause-began : goal.returns-clause-began
returns-clause-began c =
    λ past ends live stands id may number below words owed held moments faults moment.
    is_due-began c.args.self.now.kept past ends live stands id may number below words moments faults moment owed held

pub returns-clause-failed : goal.returns-clause-failed
returns-clause-failed c = λ past ends id words owed moments faults moment. is_due-not_begun past ends id words moments faults moment owed
