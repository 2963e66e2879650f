use Rattle.fk_run.proofs.Histories.{history-next, left-last}
use Rattle.fk_run.proofs.history.histories_go_on.Goals as goal

pub returns-clause-next : goal.returns-clause-next
returns-clause-next c = λ found history visit is next found_it. history-next found history visit is next found_it

pub returns-clause-end : goal.returns-clause-end
returns-clause-end c = λ found history visit. left-last found history visit
