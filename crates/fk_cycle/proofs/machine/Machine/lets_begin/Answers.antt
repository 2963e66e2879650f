use Rattle.fk_cycle.proofs.StandsLemmas.{open-begins, close-begins}
use Rattle.fk_cycle.proofs.machine.Machine.lets_begin.Goals as goal

pub returns-clause-open : goal.returns-clause-open
returns-clause-open c = λ past ends live stands id owed opens closes. open-begins c.args.self.now.kept past ends live stands id owed opens closes

pub returns-clause-close : goal.returns-clause-close
returns-clause-close c = λ past ends live stands id owed closes. close-begins c.args.self.now.kept past ends live stands id owed closes
