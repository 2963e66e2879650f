use Rattle.fk_cycle.proofs.StandsLemmas.{is_kept-owed}
use Rattle.fk_cycle.proofs.machine.Machine.keeps_what_is_owed.Goals as goal

pub returns-clause-ids : goal.returns-clause-ids
returns-clause-ids c = λ past ends live stands id. is_kept-owed c.args.self.now.kept past ends live stands id
