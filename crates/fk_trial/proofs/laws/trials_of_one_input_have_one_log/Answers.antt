use Rattle.fk_trial.proofs.OneLog.{one-log}
use Rattle.fk_trial.proofs.laws.trials_of_one_input_have_one_log.Goals as goal

pub returns : goal.returns
returns c = one-log
