use Rattle.fk_trial.proofs.OneLog.{same-trace, same-log}
use Rattle.fk_trial.proofs.laws.trials_are_determined.Goals as goal

pub returns-clause-events : goal.returns-clause-events
returns-clause-events c = same-trace

pub returns-clause-log : goal.returns-clause-log
returns-clause-log c = λ policy verbosity a b ta tb turns ending. same-log policy a b ta tb turns verbosity ending
