use Rattle.fk_run.proofs.Runs.{opens-run, once-run, closes-run, ends-run}
use Rattle.fk_run.proofs.Owed.{starts-owed, starts-first_due}
use Rattle.fk_run.proofs.laws.legal_runs_keep_the_headline.Goals as goal

pub returns-clause-opens : goal.returns-clause-opens
returns-clause-opens c = λ run legal before item later id words placed attempt. opens-run run legal before item later id words placed attempt

pub returns-clause-once : goal.returns-clause-once
returns-clause-once c = λ run legal. once-run run legal

pub returns-clause-closes : goal.returns-clause-closes
returns-clause-closes c = λ run legal before item later id words placed attempt. closes-run run legal before item later id words placed attempt

pub returns-clause-settles : goal.returns-clause-settles
returns-clause-settles c = λ run legal front taken turn id m. ends-run run legal front taken turn id m

pub returns-clause-starts : goal.returns-clause-starts
returns-clause-starts c = λ run legal front taken whole. starts-owed run legal front taken whole

pub returns-clause-first_due : goal.returns-clause-first_due
returns-clause-first_due c = λ run legal is front taken whole item first. starts-first_due run legal is front taken whole item first
