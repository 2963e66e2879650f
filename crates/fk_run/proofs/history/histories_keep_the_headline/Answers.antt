use Rattle.fk_run.proofs.Histories.{visit-in, opens-left, once-history, starts-left, first_due-left, owed-history, leaves-left}
use Rattle.fk_run.proofs.history.histories_keep_the_headline.Goals as goal

pub returns-clause-opens : goal.returns-clause-opens
returns-clause-opens c = λ found history is visit m. opens-left visit (visit-in found history is visit m)

pub returns-clause-once : goal.returns-clause-once
returns-clause-once c = λ found history is. once-history found history is

pub returns-clause-starts : goal.returns-clause-starts
returns-clause-starts c = λ found history is visit m. starts-left visit (visit-in found history is visit m)

pub returns-clause-first_due : goal.returns-clause-first_due
returns-clause-first_due c = λ found history is visit m. first_due-left visit (visit-in found history is visit m)

pub returns-clause-owed : goal.returns-clause-owed
returns-clause-owed c = λ found history is. owed-history found history is

pub returns-clause-ledgers : goal.returns-clause-ledgers
returns-clause-ledgers c = λ found history is visit m. leaves-left visit (visit-in found history is visit m)
