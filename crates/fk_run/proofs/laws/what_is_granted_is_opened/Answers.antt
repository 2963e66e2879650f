use Rattle.fk_trace.proofs.Grants.{granted-opens, opens-granted}
use Rattle.fk_run.proofs.laws.what_is_granted_is_opened.Goals as goal

pub returns-clause-opened : goal.returns-clause-opened
returns-clause-opened c = λ rules ledger turn item changes words granted. opens-granted rules ledger turn item changes words granted

pub returns-clause-granted : goal.returns-clause-granted
returns-clause-granted c = λ rules ledger turn item permit changes opens. granted-opens item permit changes rules ledger turn opens
