use Rattle.fk_run.proofs.Leaves.{leaves-ledger}
use Rattle.fk_run.proofs.laws.legal_runs_leave_a_ledger.Goals as goal

pub returns : goal.returns
returns c = λ run legal is. leaves-ledger run legal is
