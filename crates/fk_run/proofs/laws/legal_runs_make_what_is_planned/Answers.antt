use Rattle.fk_run.proofs.Makes.{makes-planned}
use Rattle.fk_run.proofs.laws.legal_runs_make_what_is_planned.Goals as goal

pub returns : goal.returns
returns c = λ run legal. makes-planned run legal
