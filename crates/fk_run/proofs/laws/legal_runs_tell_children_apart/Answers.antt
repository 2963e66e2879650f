use Rattle.fk_run.proofs.Numbers.{means-one}
use Rattle.fk_run.proofs.laws.legal_runs_tell_children_apart.Goals as goal

pub returns : goal.returns
returns c = λ run legal before child past from. means-one run legal before child past from
