use Rattle.fk_cycle.proofs.StandsLemmas.{runs-kept}
use Rattle.fk_cycle.proofs.machine.Machine.keeps_what_runs.Goals as goal

pub returns : goal.returns
returns c = λ past ends live stands child runs. runs-kept c.args.self.now.kept past ends live stands child runs
