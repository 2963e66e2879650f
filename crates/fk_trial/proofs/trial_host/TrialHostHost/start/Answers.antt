use Rattle.fk_trial.proofs.HostCalls.{kept-start}
use Rattle.fk_trial.proofs.trial_host.TrialHostHost.start.Goals as goal

pub invariant_of-self : goal.invariant_of-self
invariant_of-self c =
    kept-start c.args.purpose c.args.words.now c.start.result c.self.inside.host c.start.new.self c.start.ensures.answer c.start.ensures.state c.self.invariant
