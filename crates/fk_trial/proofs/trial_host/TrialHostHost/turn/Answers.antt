use Rattle.fk_trial.proofs.HostCalls.{kept-turn}
use Rattle.fk_trial.proofs.trial_host.TrialHostHost.turn.Goals as goal

pub invariant_of-self : goal.invariant_of-self
invariant_of-self c = kept-turn c.args.number c.self.inside.host c.turn.new.self c.turn.ensures.state c.self.invariant
