use Rattle.std.proofs.Common.{IsTrue, sym, subst}
use Rattle.fk_host.specs.Host.{is_running}
use Rattle.fk_memory.specs.Host.{HostState, above_of}
use Rattle.fk_trial.proofs.HostCalls.{kept-poll}
use Rattle.fk_trial.proofs.trial_host.TrialHostHost.poll.Goals as goal

pub invariant_of-self : goal.invariant_of-self
invariant_of-self c =
    let runs : IsTrue (is_running c.args.child.0 (above_of c.self.inside.host)) =
    subst (λ (host : HostState). IsTrue (is_running c.args.child.0 (above_of host))) (sym c.self.view_is) c.requires in
    kept-poll c.args.child.0 c.poll.result c.self.inside.host c.poll.new.self runs c.poll.ensures.answer c.poll.ensures.state c.self.invariant
