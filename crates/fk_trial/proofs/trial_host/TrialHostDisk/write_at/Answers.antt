use Rattle.std.proofs.Common.{length, subst}
use Rattle.std.specs.Prelude.{OnOk}
use Rattle.fk_host.specs.Disk.{Written, Torn, InArea, Calls}
use Rattle.fk_memory.specs.Host.{HostState, told_of, leaves_of}
use Rattle.fk_trial.proofs.trial_host.TrialHostDisk.write_at.Goals as goal

pub returns-clause-ok : goal.returns-clause-ok
returns-clause-ok c =
    subst (λ (host : HostState). OnOk c.write_at.result (Calls told_of leaves_of host c.write_at.new.self (InArea c.args.area (Written c.args.at c.args.bytes.now))
    (InArea c.args.area (Torn c.args.at (length c.args.bytes.now))))) c.self.view_is c.write_at.ensures.ok
