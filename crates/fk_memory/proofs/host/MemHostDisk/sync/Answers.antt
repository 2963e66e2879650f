use Rattle.fk_memory.proofs.DiskCalls.{sync_ok, sync_err, leaves_host, has_cause}
use Rattle.fk_memory.specs.Host.{fails_next}
use Rattle.fk_memory.specs.declared.host.Call.TheVariants.{Sync as Syncs}
use Rattle.fk_memory.proofs.host.MemHostDisk.sync.Goals as goal

pub returns : goal.returns
returns c =
    let old = c.args.self.now in
    let new = c.settle.new.self in
    let failed = fails_next old in
    let says = c.settle.ensures.result in
    let state = c.settle.ensures.state in
    record {
      ok = sync_ok old new c.args.area failed c.settle.result says state;
      err = sync_err old new c.args.area failed c.settle.result says state;
      host = leaves_host old new (Syncs c.args.area failed) failed state;
      cause = has_cause old new (Syncs c.args.area failed) failed c.settle.result says state;
      result = says;
      state = state;
    }
