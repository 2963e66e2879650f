use Rattle.fk_memory.proofs.DiskCalls.{other_called, leaves_host, has_cause, ok_told}
use Rattle.fk_memory.specs.Host.{fails_next}
use Rattle.fk_host.specs.Disk.{area_of}
use Rattle.std.proofs.Common.{◌≡◌, length}
use Rattle.fk_memory.specs.declared.host.Call.TheVariants.{Other}
use Rattle.fk_memory.proofs.host.MemHostDisk.len.Goals as goal

pub returns : goal.returns
returns c =
    let old = c.args.self.now in
    let new = c.measure.new.self in
    let failed = fails_next old in
    let state = c.measure.ensures.state in
    record {
      len = ok_told c.measure.result (λ n areas. n ≡ length (area_of c.args.area areas)) old new failed state c.measure.ensures.len;
      call = other_called old new failed state;
      host = leaves_host old new Other failed state;
      cause = has_cause old new Other failed c.measure.result c.measure.ensures.result state;
      result = c.measure.ensures.result;
      state = state;
    }
