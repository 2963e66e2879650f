use Rattle.fk_memory.proofs.DiskCalls.{other_called, leaves_host, has_cause, ok_told}
use Rattle.fk_memory.specs.Host.{fails_next}
use Rattle.fk_host.specs.Disk.{area_of}
use Rattle.std.proofs.Common.{◌≡◌, length, take, drop}
use Rattle.fk_memory.specs.declared.host.Call.TheVariants.{Other}
use Rattle.fk_memory.proofs.host.MemHostDisk.read.Goals as goal

pub returns : goal.returns
returns c =
    let old = c.args.self.now in
    let new = c.copy_out.new.self in
    let failed = fails_next old in
    let state = c.copy_out.ensures.state in
    record {
      within = c.copy_out.ensures.within;
      bytes = ok_told c.copy_out.result (λ n areas. take n c.copy_out.new.buf ≡ take (length c.args.buf.now) (drop c.args.at (area_of c.args.area areas))) old new failed state c.copy_out.ensures.bytes;
      call = other_called old new failed state;
      host = leaves_host old new Other failed state;
      cause = has_cause old new Other failed c.copy_out.result c.copy_out.ensures.result state;
      result = c.copy_out.ensures.result;
      state = state;
    }
