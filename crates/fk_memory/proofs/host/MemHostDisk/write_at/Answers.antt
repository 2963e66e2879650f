use Rattle.fk_memory.proofs.DiskCalls.{write_ok, write_err, write_within, leaves_host, has_cause}
use Rattle.fk_memory.specs.Host.{fails_next, fails_to_write, done_next}
use Rattle.std.proofs.Common.{◌+◌, length}
use Rattle.fk_memory.specs.declared.host.Call.TheVariants.{Write as Writes}
use Rattle.fk_memory.proofs.host.MemHostDisk.write_at.Goals as goal

pub returns : goal.returns
returns c =
    let old = c.args.self.now in
    let new = c.write.new.self in
    let bytes = c.args.bytes.now in
    let failed = fails_to_write old (c.args.at + length bytes) in
    let done = done_next old in
    let says = c.write.ensures.result in
    let state = c.write.ensures.state in
    record {
      within = write_within old new (c.args.at + length bytes) (fails_next old) c.write.result says;
      ok = write_ok old new c.args.area c.args.at bytes failed done c.write.result c.requires says state;
      err = write_err old new c.args.area c.args.at bytes failed done c.write.result c.requires says state;
      host = leaves_host old new (Writes c.args.area c.args.at bytes failed done) failed state;
      cause = has_cause old new (Writes c.args.area c.args.at bytes failed done) failed c.write.result says state;
      result = says;
      state = state;
    }
