use Rattle.fk_memory.proofs.DiskCalls.{cut_ok, cut_err, leaves_host, has_cause}
use Rattle.fk_memory.specs.Host.{fails_next, done_next}
use Rattle.fk_memory.specs.declared.host.Call.TheVariants.{Cut as Cuts}
use Rattle.fk_memory.proofs.host.MemHostDisk.cut.Goals as goal

pub returns : goal.returns
returns c =
    let old = c.args.self.now in
    let new = c.shorten.new.self in
    let failed = fails_next old in
    let done = done_next old in
    let says = c.shorten.ensures.result in
    let state = c.shorten.ensures.state in
    record {
      ok = cut_ok old new c.args.area c.args.len failed done c.shorten.result says state;
      err = cut_err old new c.args.area c.args.len failed done c.shorten.result says state;
      host = leaves_host old new (Cuts c.args.area c.args.len failed done) failed state;
      cause = has_cause old new (Cuts c.args.area c.args.len failed done) failed c.shorten.result says state;
      result = says;
      state = state;
    }
