use Rattle.fk_host.specs.Host.{brought_by_start}
use Rattle.fk_memory.proofs.HostCalls.{calls_above, disk_same, start_above, start_number}
use Rattle.fk_memory.proofs.host.MemHostHost.start.Goals as goal

pub returns : goal.returns
returns c =
    let old = c.args.self.now in
    let new = c.begin.new.self in
    let event = brought_by_start c.args.purpose c.args.words.now c.begin.result in
    let answer = c.begin.ensures.answer in
    let state = c.begin.ensures.state in
    record {
      number = start_number old new.is_short c.begin.result answer;
      call = calls_above old new event state;
      above = start_above old new c.args.purpose c.args.words.now c.begin.result answer state;
      disk = disk_same old new event state;
      answer = answer;
      state = state;
    }
