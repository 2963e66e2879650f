use Rattle.fk_host.specs.Host.{brought_by_poll}
use Rattle.fk_memory.proofs.HostCalls.{calls_above, disk_same, poll_above}
use Rattle.fk_memory.proofs.host.MemHostHost.poll.Goals as goal

pub returns : goal.returns
returns c =
    let old = c.args.self.now in
    let new = c.ask.new.self in
    let event = brought_by_poll c.args.child.0 c.ask.result in
    let answer = c.ask.ensures.answer in
    let state = c.ask.ensures.state in
    record {
      call = calls_above old new event state;
      above = poll_above old new c.args.child.0 c.ask.result answer state;
      disk = disk_same old new event state;
      answer = answer;
      state = state;
    }
