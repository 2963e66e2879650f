use Rattle.std.proofs.Common.{Some}
use Rattle.fk_trace.specs.Trace.Event.{Turn}
use Rattle.fk_memory.proofs.HostCalls.{calls_above, disk_same, turn_above, turn_state}
use Rattle.fk_memory.proofs.host.MemHostHost.turn.Goals as goal

pub returns : goal.returns
returns c =
    let old = c.args.self.now in
    let new = c.keep.new.self in
    let state = turn_state old new c.args.number c.keep.ensures.state in
    record {
      call = calls_above old new (Some (Turn c.args.number)) state;
      above = turn_above old new c.args.number state;
      disk = disk_same old new (Some (Turn c.args.number)) state;
      state = state;
    }
