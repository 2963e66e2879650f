use Rattle.std.proofs.Common.{◌≡◌, take}
use Rattle.fk_memory.specs.Area.{at_rest, after_calls}
use Rattle.fk_host.specs.Disk.{area_of}
use Rattle.fk_memory.proofs.host.MemHost.replayed.Given as goal

abbrev pub invariant-loop-call : goal.invariant-loop-call
invariant-loop-call l =
    ((after_calls l.fn.area (take l.call-index l.fn.self.calls) (at_rest (area_of l.fn.area l.fn.self.first))).reads ≡ l.reads.items)
    × ((after_calls l.fn.area (take l.call-index l.fn.self.calls) (at_rest (area_of l.fn.area l.fn.self.first))).synced ≡ l.synced.items)
