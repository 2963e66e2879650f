use Rattle.std.proofs.Common.{arith}
use Rattle.fk_memory.proofs.Sources.{copied-taken, none_left}
use Rattle.fk_memory.proofs.source.MemSourceSource.read.Goals as goal

pub returns-clause-taken : goal.returns-clause-taken
returns-clause-taken c =
    rw (← c.self.view_is, ← c.deref.ensures.value)
    (copied-taken c.deref.result.now _ c.copy_from_slice.new.self c.self.inside.given c.min-count.result
    c.copy_from_slice.ensures.after (omega arith))

pub returns-clause-end : goal.returns-clause-end
returns-clause-end c =
    rw (← c.self.view_is, ← c.deref.ensures.value)
    (none_left c.deref.result.now c.self.inside.given c.min.result c.min-count.result c.min-count.ensures (omega arith))
