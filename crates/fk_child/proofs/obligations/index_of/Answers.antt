use Rattle.std.proofs.Common.{arith}
use Rattle.fk_child.proofs.obligations.index_of.Goals as goal

pub unreachable-requires : goal.unreachable-requires
unreachable-requires c = c.loop-i.invariant c.requires.0 (let within = c.requires.1 in let out = c.loop-i-test.false in omega arith) c.requires.2
