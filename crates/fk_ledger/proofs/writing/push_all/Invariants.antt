use Rattle.std.proofs.Common.{◌≡◌, ◌++◌, take, vec_capacity}
use Rattle.fk_ledger.proofs.writing.push_all.Given as goal

abbrev pub invariant-loop-byte : goal.invariant-loop-byte
invariant-loop-byte l =
    (l.buffer.items ≡ l.fn.buffer.items ++ take l.byte-index l.bytes) × (vec_capacity l.buffer ≡ vec_capacity l.fn.buffer)
