use Rattle.std.proofs.Common.{◌≡◌, take}
use Rattle.fk_memory.proofs.trace.copy_words.Given as goal

-- the words so far are copied
abbrev pub invariant-loop-at : goal.invariant-loop-at
invariant-loop-at l = l.copy ≡ take l.at l.words
