use Rattle.std.proofs.Common.{◌≡◌, None}
use Rattle.fk_words.specs.WordFaults.{fault_at, first_fault_at}
use Rattle.fk_words.proofs.word_walk.words_fault.Given as goal

abbrev pub invariant-loop-at : goal.invariant-loop-at
invariant-loop-at l = first_fault_at (fault_at l.tool l.words) l.at ≡ None
