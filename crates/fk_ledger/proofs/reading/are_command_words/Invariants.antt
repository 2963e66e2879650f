use Rattle.std.proofs.Common.{◌≡◌, ◌+◌, length, take}
use Rattle.std.specs.List.{concat, All}
use Rattle.fk_ledger.specs.Private.{IsCommandWord}
use Rattle.fk_ledger.proofs.reading.are_command_words.Given as goal

abbrev pub invariant-loop-at : goal.invariant-loop-at
invariant-loop-at l = (l.room + length (concat (take l.at l.words)) ≡ 12000) × All IsCommandWord (take l.at l.words)
