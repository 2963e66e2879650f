use Rattle.std.proofs.Common.{◌≡◌, None, drop}
use Rattle.fk_words.specs.Operands.{operand_fault_at}
use Rattle.fk_words.specs.WordFaults.{first_fault_at}
use Rattle.fk_words.proofs.operand_walk.first_operand_fault.Given as goal

abbrev pub invariant-loop-at : goal.invariant-loop-at
invariant-loop-at l = first_fault_at (operand_fault_at l.operands (drop 1 l.words)) l.at ≡ None
