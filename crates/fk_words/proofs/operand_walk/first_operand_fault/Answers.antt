use Rattle.std.proofs.Common.{◌<◌, drop, length, sym, arith}
use Rattle.fk_words.specs.Operands.{operand_fault_at}
use Rattle.fk_words.proofs.WordSteps.{drop_one, first_is}
use Rattle.fk_words.proofs.operand_walk.first_operand_fault.Goals as goal

pub returns-in-Some : goal.returns-in-Some
returns-in-Some c =
    let one = drop_one c.args.words.now c.requires in
    let within : c.loop-at.at < length (drop 1 c.args.words.now) = omega arith in
    sym (first_is (operand_fault_at c.args.operands.now (drop 1 c.args.words.now)) c.loop-at.at (length (drop 1 c.args.words.now)) c.in-Some.fault
    c.loop-at.invariant (sym c.in-Some.ensures) within)
