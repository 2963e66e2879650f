use Rattle.std.proofs.Common.{arith}
use Rattle.fk_text.proofs.Rest.{whole_rest}
use Rattle.fk_text.proofs.Faults.{loose_two, loose_three}
use Rattle.fk_text.proofs.letter.has_loose_bits.Goals as goal

pub returns-in-2 : goal.returns-in-2
returns-in-2 c = loose_two c.args.text.now _ (omega arith) c.letter_number.ensures

pub returns-in-3 : goal.returns-in-3
returns-in-3 c = loose_three c.args.text.now _ (omega arith) c.letter_number-in-3.ensures

pub returns-in_default : goal.returns-in_default
returns-in_default c =
    let h = c.requires in
    whole_rest c.args.text.now (omega arith)
