use Rattle.std.proofs.Common.{Some, None}
use Rattle.fk_text.proofs.Right.{text_without_fault}
use Rattle.fk_text.proofs.Faults.{IsBytes_from, letters_unless}
use Rattle.fk_text.proofs.text.first_text_fault.Goals as goal

pub returns-in-Some : goal.returns-in-Some
returns-in-Some c =
    letters_unless c.args.text.now (Some c.in-Some.at) (IsBytes_from c.args.text.now c.type_inv.text) c.in-Some.ensures

pub returns-then-text-eq1 : goal.returns-then-text-eq1
returns-then-text-eq1 c =
    (letters_unless c.args.text.now None (IsBytes_from c.args.text.now c.type_inv.text) c.in_default.ensures, c.if-text-eq1.true)

pub returns-then-has_loose_bits : goal.returns-then-has_loose_bits
returns-then-has_loose_bits c =
    (letters_unless c.args.text.now None (IsBytes_from c.args.text.now c.type_inv.text) c.in_default.ensures, c.if-text-eq1.false, c.if-has_loose_bits.ensures)

pub returns : goal.returns
returns c =
    text_without_fault c.args.text.now (letters_unless c.args.text.now None (IsBytes_from c.args.text.now c.type_inv.text) c.in_default.ensures) c.if-text-eq1.false c.if-has_loose_bits.ensures
