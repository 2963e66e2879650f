use Rattle.std.proofs.Common.{Err, ap}
use Rattle.fk_text.proofs.Faults.{FirstTextFault_one, text_has_no_fault, taken_is}
use Rattle.fk_text.proofs.text.take_text.Goals as goal

pub returns-in-Some-clause-right : goal.returns-in-Some-clause-right
returns-in-Some-clause-right c = λ bytes are is. absurd (text_has_no_fault c.args.text.now c.in-Some.fault (bytes, are, is) c.in-Some.ensures)

pub returns-in-Some-clause-refused : goal.returns-in-Some-clause-refused
returns-in-Some-clause-refused c = λ e first. ap Err (FirstTextFault_one c.args.text.now c.in-Some.fault e c.in-Some.ensures first)

pub returns-in-None-clause-right : goal.returns-in-None-clause-right
returns-in-None-clause-right c = λ bytes are is. taken_is c.args.text.now bytes c.take_right_text.result are is c.take_right_text.ensures

pub returns-in-None-clause-refused : goal.returns-in-None-clause-refused
returns-in-None-clause-refused c = λ e first. absurd (text_has_no_fault c.args.text.now e c.in-None.ensures first)
