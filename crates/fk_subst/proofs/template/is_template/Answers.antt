use Rattle.std.proofs.Common.{sym}
use Rattle.fk_subst.proofs.Whether.{is_template-fault, is_template-faultless}
use Rattle.fk_subst.proofs.template.is_template.Goals as goal

pub returns-in-None : goal.returns-in-None
returns-in-None c = sym (is_template-faultless c.args.text.now c.in-None.ensures)

pub returns-in-Some : goal.returns-in-Some
returns-in-Some c = sym (is_template-fault c.args.text.now _ c.in-Some.ensures)
