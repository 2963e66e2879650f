use Rattle.std.proofs.Common.{inr}
use Rattle.fk_subst.proofs.Pieces.{one_template}
use Rattle.fk_subst.proofs.Templates.{no_fault}
use Rattle.fk_subst.proofs.Whether.{is_template-faultless, is_template-fault}
use Rattle.fk_subst.proofs.template.split.Goals as goal

pub returns-in-Some-clause-right : goal.returns-in-Some-clause-right
returns-in-Some-clause-right c = λ template is. absurd (no_fault c.args.text.now template c.in-Some.fault is c.in-Some.ensures)

pub returns-in_ok-cut_words-in-None-clause-right : goal.returns-in_ok-cut_words-in-None-clause-right
returns-in_ok-cut_words-in-None-clause-right c = λ template is.
    one_template _ template _ c.in_ok-cut_words-in-None.ensures.words is.words

pub returns-in-Some-clause-whether : goal.returns-in-Some-clause-whether
returns-in-Some-clause-whether c = inr (is_template-fault c.args.text.now c.in-Some.fault c.in-Some.ensures)

pub returns-in_ok-cut_words-in-None-clause-whether : goal.returns-in_ok-cut_words-in-None-clause-whether
returns-in_ok-cut_words-in-None-clause-whether c = is_template-faultless c.args.text.now c.in-None.ensures
