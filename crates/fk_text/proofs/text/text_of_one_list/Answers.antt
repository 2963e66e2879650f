use Rattle.fk_text.proofs.Right as Right
use Rattle.fk_text.proofs.text.text_of_one_list.Goals as goal

pub returns : goal.returns
returns c = Right.text_of_one_list
