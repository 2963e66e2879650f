use Rattle.fk_subst.proofs.Values.{IsValue-value_text}
use Rattle.fk_subst.proofs.laws.values_are_plain_bytes.Goals as goal

pub returns : goal.returns
returns c = λ grant var is. (IsValue-value_text grant is var).bytes
