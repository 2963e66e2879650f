use Rattle.fk_base.proofs.FoundValues.{pair_in_iff}
use Rattle.fk_base.proofs.laws.pairs_are_found.Goals as goal

pub returns : goal.returns
returns c = pair_in_iff
