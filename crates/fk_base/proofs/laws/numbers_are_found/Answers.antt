use Rattle.fk_base.proofs.FoundValues.{number_in_iff}
use Rattle.fk_base.proofs.laws.numbers_are_found.Goals as goal

pub returns : goal.returns
returns c = number_in_iff
