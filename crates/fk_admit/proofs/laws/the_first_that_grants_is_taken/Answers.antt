use Rattle.fk_admit.proofs.FirstOfAll.{first_of_all, is_first_of_all}
use Rattle.fk_admit.proofs.laws.the_first_that_grants_is_taken.Goals as goal

pub returns : goal.returns
returns c = λ access arrival grant. (first_of_all access arrival grant, is_first_of_all access arrival grant)
