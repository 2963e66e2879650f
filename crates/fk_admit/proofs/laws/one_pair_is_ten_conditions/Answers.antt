use Rattle.fk_admit.proofs.OnePair.{one_pair}
use Rattle.fk_admit.proofs.laws.one_pair_is_ten_conditions.Goals as goal

pub returns : goal.returns
returns c = one_pair
