use Rattle.fk_access.proofs.OneList.{one_list}
use Rattle.fk_access.proofs.laws.one_access_list.Goals as goal

pub returns : goal.returns
returns c = one_list
