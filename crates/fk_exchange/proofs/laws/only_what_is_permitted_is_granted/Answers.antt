use Rattle.fk_exchange.proofs.Permitted.{permitted}
use Rattle.fk_exchange.proofs.laws.only_what_is_permitted_is_granted.Goals as goal

pub returns : goal.returns
returns c = permitted
