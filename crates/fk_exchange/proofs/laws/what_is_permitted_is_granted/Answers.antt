use Rattle.fk_exchange.proofs.Granted.{granted, let_in_first}
use Rattle.fk_exchange.proofs.laws.what_is_permitted_is_granted.Goals as goal

pub returns-clause-grants : goal.returns-clause-grants
returns-clause-grants c = granted

pub returns-clause-admits : goal.returns-clause-admits
returns-clause-admits c = let_in_first
