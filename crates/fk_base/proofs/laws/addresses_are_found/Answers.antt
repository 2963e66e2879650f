use Rattle.fk_base.proofs.FoundValues.{ip_in_iff}
use Rattle.fk_base.proofs.laws.addresses_are_found.Goals as goal

pub returns : goal.returns
returns c = ip_in_iff
