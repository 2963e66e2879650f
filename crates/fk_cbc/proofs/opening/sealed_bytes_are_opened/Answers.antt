use Rattle.fk_cbc.proofs.OpenLemmas.{opened_iff}
use Rattle.fk_cbc.proofs.opening.sealed_bytes_are_opened.Goals as goal

pub returns : goal.returns
returns c = opened_iff
