use Rattle.fk_codec.proofs.Law.{decoded_iff}
use Rattle.fk_codec.proofs.laws.plaintexts_are_decoded.Goals as goal

pub returns : goal.returns
returns c = decoded_iff
