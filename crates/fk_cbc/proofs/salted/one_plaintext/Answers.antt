use Rattle.fk_cbc.proofs.SealLemmas.{plaintext-same}
use Rattle.fk_cbc.proofs.salted.one_plaintext.Goals as goal

pub returns : goal.returns
returns c = plaintext-same
