use Rattle.fk_cbc.specs.KeyDerivation.{chained_digest}
use Rattle.fk_cbc.proofs.KeyLemmas.{cipher_key-is, initial_vector-is}
use Rattle.fk_cbc.proofs.derivation.derive.Goals as goal

pub returns-clause-cipher_key : goal.returns-clause-cipher_key
unfolding chained_digest
returns-clause-cipher_key c = rw cipher_key-is cc

pub returns-clause-initial_vector : goal.returns-clause-initial_vector
unfolding chained_digest
returns-clause-initial_vector c = rw initial_vector-is cc
