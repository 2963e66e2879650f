use Rattle.fk_codec.proofs.Lengths.{length-plaintext}
use Rattle.fk_codec.proofs.laws.plaintexts_have_len.Goals as goal

pub returns-clause-least : goal.returns-clause-least
returns-clause-least c = λ fields text spells. (length-plaintext fields text spells).0

pub returns-clause-most : goal.returns-clause-most
returns-clause-most c = λ fields text spells. (length-plaintext fields text spells).1
