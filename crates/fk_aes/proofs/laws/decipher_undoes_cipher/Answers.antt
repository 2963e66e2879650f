use Rattle.fk_aes.proofs.CipherLaws.{HasBytes-cipher, decipher-cipher}
use Rattle.fk_aes.proofs.laws.decipher_undoes_cipher.Goals as goal

pub returns : goal.returns
returns c = record { bytes = HasBytes-cipher; back = decipher-cipher }
