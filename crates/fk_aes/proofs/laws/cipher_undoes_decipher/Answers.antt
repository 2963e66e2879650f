use Rattle.fk_aes.proofs.CipherLaws.{HasBytes-decipher, cipher-decipher}
use Rattle.fk_aes.proofs.laws.cipher_undoes_decipher.Goals as goal

pub returns : goal.returns
returns c = record { bytes = HasBytes-decipher; back = cipher-decipher }
