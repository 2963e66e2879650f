use Rattle.fk_cbc.proofs.SealedBytes.{IsBytes-sealed, length-sealed}
use Rattle.fk_cbc.proofs.opening.sealed_bytes_have_len.Goals as goal

pub returns-clause-len : goal.returns-clause-len
returns-clause-len c = length-sealed

pub returns-clause-bytes : goal.returns-clause-bytes
returns-clause-bytes c = IsBytes-sealed
