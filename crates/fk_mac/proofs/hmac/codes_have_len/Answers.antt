use Rattle.fk_mac.specs.Hmac.{hash_of, hmac}
use Rattle.fk_mac.proofs.Lengths.{length-hash_of, length-hmac, length-text}
use Rattle.fk_mac.proofs.hmac.codes_have_len.Goals as goal

pub returns-clause-hash : goal.returns-clause-hash
returns-clause-hash c = length-hash_of

pub returns-clause-hash_text : goal.returns-clause-hash_text
returns-clause-hash_text c = λ kind message. length-text kind (hash_of kind message) (length-hash_of kind message)

pub returns-clause-mac : goal.returns-clause-mac
returns-clause-mac c = length-hmac

pub returns-clause-mac_text : goal.returns-clause-mac_text
returns-clause-mac_text c = λ kind key message. length-text kind (hmac kind key message) (length-hmac kind key message)
