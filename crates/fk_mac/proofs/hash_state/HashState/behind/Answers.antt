use Rattle.fk_mac.specs.MacKey.{HoldsMessage}
use Rattle.fk_mac.proofs.hash_state.HashState.behind.Goals as goal

pub returns-in-Md5 : goal.returns-in-Md5
unfolding HoldsMessage
returns-in-Md5 c = (c.in-Md5.is, c.md5_behind.ensures)

pub returns-in-Sha1 : goal.returns-in-Sha1
unfolding HoldsMessage
returns-in-Sha1 c = (c.in-Sha1.is, c.sha1_behind.ensures)

pub returns-in-Sha256 : goal.returns-in-Sha256
unfolding HoldsMessage
returns-in-Sha256 c = (c.in-Sha256.is, c.sha256_behind.ensures)

pub returns-in-Sha384 : goal.returns-in-Sha384
unfolding HoldsMessage
returns-in-Sha384 c = (c.in-Sha384.is, c.sha384_behind.ensures)

pub returns-in-Sha512 : goal.returns-in-Sha512
unfolding HoldsMessage
returns-in-Sha512 c = (c.in-Sha512.is, c.sha512_behind.ensures)
