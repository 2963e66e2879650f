use Rattle.fk_packet.proofs.Law.{opened_under_iff}
use Rattle.fk_packet.proofs.laws.datagrams_are_opened.Goals as goal

pub returns : goal.returns
returns c = opened_under_iff
