use Rattle.fk_packet.proofs.Law.{one_list}
use Rattle.fk_packet.proofs.laws.one_packet.Goals as goal

pub returns : goal.returns
returns c = one_list
