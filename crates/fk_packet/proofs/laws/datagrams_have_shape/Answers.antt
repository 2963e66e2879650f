use Rattle.fk_packet.proofs.Law.{shape_packed}
use Rattle.fk_packet.proofs.laws.datagrams_have_shape.Goals as goal

pub returns : goal.returns
returns c = shape_packed
