use Rattle.fk_packet.proofs.TextLetters.{first_other_is}
use Rattle.fk_packet.proofs.packet_shape.first_other.Goals as goal

pub returns-else-are_letters : goal.returns-else-are_letters
returns-else-are_letters c = first_other_is c.args.bytes.now c.first_bad_byte.result c.first_bad_byte.ensures
