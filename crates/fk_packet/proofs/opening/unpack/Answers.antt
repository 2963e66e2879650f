use Rattle.fk_packet.proofs.Answered.{every_field, no_shape, packed_fields}
use Rattle.fk_packet.proofs.opening.unpack.Goals as goal

pub returns-in_err-shape-clause-every : goal.returns-in_err-shape-clause-every
returns-in_err-shape-clause-every g c = λ fields packs. absurd (no_shape c.args.keys.now fields c.args.datagram.now c.in_err-shape.field-0.0 c.in_err-shape.ensures packs)

pub returns-clause-packed : goal.returns-clause-packed
returns-clause-packed g c = packed_fields c.args.keys.now c.args.datagram.now c.open_under.result c.open_under.ensures.fault

pub returns-clause-every : goal.returns-clause-every
returns-clause-every g c = λ fields packs. every_field c.args.keys.now fields c.args.datagram.now c.open_under.result c.open_under.ensures.fault packs
