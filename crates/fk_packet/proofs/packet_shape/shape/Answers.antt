use Rattle.std.proofs.Common.{◌∙◌, sym}
use Rattle.fk_packet.proofs.Answered.{shape_alphabet, shape_rest}
use Rattle.fk_packet.proofs.packet_shape.shape.Goals as goal

pub returns-in-Some : goal.returns-in-Some
returns-in-Some c =
    shape_alphabet c.args.datagram.now c.in-Some.place c.if-datagram-lt-SHORTEST_DATAGRAM.false c.if-datagram-gt-LONGEST_DATAGRAM.false c.in-Some.ensures

pub returns-then-starts_with : goal.returns-then-starts_with
returns-then-starts_with c =
    shape_rest c.args.datagram.now _ c.if-datagram-lt-SHORTEST_DATAGRAM.false c.if-datagram-gt-LONGEST_DATAGRAM.false c.in_default.ensures
    (sym c.starts_with.ensures.value ∙ c.if-starts_with.true)

pub returns : goal.returns
returns c =
    shape_rest c.args.datagram.now _ c.if-datagram-lt-SHORTEST_DATAGRAM.false c.if-datagram-gt-LONGEST_DATAGRAM.false c.in_default.ensures
    (sym c.starts_with.ensures.value ∙ c.if-starts_with.false)
