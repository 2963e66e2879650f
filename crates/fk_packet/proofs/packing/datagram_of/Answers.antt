use Rattle.fk_packet.proofs.Answered.{datagram_made}
use Rattle.fk_packet.proofs.packing.datagram_of.Goals as goal

pub returns : goal.returns
returns c =
    datagram_made c.args.keys.now c.as_slice.result.now c.args.text.now c.behind_prefix-rest.result.now c.mac.new.out
    c.in_ok-datagram.datagram c.append.new.self c.put_text.new.out c.as_slice.ensures c.behind_prefix-rest.ensures c.mac.ensures
    c.in_ok-datagram.ensures c.in_ok-append.ensures.ok c.in_ok-put_text.ensures.ok
