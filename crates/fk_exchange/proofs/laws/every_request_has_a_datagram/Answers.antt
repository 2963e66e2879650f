use Rattle.fk_exchange.proofs.Sent.{datagram_of_request}
use Rattle.fk_exchange.proofs.laws.every_request_has_a_datagram.Goals as goal

pub returns : goal.returns
returns c = datagram_of_request
