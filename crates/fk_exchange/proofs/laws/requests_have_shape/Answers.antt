use Rattle.fk_exchange.proofs.Shapes.{sent_shape}
use Rattle.fk_exchange.proofs.laws.requests_have_shape.Goals as goal

pub returns : goal.returns
returns c = sent_shape
