use Rattle.fk_values.proofs.NetsFound.{net_is_text, text_is_net}
use Rattle.fk_values.proofs.net.nets_are_found.Goals as goal

pub returns : goal.returns
returns c = λ text. (net_is_text text, text_is_net text)
