use Rattle.fk_values.proofs.NetsFound.{no_net_text, text_is_net}
use Rattle.fk_values.proofs.net.find_net.Goals as goal

pub returns-in-Ok : goal.returns-in-Ok
returns-in-Ok c = (text_is_net c.args.text.now (c.in-Ok.net, c.in-Ok.ensures.net), c.in-Ok.ensures.net)

pub returns-in-Err : goal.returns-in-Err
returns-in-Err c = no_net_text c.args.text.now c.in-Err.field-0 c.read_net.result c.in-Err.is c.read_net.ensures.every
