use Rattle.std.proofs.Common.{◌∙◌}
use Rattle.fk_codec.proofs.Values.{message_found}
use Rattle.fk_tool.proofs.encode_line.find_message.Goals as goal

pub returns : goal.returns
returns c = c.ok.ensures.value ∙ message_found c.args.part.now c.read_message.result c.read_message.ensures.fault
