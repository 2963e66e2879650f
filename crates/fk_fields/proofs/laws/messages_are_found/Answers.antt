use Rattle.fk_fields.proofs.MessageParts.{message_in_iff}
use Rattle.fk_fields.proofs.laws.messages_are_found.Goals as goal

pub returns : goal.returns
returns c = message_in_iff
