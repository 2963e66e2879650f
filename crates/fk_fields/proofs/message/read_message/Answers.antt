use Rattle.fk_fields.proofs.MessageParts.{text_read, message_read, every_message}
use Rattle.fk_fields.proofs.message.read_message.Goals as goal

pub returns-clause-message : goal.returns-clause-message
returns-clause-message c = message_read c.args.text.now c.read_parts.result (text_read c.args.text.now c.read_parts.result (rw c.new.ensures at c.read_parts.ensures))

pub returns-clause-every : goal.returns-clause-every
returns-clause-every c = every_message c.args.text.now c.read_parts.result (text_read c.args.text.now c.read_parts.result (rw c.new.ensures at c.read_parts.ensures))

pub returns-clause-fault : goal.returns-clause-fault
returns-clause-fault c = text_read c.args.text.now c.read_parts.result (rw c.new.ensures at c.read_parts.ensures)
