use Rattle.std.proofs.Common.{inr}
use Rattle.fk_tool.proofs.input.encode_input.Goals as goal

pub returns-in-Ok : goal.returns-in-Ok
returns-in-Ok g c = inr (c.in-Ok.sealing, c.in-Ok.ensures.0, c.in-Ok.ensures.1, c.answer_input.ensures)
