use Rattle.fk_log.proofs.Turns.{lines_of_turns-append}
use Rattle.fk_log.proofs.laws.turns_are_logged_in_order.Goals as goal

pub returns : goal.returns
returns c = lines_of_turns-append
