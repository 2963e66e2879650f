use Rattle.fk_child.proofs.Turns.{attempts-each}
use Rattle.fk_child.proofs.laws.due_closes_are_attempted_in_order.Goals as goal

pub returns : goal.returns
returns c = λ moment place items is untried turn. attempts-each moment place items is untried turn
