use Rattle.fk_memory.proofs.Unscripted.{starts, polls, stays, turns, ends}
use Rattle.fk_memory.proofs.laws.unscripted_children_end_well.Goals as goal

pub returns : goal.returns
returns c = record { starts = starts; polls = polls; stays = stays; turns = turns; ends = ends }
