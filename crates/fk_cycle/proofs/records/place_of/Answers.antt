use Rattle.fk_cycle.proofs.RecordLemmas.{placed, unplaced}
use Rattle.fk_cycle.proofs.records.place_of.Goals as goal

pub returns-clause-some : goal.returns-clause-some
returns-clause-some c = placed c.args.id c.args.kept.now c.place_by_walk.result c.place_by_walk.ensures

pub returns-clause-none : goal.returns-clause-none
returns-clause-none c = unplaced c.args.id c.args.kept.now c.place_by_walk.result c.place_by_walk.ensures
