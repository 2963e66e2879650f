use Rattle.fk_values.specs.Values.{items_of}
use Rattle.fk_values.proofs.PairsRead.{pairs_end}
use Rattle.fk_access.proofs.pair_list.read_pairs.Goals as goal

pub returns : goal.returns
returns c = pairs_end 64 (items_of c.args.value.now) c.loop-item.items c.loop-item.pairs c.in_default.ensures.0 c.loop-item.invariant.few c.loop-item.invariant.reading
