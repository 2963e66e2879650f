use Rattle.fk_fields.proofs.MessageParts.{pairs_first, pairs_next, part_fault}
use Rattle.fk_fields.proofs.message.read_pairs.Goals as goal

pub loop-part-init : goal.loop-part-init
loop-part-init c = pairs_first c.args.parts _ _ _ _ c.in-Some-find_pair.ensures c.in-Some.ensures c.one-pairs.ensures

pub returns-in-Err : goal.returns-in-Err
returns-in-Err c =
    part_fault c.args.parts c.loop-part.pairs _ _ c.loop-part.rest c.in-Err.fault c.push_part.ensures.before c.in-Some-next.ensures c.in-Err.ensures.err c.loop-part.invariant

pub loop-part-preserved : goal.loop-part-preserved
loop-part-preserved c =
    pairs_next c.args.parts c.loop-part.pairs c.push_part.new.pairs _ _ c.loop-part.rest c.in-Some-next.ensures c.in_default-push_part.ensures.ok c.loop-part.invariant
