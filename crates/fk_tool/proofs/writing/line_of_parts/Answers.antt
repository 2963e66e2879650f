use Rattle.std.proofs.Common.{arith}
use Rattle.fk_tool.proofs.Printed.{parts-next}
use Rattle.fk_tool.proofs.writing.line_of_parts.Goals as goal

pub loop-at-preserved : goal.loop-at-preserved
loop-at-preserved c =
    parts-next (λ part. part.now) c.args.parts.now c.loop-at.at _ c.loop-at.line c.put_part.new.text (omega arith) (omega arith) c.loop-at.invariant c.in_ok-put_part.ensures
