use Rattle.std.proofs.Common.{arith}
use Rattle.fk_tool.proofs.Printed.{words-next}
use Rattle.fk_tool.proofs.writing.words_text.Goals as goal

pub loop-at-preserved : goal.loop-at-preserved
loop-at-preserved c =
    words-next c.args.words.now c.loop-at.at c.get-in-loop-at.result.now c.loop-at.text c.put_part.new.text (omega arith) c.get-in-loop-at.ensures c.loop-at.invariant
    c.in_ok-put_part.ensures
