use Rattle.std.proofs.Common.{◌≡◌, take, map}
use Rattle.fk_log.specs.Line.{words_text}
use Rattle.fk_tool.proofs.writing.line_of_parts.Given as goal

abbrev pub invariant-loop-at : goal.invariant-loop-at
invariant-loop-at l = l.line ≡ words_text (take l.at (map (λ part. part.now) l.parts))
