use Rattle.std.proofs.Common.{◌≡◌, take}
use Rattle.fk_log.specs.Line.{words_text}
use Rattle.fk_tool.proofs.writing.words_text.Given as goal

abbrev pub invariant-loop-at : goal.invariant-loop-at
invariant-loop-at l = l.text ≡ words_text (take l.at l.words)
