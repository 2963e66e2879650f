use Rattle.std.proofs.Common.{Ok, take}
use Rattle.fk_log.specs.Line.{words_text}
use Rattle.fk_log.specs.Private.{Puts, desk}
use Rattle.fk_log.proofs.draft.Draft.put_command.Given as goal

abbrev pub invariant-loop-at : goal.invariant-loop-at
invariant-loop-at g l =
    Puts {T = Unit {0}} (words_text (take l.at l.words)) (Ok tt)
    (desk l.fn.self (g.K.Sink.written l.fn.out) (g.K.Sink.faults l.fn.out))
    (desk l.self (g.K.Sink.written l.out) (g.K.Sink.faults l.out))
