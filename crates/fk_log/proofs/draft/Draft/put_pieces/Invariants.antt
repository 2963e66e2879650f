use Rattle.std.proofs.Common.{Ok, take}
use Rattle.fk_log.specs.Private.{Puts, desk, text_of_pieces}
use Rattle.fk_log.proofs.draft.Draft.put_pieces.Given as goal

abbrev pub invariant-loop-piece : goal.invariant-loop-piece
invariant-loop-piece g l =
    Puts {T = Unit {0}} (text_of_pieces (take l.piece-index l.pieces)) (Ok tt)
    (desk l.initial.self (g.K.Sink.written l.initial.out) (g.K.Sink.faults l.initial.out))
    (desk l.self (g.K.Sink.written l.out) (g.K.Sink.faults l.out))
