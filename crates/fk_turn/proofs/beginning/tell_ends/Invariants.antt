use Rattle.std.proofs.Common.{map, take}
use Rattle.fk_log.specs.Writing.{Logs, output}
use Rattle.fk_turn.specs.Parts.{end_line}
use Rattle.fk_turn.proofs.beginning.tell_ends.Given as goal

-- the lines of the ends so far are in the log
abbrev pub invariant-loop-end : goal.invariant-loop-end
invariant-loop-end g l =
    Logs (map (end_line l.moment) (take l.end-index l.ends)) (output l.initial.log (g.K.Sink.written l.initial.out) (g.K.Sink.faults l.initial.out))
    (output l.log (g.K.Sink.written l.out) (g.K.Sink.faults l.out))
