use Rattle.std.proofs.Common.{take}
use Rattle.fk_log.specs.Writing.{Logs, output}
use Rattle.fk_serve.specs.Private.{listed_lines}
use Rattle.fk_serve.proofs.Listed.{blank_log}
use Rattle.fk_serve.proofs.listing.print_live.Given as goal

abbrev pub invariant-loop-change : goal.invariant-loop-change
invariant-loop-change g l =
    Logs (listed_lines l.changes (take l.change-index l.changes)) (output blank_log (g.K.Sink.written l.fn.out) (g.K.Sink.faults l.fn.out))
    (output l.log (g.K.Sink.written l.out) (g.K.Sink.faults l.out))
