use Rattle.std.proofs.Common.{false}
use Rattle.fk_log.specs.Printing.{sink_by}
use Rattle.fk_tool.specs.Generated.{IsGeneratedText}
use Rattle.fk_tool.specs.Lines.{PrintsLines}
use Rattle.fk_tool.proofs.generating.generate.Given as goal

abbrev pub invariant-loop-number : goal.invariant-loop-number
invariant-loop-number g l =
    let at = sink_by g.K.Sink in
    PrintsLines IsGeneratedText l.number false (at l.initial.out) (at l.out)
