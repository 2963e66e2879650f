use Rattle.std.proofs.Common.{false}
use Rattle.fk_log.specs.Printing.{sink_by}
use Rattle.fk_tool.specs.JournalText.{AreShown}
use Rattle.fk_tool.specs.Lines.{PrintsLines}
use Rattle.fk_tool.proofs.journal.show_changes.Given as goal

abbrev pub invariant-loop-change : goal.invariant-loop-change
invariant-loop-change g l =
    let at = sink_by g.K.Sink in
    PrintsLines (AreShown l.changes) l.change-index false (at l.initial.out) (at l.out)
