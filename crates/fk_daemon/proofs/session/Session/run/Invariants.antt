use Rattle.std.proofs.Common.{◌≡◌, ◌-◌, List}
use Rattle.fk_trace.specs.declared.change.Change.{Change}
use Rattle.fk_run.specs.Turn.{TakenTurn}
use Rattle.fk_run.specs.Ending.{turn_limit}
use Rattle.fk_daemon.specs.Sessions.{Begins, standing_by}
use Rattle.fk_daemon.proofs.Going.{Going}
use Rattle.fk_daemon.proofs.session.Session.run.Given as goal

abbrev pub invariant-loop-buffer : goal.invariant-loop-buffer
invariant-loop-buffer g l =
    let at = standing_by g.E.Feed g.H.Disk g.K.Sink in
    (ledger : List Change) → Begins l.task ledger (at l.fn.self l.fn.feed l.fn.host l.fn.out)
    → (turns : List TakenTurn) × Going l.task ledger turns (at l.fn.self l.fn.feed l.fn.host l.fn.out) (at l.self l.feed l.host l.out)
    × (g.E.Feed.faults l.feed ≡ g.E.Feed.faults l.fn.feed)

abbrev pub decreases-loop-buffer : goal.decreases-loop-buffer
decreases-loop-buffer g l = turn_limit l.task.limits - l.self.turns
