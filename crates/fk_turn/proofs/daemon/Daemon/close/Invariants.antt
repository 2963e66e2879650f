use Rattle.fk_turn.specs.Daemon.{scene_by}
use Rattle.fk_turn.proofs.Closing.{KeepsClosing, untried}
use Rattle.fk_turn.proofs.Finishing.{passing}
use Rattle.fk_turn.proofs.daemon.Daemon.close.Given as goal

-- the closes so far were attempted, and told so
abbrev pub invariant-loop-tried : goal.invariant-loop-tried
invariant-loop-tried g l =
    let at = scene_by g.H.Disk g.K.Sink in
    KeepsClosing l.moment (at l.initial.self l.initial.host l.initial.log l.initial.out) (at l.self l.host l.log l.out)

-- each attempt leaves fewer records of which no close was tried
abbrev pub decreases-loop-tried : goal.decreases-loop-tried
decreases-loop-tried g l = passing untried l.self.crew.kept
