use Rattle.std.proofs.Common.{length}
use Rattle.fk_turn.specs.Daemon.{scene_by}
use Rattle.fk_turn.specs.contracts.daemon.Daemon.{the_view}
use Rattle.fk_turn.proofs.Parting.{KeepsSettling}
use Rattle.fk_turn.proofs.daemon.Daemon.settle.Given as goal

-- the records so far are settled, and told so
abbrev pub invariant-loop-id : goal.invariant-loop-id
invariant-loop-id g l =
    let at = scene_by g.H.Disk g.K.Sink in
    KeepsSettling l.moment (at (the_view l.initial.self-inside) l.initial.host l.initial.log l.initial.out) (at (the_view l.self-inside) l.host l.log l.out)

abbrev pub decreases-loop-id : goal.decreases-loop-id
decreases-loop-id g l = length l.self-inside.crew.unsettled
