use Rattle.std.proofs.Common.{subst, refl}
use Rattle.fk_child.specs.Crew.{CrewState, on_host}
use Rattle.fk_child.specs.Calls.{AtEach, MarksTurn}
use Rattle.fk_child.specs.Private.{state_of}
use Rattle.fk_child.proofs.Ties.{marks-turn}
use Rattle.fk_child.proofs.crew.Crew.turn.Goals as goal

pub returns-clause-marks : goal.returns-clause-marks
returns-clause-marks g c =
    let on = on_host g.H.Disk in
    let crew' : CrewState = record (state_of c.self.inside) { kept = c.turn-2.new.self.kept } in
    subst (λ (s : CrewState). AtEach (MarksTurn c.args.number) (on s c.args.host.now) (on crew' c.turn.new.self)) c.self.view_is
    (λ place at. marks-turn c.args.number place (state_of c.self.inside) crew' (on crew' c.args.host.now).host (on crew' c.turn.new.self).host
    c.turn.ensures.call c.turn.ensures.disk c.turn.ensures.above refl refl refl
    (c.turn-2.ensures.stands _ _ _ at.tied.stands _ _ _) at)
