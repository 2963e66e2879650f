use Rattle.std.proofs.Common.{◌≡◌, suc, ◌≤◌, Option, None, Result, Ok, sym, ap, subst, ◌∙◌}
use Rattle.fk_base.specs.declared.memory.NoMemory.{NoMemory}
use Rattle.fk_run.specs.Place.{Place, behind}
use Rattle.fk_log.specs.Writing.{Output}
use Rattle.fk_child.specs.declared.items.Tried.{Tried}
use Rattle.fk_child.specs.View.{View, view_of}
use Rattle.fk_child.proofs.Images.{adds-none}
use Rattle.fk_child.specs.Crew.{CrewState, CrewHost}
use Rattle.fk_child.specs.Calls.{NoneIsDue, StartsClose}
use Rattle.fk_turn.specs.Daemon.{DaemonState, Scene, scene, RestsSomehow, output_by}
use Rattle.fk_turn.specs.Parts.{AttemptsCloses}
use Rattle.fk_turn.specs.contracts.daemon.Daemon.{the_view}
use Rattle.fk_turn.proofs.Finishing.{passing}
use Rattle.fk_turn.proofs.Parting.{crew_host}
use Rattle.fk_turn.proofs.Closing.{KeepsClosing, untried, closes-none, closes-stands, closing-rests, closes-next, closes-fewer, closes-short}
use Rattle.fk_turn.proofs.daemon.Daemon.close.Goals as goal

pub loop-tried-init : goal.loop-tried-init
loop-tried-init g c =
    let view = view_of g.H.Disk in
    let out = output_by g.K.Sink in
    record {
      rests = c.requires;
      front = λ conf place rest.
          closes-none conf c.args.moment place (scene c.args.self.now (view c.args.host.now) (out c.args.log.now c.args.out.now)) rest
          (adds-none place.ledger (view c.args.host.now) rest.stands.stands.keeps);
    }

pub start_close-requires-clause-settled : goal.start_close-requires-clause-settled
start_close-requires-clause-settled g c =
    ap (λ (d : DaemonState). d.crew.unsettled) c.self.view_is ∙ (closing-rests _ _ _ c.loop-tried.invariant).1.1.settled

pub start_close-requires-clause-stands : goal.start_close-requires-clause-stands
start_close-requires-clause-stands g c =
    let view = view_of g.H.Disk in
    let out = output_by g.K.Sink in
    let rests : RestsSomehow (scene (the_view c.self.inside) (view c.loop-tried.host) (out c.loop-tried.log c.loop-tried.out)) =
    subst (λ (d : DaemonState). RestsSomehow (scene d (view c.loop-tried.host) (out c.loop-tried.log c.loop-tried.out))) (sym c.self.view_is) (closing-rests _ _ _ c.loop-tried.invariant) in
    (rests.1.0, sym rests.1.1.stands.changes, rests.1.1.stands.stands)

pub returns-in_err-tried : goal.returns-in_err-tried
returns-in_err-tried g c =
    let view = view_of g.H.Disk in
    let out = output_by g.K.Sink in
    let s0 : Scene = scene c.args.self.now (view c.args.host.now) (out c.args.log.now c.args.out.now) in
    let h1 : View = view c.loop-tried.host in
    let h2 : View = view c.start_close.new.host in
    let o1 : Output = out c.loop-tried.log c.loop-tried.out in
    let keeps : KeepsClosing c.args.moment s0 (scene (the_view c.self.inside) h1 o1) = subst (λ (d : DaemonState). KeepsClosing c.args.moment s0 (scene d h1 o1)) (sym c.self.view_is) c.loop-tried.invariant in
    λ conf place rest.
    let done = keeps.front conf place rest in
    let at : Place = behind c.args.moment place done.closed in
    let stands = closes-stands conf c.args.moment place s0 (scene (the_view c.self.inside) h1 o1) done in
    let found = c.in_err-tried.ensures.starts at (sym stands.changes) stands.stands in
    closes-short conf c.args.moment place s0 c.self.inside.ledger c.self.inside.turns c.self.inside.crew c.start_close.new.self h1 h2 o1 c.from_residual.result c.from_residual.ensures.0 done found.0
    (found.1 c.args.moment) (ap (λ (w : CrewState). w.unsettled) c.in_err-tried.ensures.rest)

pub loop-tried-smaller : goal.loop-tried-smaller
loop-tried-smaller g c =
    let view = view_of g.H.Disk in
    let out = output_by g.K.Sink in
    let s0 : Scene = scene c.args.self.now (view c.args.host.now) (out c.args.log.now c.args.out.now) in
    let h1 : View = view c.loop-tried.host in
    let h2 : View = view c.start_close.new.host in
    let o1 : Output = out c.loop-tried.log c.loop-tried.out in
    let was : CrewHost = crew_host c.self.inside.crew h1 in
    let now : CrewHost = crew_host c.start_close.new.self h2 in
    let keeps : KeepsClosing c.args.moment s0 (scene (the_view c.self.inside) h1 o1) = subst (λ (d : DaemonState). KeepsClosing c.args.moment s0 (scene d h1 o1)) (sym c.self.view_is) c.loop-tried.invariant in
    let fewer = closes-fewer c.args.moment s0 c.self.inside.ledger c.self.inside.turns c.self.inside.crew c.start_close.new.self h1 h2 o1 c.in-Some.tried keeps
    (λ at same stands. subst (λ (o : Option Tried). StartsClose c.args.moment (Ok o) at was now) c.in-Some.is (c.in_ok-tried.ensures.starts at same stands))
    (ap (λ (w : CrewState). w.unsettled) c.in_ok-tried.ensures.rest) in
    subst (λ (d : DaemonState). suc (passing untried c.start_close.new.self.kept) ≤ passing untried d.crew.kept) c.self.view_is fewer

pub loop-tried-preserved : goal.loop-tried-preserved
loop-tried-preserved g c =
    let view = view_of g.H.Disk in
    let out = output_by g.K.Sink in
    let s0 : Scene = scene c.args.self.now (view c.args.host.now) (out c.args.log.now c.args.out.now) in
    let h1 : View = view c.loop-tried.host in
    let h2 : View = view c.start_close.new.host in
    let o1 : Output = out c.loop-tried.log c.loop-tried.out in
    let was : CrewHost = crew_host c.self.inside.crew h1 in
    let now : CrewHost = crew_host c.start_close.new.self h2 in
    let keeps : KeepsClosing c.args.moment s0 (scene (the_view c.self.inside) h1 o1) = subst (λ (d : DaemonState). KeepsClosing c.args.moment s0 (scene d h1 o1)) (sym c.self.view_is) c.loop-tried.invariant in
    closes-next c.args.moment s0 c.self.inside.ledger c.self.inside.turns c.self.inside.crew c.start_close.new.self h1 h2 o1 (out c.tell_close.new.log c.tell_close.new.out) c.in-Some.tried keeps
    (λ at same stands. subst (λ (o : Option Tried). StartsClose c.args.moment (Ok o) at was now) c.in-Some.is (c.in_ok-tried.ensures.starts at same stands))
    (ap (λ (w : CrewState). w.unsettled) c.in_ok-tried.ensures.rest) c.tell_close.ensures

pub returns : goal.returns
returns g c =
    let view = view_of g.H.Disk in
    let out = output_by g.K.Sink in
    let s0 : Scene = scene c.args.self.now (view c.args.host.now) (out c.args.log.now c.args.out.now) in
    let h1 : View = view c.loop-tried.host in
    let h2 : View = view c.start_close.new.host in
    let o1 : Output = out c.loop-tried.log c.loop-tried.out in
    let was : CrewHost = crew_host c.self.inside.crew h1 in
    let now : CrewHost = crew_host c.start_close.new.self h2 in
    let keeps : KeepsClosing c.args.moment s0 (scene (the_view c.self.inside) h1 o1) = subst (λ (d : DaemonState). KeepsClosing c.args.moment s0 (scene d h1 o1)) (sym c.self.view_is) c.loop-tried.invariant in
    let none : c.in_ok-tried.field-0 ≡ None = c.in_default.is in
    let same = c.in_ok-tried.ensures.none (ap (λ (o : Option Tried). let r : Result (Option Tried) NoMemory = Ok o in r) none) in
    λ conf place rest.
    let done = keeps.front conf place rest in
    let at : Place = behind c.args.moment place done.closed in
    let stands = closes-stands conf c.args.moment place s0 (scene (the_view c.self.inside) h1 o1) done in
    let found : StartsClose c.args.moment (Ok None) at was now =
    subst (λ (o : Option Tried). StartsClose c.args.moment (Ok o) at was now) none (c.in_ok-tried.ensures.starts at (sym stands.changes) stands.stands) in
    let whole : (d : AttemptsCloses 0 conf c.args.moment place s0 (scene (the_view c.self.inside) h1 o1)) × NoneIsDue c.args.moment (behind c.args.moment place d.closed) = (done, found.0) in
    subst (λ h. (d : AttemptsCloses 0 conf c.args.moment place s0 (scene (record { book = c.self.inside.ledger; crew = c.start_close.new.self; turns = c.self.inside.turns }) (view h) o1))
    × NoneIsDue c.args.moment (behind c.args.moment place d.closed)) (sym same)
    (subst (λ (w : CrewState). (d : AttemptsCloses 0 conf c.args.moment place s0 (scene (record { book = c.self.inside.ledger; crew = w; turns = c.self.inside.turns }) h1 o1))
    × NoneIsDue c.args.moment (behind c.args.moment place d.closed)) (sym found.1) whole)
