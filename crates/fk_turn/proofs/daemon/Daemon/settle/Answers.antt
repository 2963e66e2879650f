use Rattle.std.proofs.Common.{◌≡◌, ℕ, Option, None, Result, Ok, sym, ap, subst}
use Rattle.fk_base.specs.declared.memory.Failed.{Failed}
use Rattle.fk_run.specs.Place.{Place}
use Rattle.fk_conf.specs.declared.conf.Conf.{Conf}
use Rattle.fk_log.specs.Writing.{Output}
use Rattle.fk_ledger.specs.Book.{Book}
use Rattle.fk_child.specs.View.{View, view_of}
use Rattle.fk_child.proofs.Images.{adds-none}
use Rattle.fk_child.specs.Crew.{CrewState, CrewHost}
use Rattle.fk_child.specs.Calls.{SettlesNext}
use Rattle.fk_turn.specs.Daemon.{DaemonState, Scene, scene, DaemonStands, StandsSomehow, scene_by, output_by}
use Rattle.fk_turn.specs.Parts.{settlement, Settles, SettlesWhole, reached}
use Rattle.fk_turn.specs.contracts.daemon.Daemon.{the_view}
use Rattle.fk_turn.proofs.Parting.{crew_host, settling-stands, settles-none, settles-next, settles-all, fewer-unsettled, fails-settle, failing}
use Rattle.fk_turn.proofs.daemon.Daemon.settle.Goals as goal

pub loop-id-init : goal.loop-id-init
loop-id-init g c =
    let view = view_of g.H.Disk in
    let out = output_by g.K.Sink in
    record {
      stands = subst (λ (d : DaemonState). StandsSomehow (scene_by g.H.Disk g.K.Sink d c.args.host.now c.args.log.now c.args.out.now)) (sym c.self.view_is) c.requires;
      front = λ conf place stands.
          settles-none conf c.args.moment place (scene (the_view c.self.inside) (view c.args.host.now) (out c.args.log.now c.args.out.now)) stands
          (adds-none place.ledger (view c.args.host.now) stands.stands.keeps);
    }

pub settle_next-requires-clause-unspent : goal.settle_next-requires-clause-unspent
settle_next-requires-clause-unspent g c = (settling-stands _ _ _ c.loop-id.invariant).2.unspent

pub settle_next-requires-clause-area : goal.settle_next-requires-clause-area
settle_next-requires-clause-area g c = (settling-stands _ _ _ c.loop-id.invariant).2.area

pub settle_next-requires-clause-stands : goal.settle_next-requires-clause-stands
settle_next-requires-clause-stands g c =
    let stands = settling-stands _ _ _ c.loop-id.invariant in
    (stands.1, sym stands.2.changes, stands.2.stands)

pub returns-in_err-id : goal.returns-in_err-id
returns-in_err-id g c =
    let view = view_of g.H.Disk in
    let out = output_by g.K.Sink in
    let o1 : Output = out c.loop-id.log c.loop-id.out in
    let turns : ℕ = c.loop-id.self-inside.turns in
    let h1 : View = view c.loop-id.host in
    let h2 : View = view c.settle_next.new.host in
    let new : Scene = scene (record { book = c.settle_next.new.ledger; crew = c.settle_next.new.self; turns = turns }) h2 o1 in
    subst
    (λ (d : DaemonState). (conf : Conf) (place : Place) → DaemonStands conf (scene_by g.H.Disk g.K.Sink d c.args.host.now c.args.log.now c.args.out.now) place
    → Settles conf c.args.moment place (scene_by g.H.Disk g.K.Sink d c.args.host.now c.args.log.now c.args.out.now) new c.from_residual.result)
    c.self.view_is
    (λ conf place stands.
    let s0 : Scene = scene (the_view c.self.inside) (view c.args.host.now) (out c.args.log.now c.args.out.now) in
    let front = c.loop-id.invariant.front conf place stands in
    failing conf c.args.moment place s0 new c.from_residual.result c.from_residual.ensures.0
    (fails-settle conf c.args.moment place s0 turns c.loop-id.self-inside.ledger c.settle_next.new.ledger c.loop-id.self-inside.crew c.settle_next.new.self h1 h2 o1 front
    (c.in_err-id.ensures.settles (reached c.args.moment place (settlement c.args.moment front.made)) (sym front.serves.stands.changes) front.serves.stands.stands)))

pub loop-id-smaller : goal.loop-id-smaller
loop-id-smaller g c =
    let view = view_of g.H.Disk in
    let out = output_by g.K.Sink in
    let b1 : Book = c.loop-id.self-inside.ledger in
    let b2 : Book = c.settle_next.new.ledger in
    let was : CrewHost = crew_host c.loop-id.self-inside.crew (view c.loop-id.host) in
    let now : CrewHost = crew_host c.settle_next.new.self (view c.settle_next.new.host) in
    fewer-unsettled c.args.moment _ c.loop-id.self-inside.turns b1 b2 c.loop-id.self-inside.crew c.settle_next.new.self (view c.loop-id.host) (view c.settle_next.new.host) (out c.loop-id.log c.loop-id.out) c.in-Some.id
    c.loop-id.invariant (λ at same stands. subst (λ (o : Option ℕ). SettlesNext b1 b2 (Ok o) at was now) c.in-Some.is (c.in_ok-id.ensures.settles at same stands))

pub loop-id-preserved : goal.loop-id-preserved
loop-id-preserved g c =
    let view = view_of g.H.Disk in
    let out = output_by g.K.Sink in
    let b1 : Book = c.loop-id.self-inside.ledger in
    let b2 : Book = c.settle_next.new.ledger in
    let was : CrewHost = crew_host c.loop-id.self-inside.crew (view c.loop-id.host) in
    let now : CrewHost = crew_host c.settle_next.new.self (view c.settle_next.new.host) in
    settles-next c.args.moment _ c.loop-id.self-inside.turns b1 b2 c.loop-id.self-inside.crew c.settle_next.new.self (view c.loop-id.host) (view c.settle_next.new.host)
    (out c.loop-id.log c.loop-id.out) (out c.add.new.self c.add.new.out) c.in-Some.id
    c.loop-id.invariant (λ at same stands. subst (λ (o : Option ℕ). SettlesNext b1 b2 (Ok o) at was now) c.in-Some.is (c.in_ok-id.ensures.settles at same stands)) c.add.ensures

pub returns : goal.returns
returns g c =
    let view = view_of g.H.Disk in
    let out = output_by g.K.Sink in
    let turns : ℕ = c.loop-id.self-inside.turns in
    let o1 : Output = out c.loop-id.log c.loop-id.out in
    let b1 : Book = c.loop-id.self-inside.ledger in
    let b2 : Book = c.settle_next.new.ledger in
    let was : CrewHost = crew_host c.loop-id.self-inside.crew (view c.loop-id.host) in
    let now : CrewHost = crew_host c.settle_next.new.self (view c.settle_next.new.host) in
    let none : c.in_ok-id.field-0 ≡ None = c.in_default.is in
    let same = c.in_ok-id.ensures.none (ap (λ (o : Option ℕ). let r : Result (Option ℕ) Failed = Ok o in r) none) in
    let new : Scene = scene (record { book = b2; crew = c.settle_next.new.self; turns = turns }) (view c.settle_next.new.host) o1 in
    subst
    (λ (d : DaemonState). (conf : Conf) (place : Place) → DaemonStands conf (scene_by g.H.Disk g.K.Sink d c.args.host.now c.args.log.now c.args.out.now) place
    → SettlesWhole conf c.args.moment place (scene_by g.H.Disk g.K.Sink d c.args.host.now c.args.log.now c.args.out.now) new)
    c.self.view_is
    (λ conf place stands.
    let s0 : Scene = scene (the_view c.self.inside) (view c.args.host.now) (out c.args.log.now c.args.out.now) in
    let s1 : Scene = scene (record { book = b1; crew = c.loop-id.self-inside.crew; turns = turns }) (view c.loop-id.host) o1 in
    let front = c.loop-id.invariant.front conf place stands in
    let at : Place = reached c.args.moment place (settlement c.args.moment front.made) in
    let found : SettlesNext b1 b2 (Ok None) at was now = subst (λ (o : Option ℕ). SettlesNext b1 b2 (Ok o) at was now) none (c.in_ok-id.ensures.settles at (sym front.serves.stands.changes) front.serves.stands.stands) in
    let whole : SettlesWhole conf c.args.moment place s0 s1 = settles-all conf c.args.moment place s0 s1 front found.0 in
    subst (λ h. SettlesWhole conf c.args.moment place s0 (scene (record { book = b2; crew = c.settle_next.new.self; turns = turns }) (view h) o1)) (sym same)
    (subst (λ (b : Book). SettlesWhole conf c.args.moment place s0 (scene (record { book = b; crew = c.settle_next.new.self; turns = turns }) (view c.loop-id.host) o1)) (sym found.2)
    (subst (λ (w : CrewState). SettlesWhole conf c.args.moment place s0 (scene (record { book = b1; crew = w; turns = turns }) (view c.loop-id.host) o1)) (sym found.1) whole)))
