use Rattle.std.proofs.Common.{refl, ◌≡◌, ◌+◌, ◌<◌, ◌^◌, sym, ap, subst, ◌∙◌, arith}
use Rattle.fk_trace.specs.Decision.{FeedTurn}
use Rattle.fk_run.specs.Place.{Place}
use Rattle.fk_child.specs.View.{view_of}
use Rattle.fk_turn.specs.Daemon.{DaemonState, Scene, scene_by, output_by}
use Rattle.fk_turn.specs.Serving.{ServesWhole}
use Rattle.fk_turn.specs.Rules.{turn_of}
use Rattle.fk_turn.proofs.Assembly.{polled_place, begun-stands, fails-settling, answer_place, settled-stands, close_place, answered-stands, serves-whole, cut-at-answer, cut-at-close}
use Rattle.fk_turn.proofs.daemon.Daemon.serve.Goals as goal

pub settle-requires : goal.settle-requires
settle-requires g c =
    let b = c.begin.ensures c.args.policy.now.conf.now c.requires.rests.0 c.requires.rests.1 in
    let turn : FeedTurn = turn_of c.args.turn.now in
    (c.args.policy.now.conf.now, polled_place c.args.policy.now c.requires.rests.0 turn _ _ b, begun-stands c.args.policy.now c.requires.rests.0 turn _ _ b)

pub returns-in-Err : goal.returns-in-Err
returns-in-Err g c =
    let turn : FeedTurn = turn_of c.args.turn.now in
    record {
      serves = λ place rest.
          let b = c.begin.ensures c.args.policy.now.conf.now place rest in
          fails-settling c.args.policy.now place turn _ _ b _
          (c.in-Err.ensures c.args.policy.now.conf.now (polled_place c.args.policy.now place turn _ _ b) (begun-stands c.args.policy.now place turn _ _ b));
    }

pub answer-requires : goal.answer-requires
answer-requires g c =
    let place : Place = c.requires.rests.0 in
    let turn : FeedTurn = turn_of c.args.turn.now in
    let b = c.begin.ensures c.args.policy.now.conf.now place c.requires.rests.1 in
    let settles = c.in_default.ensures c.args.policy.now.conf.now (polled_place c.args.policy.now place turn _ _ b) (begun-stands c.args.policy.now place turn _ _ b) in
    (answer_place c.args.policy.now place turn _ _ b, settled-stands c.args.policy.now place turn _ _ b _ settles)

pub close-requires : goal.close-requires
close-requires g c =
    let place : Place = c.requires.rests.0 in
    let turn : FeedTurn = turn_of c.args.turn.now in
    let b = c.begin.ensures c.args.policy.now.conf.now place c.requires.rests.1 in
    let settles = c.in_default.ensures c.args.policy.now.conf.now (polled_place c.args.policy.now place turn _ _ b) (begun-stands c.args.policy.now place turn _ _ b) in
    let a = c.in_ok-answer.ensures (answer_place c.args.policy.now place turn _ _ b) (settled-stands c.args.policy.now place turn _ _ b _ settles) in
    (c.args.policy.now.conf.now, (close_place c.args.policy.now place turn _ _ b _ settles _ a, answered-stands c.args.policy.now place turn _ _ b _ settles _ a))

pub returns-in_err-answer : goal.returns-in_err-answer
returns-in_err-answer g c =
    let turn : FeedTurn = turn_of c.args.turn.now in
    record {
      serves = λ place rest.
          let b = c.begin.ensures c.args.policy.now.conf.now place rest in
          let settles = c.in_default.ensures c.args.policy.now.conf.now (polled_place c.args.policy.now place turn _ _ b) (begun-stands c.args.policy.now place turn _ _ b) in
          let a = c.in_err-answer.ensures (answer_place c.args.policy.now place turn _ _ b) (settled-stands c.args.policy.now place turn _ _ b _ settles) in
          cut-at-answer c.args.policy.now place turn _ _ b _ settles _ c.in_err-answer.field-0.0 c.from_residual.result c.from_residual.ensures.1 a;
    }

pub returns-in_err-close : goal.returns-in_err-close
returns-in_err-close g c =
    let turn : FeedTurn = turn_of c.args.turn.now in
    record {
      serves = λ place rest.
          let b = c.begin.ensures c.args.policy.now.conf.now place rest in
          let settles = c.in_default.ensures c.args.policy.now.conf.now (polled_place c.args.policy.now place turn _ _ b) (begun-stands c.args.policy.now place turn _ _ b) in
          let a = c.in_ok-answer.ensures (answer_place c.args.policy.now place turn _ _ b) (settled-stands c.args.policy.now place turn _ _ b _ settles) in
          let closes = c.in_err-close.ensures c.args.policy.now.conf.now (close_place c.args.policy.now place turn _ _ b _ settles _ a)
          (answered-stands c.args.policy.now place turn _ _ b _ settles _ a) in
          cut-at-close c.args.policy.now place turn _ _ b _ settles _ a _ c.in_err-close.field-0.0 c.from_residual-in_err-close.result c.from_residual-in_err-close.ensures.1 closes;
    }

pub overflow_add-self : goal.overflow_add-self
overflow_add-self g c =
    let place : Place = c.requires.rests.0 in
    let turn : FeedTurn = turn_of c.args.turn.now in
    let b = c.begin.ensures c.args.policy.now.conf.now place c.requires.rests.1 in
    let settles = c.in_default.ensures c.args.policy.now.conf.now (polled_place c.args.policy.now place turn _ _ b) (begun-stands c.args.policy.now place turn _ _ b) in
    let a = c.in_ok-answer.ensures (answer_place c.args.policy.now place turn _ _ b) (settled-stands c.args.policy.now place turn _ _ b _ settles) in
    let closes = c.in_ok-close.ensures c.args.policy.now.conf.now (close_place c.args.policy.now place turn _ _ b _ settles _ a)
    (answered-stands c.args.policy.now place turn _ _ b _ settles _ a) in
    let was : place.number ≡ c.args.self.now.turns + 1 = c.requires.rests.1.stands.number in
    let is : place.number ≡ c.self.inside.turns + 1 = closes.0.serves.stands.number ∙ ap (λ (d : DaemonState). d.turns + 1) (sym c.self.view_is) in
    let fits : c.args.self.now.turns < 2 ^ 63 = c.requires.fits in
    omega (arith, was, is, fits)

pub returns : goal.returns
returns g c =
    let view = view_of g.H.Disk in
    let out = output_by g.K.Sink in
    let turn : FeedTurn = turn_of c.args.turn.now in
    let old : Scene = scene_by g.H.Disk g.K.Sink c.args.self.now c.args.host.now c.args.log.now c.args.out.now in
    record {
      serves = λ place rest.
          let b = c.begin.ensures c.args.policy.now.conf.now place rest in
          let settles = c.in_default.ensures c.args.policy.now.conf.now (polled_place c.args.policy.now place turn _ _ b) (begun-stands c.args.policy.now place turn _ _ b) in
          let a = c.in_ok-answer.ensures (answer_place c.args.policy.now place turn _ _ b) (settled-stands c.args.policy.now place turn _ _ b _ settles) in
          let closes = c.in_ok-close.ensures c.args.policy.now.conf.now (close_place c.args.policy.now place turn _ _ b _ settles _ a)
          (answered-stands c.args.policy.now place turn _ _ b _ settles _ a) in
          let whole = serves-whole c.args.policy.now place turn _ _ b _ settles _ a 0 _ closes.0 refl closes.1 in
          subst (λ (d : DaemonState). ServesWhole c.args.policy.now place turn old (scene_by g.H.Disk g.K.Sink (record { book = d.book; crew = d.crew; turns = d.turns + 1 }) c.close.new.host c.close.new.log c.close.new.out)) (sym c.self.view_is) whole;
    }
