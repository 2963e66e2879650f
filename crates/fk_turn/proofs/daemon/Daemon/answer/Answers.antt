use Rattle.std.proofs.Common.{sym, ap, subst}
use Rattle.fk_trace.specs.Decision.{FeedTurn}
use Rattle.fk_log.specs.Writing.{Output}
use Rattle.fk_child.specs.View.{view_of}
use Rattle.fk_child.proofs.Images.{adds-none}
use Rattle.fk_turn.specs.declared.feed_turn.FeedInput.{FeedInput}
use Rattle.fk_turn.specs.Daemon.{Scene, scene, output_by}
use Rattle.fk_turn.specs.Parts.{Answers, AnswersWhole}
use Rattle.fk_turn.specs.Rules.{input_of}
use Rattle.fk_turn.proofs.Opening.{quietly}
use Rattle.fk_turn.proofs.daemon.Daemon.answer.Goals as goal

pub returns-in-Quiet : goal.returns-in-Quiet
returns-in-Quiet g c =
    let view = view_of g.H.Disk in
    let o0 : Output = output_by g.K.Sink c.args.log.now c.args.out.now in
    let s : Scene = scene c.args.self.now (view c.args.host.now) o0 in
    λ place rest.
    subst (λ (t : FeedTurn). AnswersWhole c.args.policy.now place t s s)
    (ap (λ (b : FeedInput). record { moment = c.args.turn.now.moment; input = input_of b }) (sym c.in-Quiet.is))
    (quietly c.args.policy.now place c.args.turn.now.moment c.args.self.now (view c.args.host.now) o0 rest (adds-none place.ledger (view c.args.host.now) rest.stands.stands.keeps))

pub returns-in-Datagram : goal.returns-in-Datagram
returns-in-Datagram g c =
    let view = view_of g.H.Disk in
    let out = output_by g.K.Sink in
    let old : Scene = scene c.args.self.now (view c.args.host.now) (out c.args.log.now c.args.out.now) in
    let new : Scene = scene c.answer_datagram.new.self (view c.answer_datagram.new.host) (out c.answer_datagram.new.log c.answer_datagram.new.out) in
    λ place rest.
    subst (λ (t : FeedTurn). Answers c.args.policy.now place t old new c.answer_datagram.result)
    (ap (λ (b : FeedInput). record { moment = c.args.turn.now.moment; input = input_of b }) (sym c.in-Datagram.is)) (c.answer_datagram.ensures place rest)
