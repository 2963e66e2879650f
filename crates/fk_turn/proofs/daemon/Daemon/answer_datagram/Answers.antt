use Rattle.std.proofs.Common.{◌≡◌, ◌≤◌, List, Result, Ok, inl, inr, refl, sym, ap, subst, ◌∙◌}
use Rattle.fk_trace.specs.declared.refusal.LogWhy.{LogWhy}
use Rattle.fk_trace.specs.declared.change.Change.{Change}
use Rattle.fk_trace.specs.declared.change.Change.TheVariants.{Open as OpenChange}
use Rattle.fk_trace.specs.Decision.Answer.{Refuses}
use Rattle.fk_trace.specs.Ledger.{is_seen, floor_of, MayMake}
use Rattle.fk_base.specs.declared.memory.NoMemory.{NoMemory}
use Rattle.fk_run.specs.Place.{Place}
use Rattle.fk_log.specs.Writing.{Output}
use Rattle.fk_ledger.specs.Payloads.{greatest_stamp}
use Rattle.fk_child.specs.View.{View, view_of}
use Rattle.fk_child.proofs.Images.{adds-none}
use Rattle.fk_turn.specs.declared.decision.Decision.{Decision}
use Rattle.fk_turn.specs.Daemon.{DaemonState, Scene, scene, AtRest, scene_by, output_by}
use Rattle.fk_turn.specs.Parts.{Answers, AnswersWhole, IsDraftOf, IsGrantedBy, IsRefusedBy, answer_at, datagram_turn}
use Rattle.fk_turn.specs.Rules.{permit_of, rules_by}
use Rattle.fk_turn.specs.contracts.daemon.Daemon.{the_view}
use Rattle.fk_turn.proofs.Opening.{refuses, wanting, like-rests, wants-before, draft-follows, draft-stamp, answers-from}
use Rattle.fk_turn.proofs.daemon.Daemon.answer_datagram.Goals as goal

abbrev answered : Decision → Result Decision NoMemory
answered given = Ok given

pub returns-in_err-why : goal.returns-in_err-why
returns-in_err-why g c =
    let view = view_of g.H.Disk in
    let out = output_by g.K.Sink in
    let o0 : Output = out c.args.log.now c.args.out.now in
    subst
    (λ (d : DaemonState). (place : Place) → AtRest c.args.policy.now.conf.now (scene_by g.H.Disk g.K.Sink d c.args.host.now c.args.log.now c.args.out.now) place
    → Answers c.args.policy.now place (datagram_turn c.args.moment c.args.source c.args.bytes.now) (scene_by g.H.Disk g.K.Sink d c.args.host.now c.args.log.now c.args.out.now) (scene_by g.H.Disk g.K.Sink d c.args.host.now c.args.log.now c.args.out.now) c.from_residual.result)
    c.self.view_is
    (λ place rest.
    let d : DaemonState = the_view c.self.inside in
    let s : Scene = scene d (view c.args.host.now) o0 in
    wanting c.args.policy.now place (datagram_turn c.args.moment c.args.source c.args.bytes.now) s s c.from_residual.result c.from_residual.ensures.1
    (wants-before c.args.policy.now place c.args.moment c.args.source c.args.bytes.now d d (view c.args.host.now) o0 rest c.in_err-why.ensures.formed c.in_err-why.ensures.fresh (inl c.in_err-why.ensures.code)
    (adds-none place.ledger (view c.args.host.now) rest.stands.stands.keeps) refl))

pub returns-in-Refused : goal.returns-in-Refused
returns-in-Refused g c =
    let view = view_of g.H.Disk in
    let out = output_by g.K.Sink in
    let o0 : Output = out c.args.log.now c.args.out.now in
    let o1 : Output = out c.add.new.self c.add.new.out in
    subst
    (λ (d : DaemonState). (place : Place) → AtRest c.args.policy.now.conf.now (scene_by g.H.Disk g.K.Sink d c.args.host.now c.args.log.now c.args.out.now) place
    → AnswersWhole c.args.policy.now place (datagram_turn c.args.moment c.args.source c.args.bytes.now) (scene_by g.H.Disk g.K.Sink d c.args.host.now c.args.log.now c.args.out.now) (scene_by g.H.Disk g.K.Sink d c.args.host.now c.add.new.self c.add.new.out))
    c.self.view_is
    (λ place rest.
    let d : DaemonState = the_view c.self.inside in
    let why : LogWhy = c.in-Refused.why in
    let refused = c.in_ok-why.ensures.refused why (ap answered c.in-Refused.is) in
    let there : answer_at c.args.policy.now place (datagram_turn c.args.moment c.args.source c.args.bytes.now) ≡ Refuses why =
    subst (λ (cs : List Change). IsRefusedBy c.args.policy.now cs c.args.moment c.args.source c.args.bytes.now why) rest.stands.changes refused in
    refuses c.args.policy.now place c.args.moment c.args.source c.args.bytes.now why d (view c.args.host.now) o0 o1 there rest
    (adds-none place.ledger (view c.args.host.now) rest.stands.stands.keeps) c.add.ensures)

pub prepare-requires : goal.prepare-requires
prepare-requires g c = (c.in_ok-why.ensures.granted c.in-Granted.grant (ap answered c.in-Granted.is)).stanza

pub returns-in_err-draft-in-Granted : goal.returns-in_err-draft-in-Granted
returns-in_err-draft-in-Granted g c =
    let view = view_of g.H.Disk in
    let out = output_by g.K.Sink in
    let o0 : Output = out c.args.log.now c.args.out.now in
    let h0 : View = view c.args.host.now in
    λ place rest.
    let granted = c.in_ok-why.ensures.granted c.in-Granted.grant (ap answered c.in-Granted.is) in
    let unseen = ap (is_seen ((rules_by c.args.policy.now).digest c.args.bytes.now)) (ap (λ (d : DaemonState). d.book.changes) (sym c.self.view_is)) ∙ granted.unseen in
    wanting c.args.policy.now place (datagram_turn c.args.moment c.args.source c.args.bytes.now) (scene c.args.self.now h0 o0) (scene c.prepare.new.self h0 o0)
    c.from_residual-in_err-draft-in-Granted.result c.from_residual-in_err-draft-in-Granted.ensures.1
    (wants-before c.args.policy.now place c.args.moment c.args.source c.args.bytes.now c.args.self.now c.prepare.new.self h0 o0 rest granted.formed unseen (inr (permit_of c.args.policy.now.access.now c.in-Granted.grant, granted.admitted))
    (adds-none place.ledger (view c.args.host.now) rest.stands.stands.keeps) c.in_err-draft-in-Granted.ensures.rest)

pub open-requires-clause-rests : goal.open-requires-clause-rests
open-requires-clause-rests g c =
    let view = view_of g.H.Disk in
    let out = output_by g.K.Sink in (
      c.args.policy.now.conf.now,
      (
        c.requires.0,
        like-rests c.args.policy.now.conf.now c.args.self.now c.prepare.new.self (view c.args.host.now) (out c.args.log.now c.args.out.now) c.requires.0 c.in_ok-draft-in-Granted.ensures.rest c.requires.1,
      ),
    )

pub open-requires-clause-ready : goal.open-requires-clause-ready
open-requires-clause-ready g c = c.in_ok-draft-in-Granted.ensures.ready

pub open-requires-clause-next : goal.open-requires-clause-next
open-requires-clause-next g c =
    let draft : IsDraftOf c.args.policy.now c.args.self.now.book.changes c.args.moment c.args.bytes.now c.in-Granted.grant c.in_ok-draft-in-Granted.draft = c.in_ok-draft-in-Granted.ensures.draft in
    let granted : IsGrantedBy c.args.policy.now c.args.self.now.book.changes c.args.moment c.args.source c.args.bytes.now c.in-Granted.grant =
    subst (λ (d : DaemonState). IsGrantedBy c.args.policy.now d.book.changes c.args.moment c.args.source c.args.bytes.now c.in-Granted.grant) c.self.view_is
    (c.in_ok-why.ensures.granted c.in-Granted.grant (ap answered c.in-Granted.is)) in
    subst (λ (cs : List Change). MayMake cs (OpenChange c.in_ok-draft-in-Granted.draft.item)) (ap (λ (d : DaemonState). d.book.changes) (sym c.in_ok-draft-in-Granted.ensures.rest))
    (draft-follows c.args.policy.now c.args.self.now.book.changes c.args.moment c.args.source c.args.bytes.now c.in-Granted.grant c.in_ok-draft-in-Granted.draft granted draft)

pub open-requires-clause-stamp : goal.open-requires-clause-stamp
open-requires-clause-stamp g c =
    let draft : IsDraftOf c.args.policy.now c.args.self.now.book.changes c.args.moment c.args.bytes.now c.in-Granted.grant c.in_ok-draft-in-Granted.draft = c.in_ok-draft-in-Granted.ensures.draft in
    let granted : IsGrantedBy c.args.policy.now c.args.self.now.book.changes c.args.moment c.args.source c.args.bytes.now c.in-Granted.grant =
    subst (λ (d : DaemonState). IsGrantedBy c.args.policy.now d.book.changes c.args.moment c.args.source c.args.bytes.now c.in-Granted.grant) c.self.view_is
    (c.in_ok-why.ensures.granted c.in-Granted.grant (ap answered c.in-Granted.is)) in
    subst (λ (cs : List Change). (floor_of cs ≤ c.in_ok-draft-in-Granted.draft.item.stamp) × (c.in_ok-draft-in-Granted.draft.item.stamp ≤ greatest_stamp)) (ap (λ (d : DaemonState). d.book.changes) (sym c.in_ok-draft-in-Granted.ensures.rest))
    (draft-stamp c.args.policy.now c.args.self.now.book.changes c.args.moment c.args.source c.args.bytes.now c.in-Granted.grant c.in_ok-draft-in-Granted.draft granted draft)

pub returns-in_ok-draft-in-Granted : goal.returns-in_ok-draft-in-Granted
returns-in_ok-draft-in-Granted g c =
    let view = view_of g.H.Disk in
    let out = output_by g.K.Sink in
    let o0 : Output = out c.args.log.now c.args.out.now in
    let h0 : View = view c.args.host.now in
    let draft : IsDraftOf c.args.policy.now c.args.self.now.book.changes c.args.moment c.args.bytes.now c.in-Granted.grant c.in_ok-draft-in-Granted.draft = c.in_ok-draft-in-Granted.ensures.draft in
    let granted : IsGrantedBy c.args.policy.now c.args.self.now.book.changes c.args.moment c.args.source c.args.bytes.now c.in-Granted.grant =
    subst (λ (d : DaemonState). IsGrantedBy c.args.policy.now d.book.changes c.args.moment c.args.source c.args.bytes.now c.in-Granted.grant) c.self.view_is
    (c.in_ok-why.ensures.granted c.in-Granted.grant (ap answered c.in-Granted.is)) in
    λ place rest.
    let changes = rest.stands.changes in
    answers-from c.args.policy.now place (datagram_turn c.args.moment c.args.source c.args.bytes.now) c.args.self.now c.prepare.new.self h0 o0
    (scene c.open.new.self (view c.open.new.host) (out c.open.new.log c.open.new.out)) c.open.result
    (c.open.ensures c.args.policy.now place c.args.bytes.now c.in-Granted.grant
    (like-rests c.args.policy.now.conf.now c.args.self.now c.prepare.new.self h0 o0 place c.in_ok-draft-in-Granted.ensures.rest rest)
    (subst (λ (cs : List Change). IsGrantedBy c.args.policy.now cs c.args.moment c.args.source c.args.bytes.now c.in-Granted.grant) changes granted)
    (subst (λ (cs : List Change). IsDraftOf c.args.policy.now cs c.args.moment c.args.bytes.now c.in-Granted.grant c.in_ok-draft-in-Granted.draft) changes draft) refl)
