use Rattle.std.proofs.Common.{◌≡◌, ℕ, true, false, cond, List, [], ◌∷◌, Result, Err, refl, sym, ap, subst, ◌∙◌}
use Rattle.fk_host.specs.Count.{counted}
use Rattle.fk_ledger.specs.declared.owed.Owed.{Owed}
use Rattle.fk_ledger.specs.declared.fault.RecordFault.{RecordFault}
use Rattle.fk_ledger.specs.declared.fault.RecordFault.TheVariants as Fault
use Rattle.fk_base.specs.declared.grant.Grant.{Grant}
use Rattle.fk_trace.specs.declared.refusal.LogWhy.TheVariants.{Full}
use Rattle.fk_base.specs.declared.purpose.Purpose.TheVariants.{Open}
use Rattle.fk_trace.specs.declared.change.OpenRecord.{OpenRecord}
use Rattle.fk_trace.specs.declared.change.Change.{Change}
use Rattle.fk_trace.specs.declared.change.Change.TheVariants.{Open as OpenChange}
use Rattle.fk_trace.specs.Ledger.{next_id, after, AreNoFloors}
use Rattle.fk_trace.specs.Attempts.{IsAttempt}
use Rattle.fk_host.specs.Disk.{IfTold, Above}
use Rattle.fk_ledger.specs.Holds.{KeepsLedger}
use Rattle.fk_child.specs.Crew.{IsTied}
use Rattle.fk_run.specs.Place.{Place, changed}
use Rattle.fk_ledger.specs.Book.{Book, making_record, calls_of, is_disk_record_fault}
use Rattle.fk_ledger.specs.Stretch.{Stretch}
use Rattle.fk_log.specs.Writing.{Output}
use Rattle.fk_child.specs.View.{View, MakesCalls, SparesOthers, view_of}
use Rattle.fk_child.proofs.Images.{adds-none}
use Rattle.fk_turn.specs.declared.policy.Policy.{Policy}
use Rattle.fk_turn.specs.Daemon.{DaemonState, Scene, scene, AtRest, RestsSomehow, scene_by, output_by}
use Rattle.fk_turn.specs.Parts.{Answers, AnswersWhole, FailsToRecord, IsDraftOf, IsGrantedBy, datagram_turn}
use Rattle.fk_turn.specs.contracts.daemon.Daemon.{the_view}
use Rattle.fk_trace.proofs.Ledgers.{after-append}
use Rattle.fk_turn.proofs.Making.{book-fronts, some-of, if-some}
use Rattle.fk_turn.proofs.Opening.{refuses, full-refused, room-opens, room-fronts, fails-record, awaits-open, wants-start, opens-whole, wanting}
use Rattle.fk_turn.proofs.daemon.Daemon.open.Goals as goal

abbrev errs : RecordFault → Result Owed RecordFault
errs e = Err e

pub returns-in-Err-Full : goal.returns-in-Err-Full
returns-in-Err-Full g c =
    let view = view_of g.H.Disk in
    let out = output_by g.K.Sink in
    let full_is : Err c.in-Err-Full.field-0 ≡ Err Fault.Full = ap errs c.in-Err-Full.field-0-is in
    let same = c.in-Err-Full.ensures.nothing full_is in
    let full = c.in-Err-Full.ensures.full.0 full_is in
    let d : DaemonState = the_view c.self.inside in
    let old : Scene = scene_by g.H.Disk g.K.Sink d c.args.host.now c.args.log.now c.args.out.now in
    let o1 : Output = out c.add.new.self c.add.new.out in
    let new : Scene = scene (record { book = c.record.new.self; crew = d.crew; turns = d.turns }) (view c.record.new.disk) o1 in
    subst
    (λ (s : DaemonState). (policy : Policy) (place : Place) (datagram : List ℕ) (grant : Grant) → AtRest policy.conf.now (scene_by g.H.Disk g.K.Sink s c.args.host.now c.args.log.now c.args.out.now) place
    → IsGrantedBy policy place.ledger c.args.moment c.args.source datagram grant → IsDraftOf policy place.ledger c.args.moment datagram grant c.args.draft → c.args.stanza ≡ grant.stanza
    → AnswersWhole policy place (datagram_turn c.args.moment c.args.source datagram) (scene_by g.H.Disk g.K.Sink s c.args.host.now c.args.log.now c.args.out.now) new)
    c.self.view_is
    (λ policy place datagram grant rest granted draft stanza.
    let h0 : View = view c.args.host.now in
    let o0 : Output = out c.args.log.now c.args.out.now in
    let e = full-refused policy place c.args.moment c.args.source datagram grant granted c.args.draft.item draft.item d h0 o0 rest full in
    let whole : AnswersWhole policy place (datagram_turn c.args.moment c.args.source datagram) old (scene d h0 o1) =
    refuses policy place c.args.moment c.args.source datagram Full d h0 o0 o1 e rest (adds-none place.ledger (view c.args.host.now) rest.stands.stands.keeps) c.add.ensures in
    subst (λ (b : Book). AnswersWhole policy place (datagram_turn c.args.moment c.args.source datagram) old (scene (record { book = b; crew = d.crew; turns = d.turns }) (view c.record.new.disk) o1)) (sym same.0)
    (subst (λ h. AnswersWhole policy place (datagram_turn c.args.moment c.args.source datagram) old (scene d (view h) o1)) (sym same.1) whole))

pub returns-in-Err-Disk : goal.returns-in-Err-Disk
returns-in-Err-Disk g c =
    let view = view_of g.H.Disk in
    let out = output_by g.K.Sink in
    let d : DaemonState = the_view c.self.inside in
    let o0 : Output = out c.args.log.now c.args.out.now in
    let new : Scene = scene (record { book = c.record.new.self; crew = d.crew; turns = d.turns }) (view c.record.new.disk) o0 in
    subst
    (λ (s : DaemonState). (policy : Policy) (place : Place) (datagram : List ℕ) (grant : Grant) → AtRest policy.conf.now (scene_by g.H.Disk g.K.Sink s c.args.host.now c.args.log.now c.args.out.now) place
    → IsGrantedBy policy place.ledger c.args.moment c.args.source datagram grant → IsDraftOf policy place.ledger c.args.moment datagram grant c.args.draft → c.args.stanza ≡ grant.stanza
    → FailsToRecord policy place (datagram_turn c.args.moment c.args.source datagram) (scene_by g.H.Disk g.K.Sink s c.args.host.now c.args.log.now c.args.out.now) new)
    c.self.view_is
    (λ policy place datagram grant rest granted draft stanza.
    let h0 : View = view c.args.host.now in
    let h1 : View = view c.record.new.disk in
    let made = making_record d.book c.args.draft.item in
    let some = some-of made (λ full. let f = c.in-Err-Disk.ensures.full.1 full in let is = c.in-Err-Disk.field-0-is in cc) in
    let opens = room-opens policy place c.args.moment c.args.source datagram grant granted c.args.draft.item draft.item d h0 o0 rest some.0 some.1 in
    let stretch = if-some (λ (changes : List Change). IfTold h0.told h1.told (Stretch d.book.changes changes false h0.images h1.images)) made some.0 some.1 c.in-Err-Disk.ensures.moments in
    let spares = if-some (λ (changes : List Change). AreNoFloors changes → SparesOthers h0 h1) made some.0 some.1 c.in-Err-Disk.ensures.others in
    fails-record policy place c.args.moment c.args.source datagram grant granted c.args.draft.item draft.item d h0 o0 rest some.0 c.record.new.self h1 opens
    c.in-Err-Disk.ensures.host.trace stretch spares
    (c.in-Err-Disk.ensures.cause ∙ ap (λ (e : RecordFault). cond (is_disk_record_fault e) (counted (g.H.Disk.faults c.args.host.now)) (g.H.Disk.faults c.args.host.now)) c.in-Err-Disk.field-0-is)
    (ap (λ (b : Book). b.changes) (c.in-Err-Disk.ensures.spent (ap errs c.in-Err-Disk.field-0-is))))

pub start_open-requires-clause-awaits : goal.start_open-requires-clause-awaits
start_open-requires-clause-awaits g c =
    let view = view_of g.H.Disk in
    let out = output_by g.K.Sink in
    let d : DaemonState = the_view c.self.inside in
    let rests : RestsSomehow (scene_by g.H.Disk g.K.Sink d c.args.host.now c.args.log.now c.args.out.now) =
    subst (λ (s : DaemonState). RestsSomehow (scene_by g.H.Disk g.K.Sink s c.args.host.now c.args.log.now c.args.out.now)) (sym c.self.view_is) c.requires.rests in
    let stands = rests.1.1.stands.stands in
    let place : Place = rests.1.0 in
    let item : OpenRecord = c.args.draft.item in
    let made = making_record d.book item in
    let some = some-of made (λ full. let f = c.in-Ok.ensures.full.1 full in cc) in
    let front = book-fronts d.book item place some.0 some.1 rests.1.1.stands.changes in
    let kept = if-some (λ (changes : List Change). c.record.new.self ≡ record d.book { changes = after d.book.changes changes; area = c.record.new.self.area; reserved = c.record.new.self.reserved })
    made some.0 some.1 c.in-Ok.ensures.ok in (
      item,
      changed place front.front,
      record {
        numbered = sym c.in-Ok.ensures.owed;
        next = c.requires.next.0 ∙ ap (λ (s : DaemonState). next_id s.book.changes) (sym c.self.view_is) ∙ ap next_id rests.1.1.stands.changes ∙ sym front.next;
        until = refl;
        tied = subst (λ (a : Above). IsTied d.crew a (changed place front.front)) (sym c.in-Ok.ensures.host.rest) (front.tied d.crew _ stands.tied);
        keeps = subst (λ (cs : List Change). KeepsLedger cs (g.H.Disk.told c.record.new.disk) (g.H.Disk.may_leave c.record.new.disk))
            (ap (λ (b : Book). b.changes) kept ∙ ap (λ (cs : List Change). after cs some.0) rests.1.1.stands.changes
            ∙ ap (after place.ledger) front.placed ∙ after-append place.ledger front.front (OpenChange item ∷ [])) c.in-Ok.ensures.keeps;
      },
    )

pub returns-in_err-begun-in-Ok : goal.returns-in_err-begun-in-Ok
returns-in_err-begun-in-Ok g c =
    let view = view_of g.H.Disk in
    let out = output_by g.K.Sink in
    let d : DaemonState = the_view c.self.inside in
    let o0 : Output = out c.args.log.now c.args.out.now in
    let o1 : Output = out c.add-in-Ok.new.self c.add-in-Ok.new.out in
    let new : Scene = scene (record { book = c.record.new.self; crew = c.start_open.new.self; turns = d.turns }) (view c.start_open.new.host) o1 in
    subst
    (λ (s : DaemonState). (policy : Policy) (place : Place) (datagram : List ℕ) (grant : Grant) → AtRest policy.conf.now (scene_by g.H.Disk g.K.Sink s c.args.host.now c.args.log.now c.args.out.now) place
    → IsGrantedBy policy place.ledger c.args.moment c.args.source datagram grant → IsDraftOf policy place.ledger c.args.moment datagram grant c.args.draft → c.args.stanza ≡ grant.stanza
    → Answers policy place (datagram_turn c.args.moment c.args.source datagram) (scene_by g.H.Disk g.K.Sink s c.args.host.now c.args.log.now c.args.out.now) new c.from_residual.result)
    c.self.view_is
    (λ policy place datagram grant rest granted draft stanza.
    let h0 : View = view c.args.host.now in
    let h1 : View = view c.record.new.disk in
    let item : OpenRecord = c.args.draft.item in
    let made = making_record d.book item in
    let some = some-of made (λ full. let f = c.in-Ok.ensures.full.1 full in cc) in
    let opens = room-opens policy place c.args.moment c.args.source datagram grant granted item draft.item d h0 o0 rest some.0 some.1 in
    let front = room-fronts policy place c.args.moment c.args.source datagram grant granted item draft.item d h0 o0 rest some.0 some.1 in
    let stretch = if-some (λ (changes : List Change). IfTold h0.told h1.told (Stretch d.book.changes changes true h0.images h1.images)) made some.0 some.1 c.in-Ok.ensures.moments in
    let spares = if-some (λ (changes : List Change). AreNoFloors changes → SparesOthers h0 h1) made some.0 some.1 c.in-Ok.ensures.others in
    let kept = if-some (λ (changes : List Change). c.record.new.self ≡ record d.book { changes = after d.book.changes changes; area = c.record.new.self.area; reserved = c.record.new.self.reserved })
    made some.0 some.1 c.in-Ok.ensures.ok in
    let calls = if-some (λ (changes : List Change). MakesCalls (calls_of d.book.changes changes) h0 h1) made some.0 some.1 c.in-Ok.ensures.calls in
    let awaits = awaits-open policy place c.args.moment c.args.source datagram grant granted item draft.item d h0 o0 rest some.0 front c.record.new.self h1 opens
    c.in-Ok.ensures.host.trace c.in-Ok.ensures.host.rest stretch spares c.in-Ok.ensures.cause kept c.in-Ok.owed c.in-Ok.ensures.owed c.in-Ok.ensures.keeps in
    let goes = c.in_err-begun-in-Ok.ensures.starts item (changed place front.front) awaits in
    let wants = wants-start policy place c.args.moment c.args.source datagram grant granted item draft.item d h0 o0 rest some.0 front c.record.new.self h1 opens
    c.in-Ok.ensures.host.trace c.in-Ok.ensures.host.rest stretch spares c.in-Ok.ensures.cause kept c.args.stanza stanza o1 c.add-in-Ok.ensures
    c.start_open.new.self (view c.start_open.new.host) calls (goes c.args.moment) in
    wanting policy place (datagram_turn c.args.moment c.args.source datagram) (scene_by g.H.Disk g.K.Sink d c.args.host.now c.args.log.now c.args.out.now) new c.from_residual.result c.from_residual.ensures.1 wants)

pub returns : goal.returns
returns g c =
    let view = view_of g.H.Disk in
    let out = output_by g.K.Sink in
    let d : DaemonState = the_view c.self.inside in
    let o0 : Output = out c.args.log.now c.args.out.now in
    let o1 : Output = out c.add-in-Ok.new.self c.add-in-Ok.new.out in
    let o2 : Output = out c.add-in-Ok-2.new.self c.add-in-Ok-2.new.out in
    let new : Scene = scene (record { book = c.record.new.self; crew = c.start_open.new.self; turns = d.turns }) (view c.start_open.new.host) o2 in
    subst
    (λ (s : DaemonState). (policy : Policy) (place : Place) (datagram : List ℕ) (grant : Grant) → AtRest policy.conf.now (scene_by g.H.Disk g.K.Sink s c.args.host.now c.args.log.now c.args.out.now) place
    → IsGrantedBy policy place.ledger c.args.moment c.args.source datagram grant → IsDraftOf policy place.ledger c.args.moment datagram grant c.args.draft → c.args.stanza ≡ grant.stanza
    → AnswersWhole policy place (datagram_turn c.args.moment c.args.source datagram) (scene_by g.H.Disk g.K.Sink s c.args.host.now c.args.log.now c.args.out.now) new)
    c.self.view_is
    (λ policy place datagram grant rest granted draft stanza.
    let h0 : View = view c.args.host.now in
    let h1 : View = view c.record.new.disk in
    let item : OpenRecord = c.args.draft.item in
    let made = making_record d.book item in
    let some = some-of made (λ full. let f = c.in-Ok.ensures.full.1 full in cc) in
    let opens = room-opens policy place c.args.moment c.args.source datagram grant granted item draft.item d h0 o0 rest some.0 some.1 in
    let front = room-fronts policy place c.args.moment c.args.source datagram grant granted item draft.item d h0 o0 rest some.0 some.1 in
    let stretch = if-some (λ (changes : List Change). IfTold h0.told h1.told (Stretch d.book.changes changes true h0.images h1.images)) made some.0 some.1 c.in-Ok.ensures.moments in
    let spares = if-some (λ (changes : List Change). AreNoFloors changes → SparesOthers h0 h1) made some.0 some.1 c.in-Ok.ensures.others in
    let kept = if-some (λ (changes : List Change). c.record.new.self ≡ record d.book { changes = after d.book.changes changes; area = c.record.new.self.area; reserved = c.record.new.self.reserved })
    made some.0 some.1 c.in-Ok.ensures.ok in
    let calls = if-some (λ (changes : List Change). MakesCalls (calls_of d.book.changes changes) h0 h1) made some.0 some.1 c.in-Ok.ensures.calls in
    let awaits = awaits-open policy place c.args.moment c.args.source datagram grant granted item draft.item d h0 o0 rest some.0 front c.record.new.self h1 opens
    c.in-Ok.ensures.host.trace c.in-Ok.ensures.host.rest stretch spares c.in-Ok.ensures.cause kept c.in-Ok.owed c.in-Ok.ensures.owed c.in-Ok.ensures.keeps in
    let starts = c.in_ok-begun-in-Ok.ensures.starts item (changed place front.front) awaits in
    let tried : IsAttempt (Open c.args.draft.item.id) c.args.draft.opening starts.0.event = subst (λ (n : ℕ). IsAttempt (Open n) c.args.draft.opening starts.0.event) c.in-Ok.ensures.owed starts.1 in
    opens-whole policy place c.args.moment c.args.source datagram grant granted item draft.item d h0 o0 rest some.0 front c.record.new.self h1 opens
    c.in-Ok.ensures.host.trace c.in-Ok.ensures.host.rest stretch spares c.in-Ok.ensures.cause kept c.args.stanza stanza o1 c.add-in-Ok.ensures
    c.start_open.new.self (view c.start_open.new.host) calls c.in-Ok.ensures.stands c.args.draft.opening c.in_ok-begun-in-Ok.begun starts.0 o2 draft.opening tried starts.2 (starts.3 c.args.moment) c.add-in-Ok-2.ensures
    c.in_ok-begun-in-Ok.ensures.rest.0)
