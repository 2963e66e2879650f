-- A turn that the daemon served over a page, and then the page printed.
use Rattle.std.proofs.Common.{◌≡◌, ℕ, ◌+◌, Bool, true, false, cond, List, [], ◌++◌, length, Option, Some, None, refl, sym, ap, ◌∙◌, subst}
use Rattle.fk_trace.specs.Trace.{Item}
use Rattle.fk_trace.specs.Decision.{FeedTurn}
use Rattle.fk_run.specs.Place.{Place}
use Rattle.fk_run.specs.Turn.{after_turn}
use Rattle.fk_host.specs.Disk.{Told as TellsOf, IfTold}
use Rattle.fk_host.specs.Count.{counted}
use Rattle.fk_host.specs.Stream.{Gives}
use Rattle.fk_memory.specs.Area.{areas_after}
use Rattle.fk_memory.specs.Host.{HostState, told_of}
use Rattle.fk_memory.specs.Sink.{SinkState}
use Rattle.fk_log.specs.Line.{Line}
use Rattle.fk_log.specs.Log.{turn_lines}
use Rattle.fk_log.specs.Log.RefusalLine.{Told}
use Rattle.fk_log.specs.Printing.{SinkView}
use Rattle.fk_log.specs.Shown.{shown_text}
use Rattle.fk_log.specs.Writing.{GivesPart, LogState, Output, Writes, output}
use Rattle.fk_ledger.specs.Book.{live_ids}
use Rattle.fk_conf.specs.declared.conf.Conf.{Conf}
use Rattle.fk_child.specs.View.{AddsItems}
use Rattle.fk_turn.specs.declared.policy.Policy.{Policy}
use Rattle.fk_turn.specs.Daemon.{DaemonState, Scene, AtRest, scene}
use Rattle.fk_turn.specs.Rules.{rules_by}
use Rattle.fk_turn.specs.Serving.{ServesWhole, OwesItsLive}
use Rattle.fk_trial.specs.declared.session.Session.{Session}
use Rattle.fk_trial.specs.Replay.{no_children, AreAnswers, IsReplay}
use Rattle.fk_trial.specs.Trace.{IsTrialTrace}
use Rattle.fk_trial.specs.Sessions.{RestsAt, HoldsPages, PrintsPage, ServesTurn, view, printing}
use Rattle.fk_trial.proofs.GoingWell.{Law, well-push, trial-trace}

-- where a daemon rests its output plays no part
pub rests-output : (conf : Conf) (at : Scene) (place : Place) (out : Output) → AtRest conf at place → AtRest conf (record at { output = out }) place
rests-output conf at place out rests = record {
  stands = record {
    changes = rests.stands.changes;
    limit = rests.stands.limit;
    room = rests.stands.room;
    keep = rests.stands.keep;
    unspent = rests.stands.unspent;
    area = rests.stands.area;
    stands = rests.stands.stands;
    number = rests.stands.number;
  };
  settled = rests.settled;
}

-- a daemon at rest can be parked
pub rests-parks : (conf : Conf) (at : Scene) (place : Place) → AtRest conf at place → OwesItsLive at.daemon
rests-parks conf at place rests = rests.stands.stands.tied.owes ∙ ap live_ids (sym rests.stands.changes)

abbrev tells : HostState → TellsOf
tells host = record { areas = areas_after host.first host.calls; moments = length host.calls; trace = host.trace }

told_both : (b c : Bool) (x y : TellsOf) (F : TellsOf → TellsOf → Type 0) → c ≡ false → IfTold (cond b None (Some x)) (cond c None (Some y)) F → F x y
told_both b true x y F is told = absurd cc
told_both true false x y F is told = absurd told
told_both false false x y F is told = told

-- what is said of two hosts where the later is not short
pub told-hosts : (old new : HostState) (F : TellsOf → TellsOf → Type 0) → new.is_short ≡ false → IfTold (told_of old) (told_of new) F → F (tells old) (tells new)
told-hosts old new F is told = told_both old.is_short new.is_short (tells old) (tells new) F is told

given-whole : (text : List ℕ) (old : Option (List ℕ)) (now : List ℕ) → old ≡ Some [] → Gives text old (Some now) → now ≡ text
given-whole text None now blank gives = absurd cc
given-whole text (Some bytes) now blank gives =
    let none : bytes ≡ [] = cc in
    let all : now ≡ bytes ++ text = cc in
    all ∙ ap (λ (front : List ℕ). front ++ text) none

-- the text of a page that was written whole
page-text : (text : List ℕ) (log : LogState) (before : Output) (page : SinkState) → before.written ≡ Some [] → before.log.is_broken ≡ false → log.is_broken ≡ false
    → Writes before.log.is_broken log.is_broken text before (output log (Some page.written) page.faults) → page.written ≡ text
page-text text log before page blank sound whole writes =
    let after : Output = output log (Some page.written) page.faults in
    let one : Writes false log.is_broken text before after = subst (λ (x : Bool). Writes x log.is_broken text before after) sound writes in
    let both : Writes false false text before after = subst (λ (x : Bool). Writes false x text before after) whole one in
    given-whole text before.written page.written blank both.0

-- outputs that have the same bytes and faults, whatever their logs keep
pub other-outputs : (b c : Bool) (text : List ℕ) (x y u v : Output) → u.written ≡ x.written → u.faults ≡ x.faults → v.written ≡ y.written → v.faults ≡ y.faults
    → Writes b c text x y → Writes b c text u v
other-outputs false false text x y u v w f z g writes =
    (subst (λ (t : Option (List ℕ)). Gives text t v.written) (sym w) (subst (λ (t : Option (List ℕ)). Gives text x.written t) (sym z) writes.0), g ∙ writes.1 ∙ sym f)
other-outputs false true text x y u v w f z g writes =
    (subst (λ (t : Option (List ℕ)). GivesPart text t v.written) (sym w) (subst (λ (t : Option (List ℕ)). GivesPart text x.written t) (sym z) writes.0), g ∙ writes.1 ∙ ap counted (sym f))
other-outputs true false text x y u v w f z g writes = writes
other-outputs true true text x y u v w f z g writes = (z ∙ writes.0 ∙ sym w, g ∙ writes.1 ∙ sym f)

-- behind a write that failed no text plays a part
other-text : (b c : Bool) (text other : List ℕ) (old new : Output) → (b ≡ false → text ≡ other) → Writes b c text old new → Writes b c other old new
other-text true true text other old new same writes = writes
other-text true false text other old new same writes = writes
other-text false false text other old new same writes = subst (λ (t : List ℕ). Writes false false t old new) (same refl) writes
other-text false true text other old new same writes = subst (λ (t : List ℕ). Writes false true t old new) (same refl) writes

module _ (law : Law) (policy : Policy) (turn : FeedTurn) (place : Place) (old mid new : Session) (blank page : SinkState) (before after : SinkView)
    (serves : ServesWhole policy place turn (scene old.daemon (view old.host) (output old.log (Some blank.written) blank.faults)) (scene mid.daemon (view mid.host) (output mid.log (Some page.written) page.faults)))
    (blank_is : blank.written ≡ []) (told : mid.host.is_short ≡ false) (replay : IsReplay mid.host)
    (mid_is : mid ≡ record old { daemon = mid.daemon; host = mid.host; log = mid.log })
    (prints : PrintsPage page.written None mid new before after) where
  abbrev lines : List Line
  lines = turn_lines (rules_by policy) place Told serves.taken

  abbrev shown : List ℕ
  shown = shown_text old.log.verbosity lines

  host_is : new.host ≡ mid.host
  host_is = ap (λ (session : Session). session.host) prints.1

  daemon_is : new.daemon ≡ mid.daemon
  daemon_is = ap (λ (session : Session). session.daemon) prints.1

  log_is : new.log ≡ mid.log
  log_is = ap (λ (session : Session). session.log) prints.1

  broken_is : mid.is_broken ≡ old.is_broken
  broken_is = ap (λ (session : Session). session.is_broken) mid_is

  trace_is : mid.host.trace ≡ old.host.trace ++ serves.taken.items
  trace_is = (told-hosts old.host mid.host (AddsItems serves.taken.items) told serves.adds.trace).trace

  rests : RestsAt policy.conf.now new.daemon new.host (after_turn place serves.taken)
  rests = subst (λ (daemon : DaemonState). RestsAt policy.conf.now daemon new.host (after_turn place serves.taken)) (sym daemon_is)
      (subst (λ (host : HostState). RestsAt policy.conf.now mid.daemon host (after_turn place serves.taken)) (sym host_is)
      (λ out. rests-output policy.conf.now (scene mid.daemon (view mid.host) (output mid.log (Some page.written) page.faults)) (after_turn place serves.taken) out serves.rests))

  written : HoldsPages old → Writes old.is_broken new.is_broken shown (printing old before) (printing new after)
  written sound =
      let there : Writes old.is_broken new.is_broken page.written (printing mid before) (printing new after) =
      subst (λ (b : Bool). Writes b new.is_broken page.written (printing mid before) (printing new after)) broken_is prints.2 in
      let here : Writes old.is_broken new.is_broken page.written (printing old before) (printing new after) =
      other-outputs old.is_broken new.is_broken page.written (printing mid before) (printing new after) (printing old before) (printing new after) refl refl refl refl there in
      other-text old.is_broken new.is_broken page.written shown (printing old before) (printing new after)
      (λ whole. page-text shown mid.log (output old.log (Some blank.written) blank.faults) page (ap Some blank_is) (sound whole) (prints.0 (broken_is ∙ whole)) serves.logs.written) here

  pages : HoldsPages new
  pages whole =
      ap (λ (log : LogState). log.is_broken) log_is
      ∙ prints.0 (unbroken mid.is_broken new.is_broken page.written (printing mid before) (printing new after) prints.2 whole)
    where
      unbroken : (b c : Bool) (text : List ℕ) (old new : Output) → Writes b c text old new → c ≡ false → b ≡ false
      unbroken true true text old new writes is = absurd cc
      unbroken true false text old new writes is = absurd writes
      unbroken false c text old new writes is = refl

  pub served : ServesTurn policy turn place old new before after
  served = record {
    taken = serves.taken;
    of_turn = serves.of_turn;
    whole = serves.whole;
    rests = rests;
    told = ap (λ (host : HostState). host.is_short) host_is ∙ told;
    replay = subst IsReplay (sym host_is) replay;
    trace = ap (λ (host : HostState). host.trace) host_is ∙ trace_is;
    faults = ap (λ (host : HostState). host.faults) host_is ∙ serves.disk;
    calm = serves.adds.faults;
    well = λ well. subst IsTrialTrace (sym (ap (λ (host : HostState). host.trace) host_is ∙ trace_is))
        (trial-trace law (old.host.trace ++ serves.taken.items) answers
        (well-push law (rules_by policy) place serves.taken old.host.trace serves.whole answers well.well));
    logs = λ sound. (
      pages,
      record {
        kept = ap (λ (log : LogState). log.verbosity) log_is ∙ serves.logs.kept;
        counted = ap (λ (log : LogState). log.tally) log_is ∙ serves.logs.counted;
        written = written sound;
      },
    );
    count = ap (λ (session : Session). session.turns) prints.1 ∙ ap (λ (session : Session). session.turns + 1) mid_is;
    reader = ap (λ (session : Session). session.reader) prints.1 ∙ ap (λ (session : Session). session.reader) mid_is;
  }
    where
      answers : AreAnswers no_children (old.host.trace ++ serves.taken.items)
      answers = subst (λ (items : List Item). AreAnswers no_children items) trace_is replay.answers
