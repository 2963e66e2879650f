-- A run over the ledger that was opened, whole with its last line.
use Rattle.std.proofs.Common.{◌≡◌, ℕ, ◌≤◌, Bool, true, false, cond, List, [], ◌∷◌, ◌++◌, length, refl, sym, ap, ◌∙◌, subst}
use Rattle.fk_base.specs.declared.status.Status.{Status}
use Rattle.fk_trace.specs.declared.change.Change.{Change}
use Rattle.fk_trace.specs.Ledger.{after, live}
use Rattle.fk_run.specs.Place.{entry}
use Rattle.fk_run.specs.Turn.{after_turns}
use Rattle.fk_run.specs.Run.{Run, Ending, trace_of, changes_of}
use Rattle.fk_host.specs.Count.{counted}
use Rattle.fk_host.specs.Disk.{IfTold}
use Rattle.fk_journal.specs.declared.fault.JournalErr.{JournalErr}
use Rattle.fk_journal.specs.declared.fault.JournalErr.TheVariants.{Disk, Damaged, NoMemory}
use Rattle.fk_log.specs.declared.tally.Tally.{Tally}
use Rattle.fk_log.specs.declared.verbosity.Verbosity.{Verbosity}
use Rattle.fk_log.specs.Line.{Line}
use Rattle.fk_log.specs.Line.Line.{SummaryLine}
use Rattle.fk_log.specs.Tally.{tally_of}
use Rattle.fk_log.specs.Log.{lines_before_end, ending_lines, summary_of}
use Rattle.fk_log.specs.Shown.{shown_text}
use Rattle.fk_log.specs.Writing.{Output, Writes, Logs, output}
use Rattle.fk_log.proofs.Logged.{Logs-append}
use Rattle.fk_ledger.specs.Holds.{HoldsLedger}
use Rattle.fk_ledger.specs.Stretch.{IsLedgerOpening, UnlessOlder}
use Rattle.fk_journal.specs.Keeps.{LeavesOthers}
use Rattle.fk_child.specs.View.{View, AddsItems, Moments}
use Rattle.fk_daemon.specs.Moments.{SparesUnlessOlder}
use Rattle.fk_child.proofs.Others.{others-then}
use Rattle.fk_trace.specs.Ledger.{AreNoFloors}
use Rattle.fk_turn.specs.Daemon.{DaemonState}
use Rattle.fk_daemon.specs.declared.task.Task.{Task}
use Rattle.fk_daemon.specs.declared.session.Session.{Session}
use Rattle.fk_daemon.specs.declared.session.Stop.{Stop}
use Rattle.fk_daemon.specs.declared.session.Stop.TheVariants as stop
use Rattle.fk_log.specs.Printing.{SinkView, Prints}
use Rattle.fk_daemon.specs.Outside.{Outside}
use Rattle.fk_daemon.specs.Account.{tried_changes, is_whole}
use Rattle.fk_daemon.specs.Moments.{RunMoments}
use Rattle.fk_daemon.specs.Serving.{HasStatus, CallsBehind, HasCauses, ServesRun, OpensInVain, OpensNoLedger, SaysWhyUnopened}
use Rattle.fk_daemon.specs.Sessions.{HoldsCrash, Standing, Begins, OpensDaemon, HasOpeningCause, SaysFault, Finishes, SaysEnd, MaySumUp, new_log, ending_of, summary_by, output_of}
use Rattle.fk_daemon.proofs.Stopping.{wants-calls}
use Rattle.fk_daemon.proofs.Telling.{told-join, told-both, items-behind, opening-later, opened-then}
use Rattle.fk_daemon.proofs.Crashing.{SettlesCleanly, AttemptsOnce, moments-join}

abbrev pub sink_of : Output → SinkView
sink_of out = record { written = out.written; faults = out.faults }

prints : (is_broken : Bool) (text : List ℕ) (old new : Output) → Writes false is_broken text old new → Prints text is_broken (sink_of old) (sink_of new)
prints false text old new writes = writes
prints true text old new writes = writes

-- the summary that a session prints is the one of its run
same-end : (how : Stop) (session : Session) (run : Run) (before : List Line) → MaySumUp how session run → session.log.tally ≡ tally_of before
    → ending_lines (ending_of how) (summary_by session)
    ≡ ending_lines (ending_of how) (summary_of before (length run.turns) (length (live (after run.ledger (changes_of run)))))
same-end stop.Limit session run before sums tally =
    ap (λ (n : ℕ). SummaryLine n session.log.tally (length (live session.daemon.book.changes)) ∷ []) sums.turns
    ∙ ap (λ (t : Tally). SummaryLine (length run.turns) t (length (live session.daemon.book.changes)) ∷ []) tally
    ∙ ap (λ (n : ℕ). SummaryLine (length run.turns) (tally_of before) n ∷ []) sums.live
same-end stop.End session run before sums tally =
    ap (λ (n : ℕ). SummaryLine n session.log.tally (length (live session.daemon.book.changes)) ∷ []) sums.turns
    ∙ ap (λ (t : Tally). SummaryLine (length run.turns) t (length (live session.daemon.book.changes)) ∷ []) tally
    ∙ ap (λ (n : ℕ). SummaryLine (length run.turns) (tally_of before) n ∷ []) sums.live
same-end stop.FeedFault session run before sums tally = refl
same-end stop.DiskFault session run before sums tally = refl
same-end stop.NoMemory session run before sums tally = refl

-- a session that was just begun over a daemon
abbrev pub first_session : Task → DaemonState → Session
first_session task daemon = record { daemon = daemon; log = new_log task.verbosity; turns = 0; packets = 0 }

abbrev pub first_standing : Task → DaemonState → Outside → View → Standing
first_standing task daemon old host = record { session = first_session task daemon; outside = record { feed = old.feed; host = host; sink = old.sink } }

module _ (task : Task) (old : Outside) (host : View) (daemon : DaemonState) (how : Stop) (session : Session) (late : Outside) (sink : SinkView) (answer : Status)
    (opens : OpensDaemon task.policy.conf.now old.host host daemon)
    (run_is : Finishes task daemon.book.changes how (first_standing task daemon old host) (record { session = session; outside = late }))
    (says : SaysEnd how session late.sink sink answer) (settles : SettlesCleanly) (once : AttemptsOnce) where
  abbrev run : Run
  run = run_is.account.run

  abbrev before : List Line
  before = lines_before_end run_is.account.opening run_is.account.refusal run

  abbrev last : Ending → List Line
  last ending = ending_lines ending (summary_of before (length run.turns) (length (live (after run.ledger (changes_of run)))))

  ending_is : run.ending ≡ ending_of how
  ending_is = ap (λ (r : Run). r.ending) run_is.is

  ledger_is : run.ledger ≡ daemon.book.changes
  ledger_is = ap (λ (r : Run). r.ledger) run_is.is

  whole-log : Logs (before ++ last run.ending) (output (new_log task.verbosity) old.sink.written old.sink.faults) (output says.0 sink.written sink.faults)
  whole-log =
      subst (λ (lines : List Line). Logs (before ++ lines) (output (new_log task.verbosity) old.sink.written old.sink.faults) (output says.0 sink.written sink.faults))
      (same-end how session run before run_is.sums run_is.logs.counted ∙ ap last (sym ending_is))
      (Logs-append before (ending_lines (ending_of how) (summary_by session)) (output (new_log task.verbosity) old.sink.written old.sink.faults)
      (output session.log late.sink.written late.sink.faults) (output says.0 sink.written sink.faults) run_is.logs says.1)

  trace-kept : IfTold old.host.told host.told (λ x y. (y.trace ≡ x.trace) × (x.moments ≤ y.moments))
  trace-kept = told-both old.host.told host.told (λ x y. y.trace ≡ x.trace) (IsLedgerOpening daemon.book.changes true old.host.images host.images)
      (λ x y. (y.trace ≡ x.trace) × (x.moments ≤ y.moments)) (opened-then daemon.book.changes old.host.images host.images) opens.trace opens.moments

  run-moments : IfTold host.told late.host.told (λ x y. AddsItems (trace_of run) x y × Moments (HoldsCrash run (tried_changes run_is.account)) (length (changes_of run)) host.images late.host.images x y)
  run-moments = told-both host.told late.host.told (AddsItems (trace_of run)) (Moments (HoldsCrash run (tried_changes run_is.account)) (length (changes_of run)) host.images late.host.images)
      (λ x y. AddsItems (trace_of run) x y × Moments (HoldsCrash run (tried_changes run_is.account)) (length (changes_of run)) host.images late.host.images x y) (λ x y a b. (a, b)) run_is.adds.trace run_is.adds.moments

  all-moments : IfTold old.host.told late.host.told (RunMoments run (tried_changes run_is.account) old.host.images late.host.images)
  all-moments = told-join old.host.told host.told late.host.told (IsLedgerOpening run.ledger true old.host.images host.images)
      (λ x y. AddsItems (trace_of run) x y × Moments (HoldsCrash run (tried_changes run_is.account)) (length (changes_of run)) host.images late.host.images x y)
      (RunMoments run (tried_changes run_is.account) old.host.images late.host.images)
      (moments-join settles once run (tried_changes run_is.account) old.host.images host.images late.host.images)
      (subst (λ (ledger : List Change). IfTold old.host.told host.told (IsLedgerOpening ledger true old.host.images host.images)) (sym ledger_is) opens.moments) run-moments

  opened-others : IfTold old.host.told host.told (λ x y. IsLedgerOpening daemon.book.changes true old.host.images host.images x y × UnlessOlder (LeavesOthers old.host.images host.images) x y)
  opened-others = told-both old.host.told host.told (IsLedgerOpening daemon.book.changes true old.host.images host.images) (UnlessOlder (LeavesOthers old.host.images host.images))
      (λ x y. IsLedgerOpening daemon.book.changes true old.host.images host.images x y × UnlessOlder (LeavesOthers old.host.images host.images) x y) (λ x y a b. (a, b)) opens.moments opens.others

  module _ (none : AreNoFloors (tried_changes run_is.account)) where
    run-others : IfTold host.told late.host.told (λ x y. Moments (HoldsCrash run (tried_changes run_is.account)) (length (changes_of run)) host.images late.host.images x y × LeavesOthers host.images late.host.images x y)
    run-others = told-both host.told late.host.told (Moments (HoldsCrash run (tried_changes run_is.account)) (length (changes_of run)) host.images late.host.images) (LeavesOthers host.images late.host.images)
        (λ x y. Moments (HoldsCrash run (tried_changes run_is.account)) (length (changes_of run)) host.images late.host.images x y × LeavesOthers host.images late.host.images x y) (λ x y a b. (a, b)) run_is.adds.moments (run_is.adds.others none)

    -- the other areas are left by the opening, unless it migrates, and by the run behind it
    all-others : SparesUnlessOlder old.host late.host
    all-others = told-join old.host.told host.told late.host.told (λ x y. IsLedgerOpening daemon.book.changes true old.host.images host.images x y × UnlessOlder (LeavesOthers old.host.images host.images) x y)
        (λ x y. Moments (HoldsCrash run (tried_changes run_is.account)) (length (changes_of run)) host.images late.host.images x y × LeavesOthers host.images late.host.images x y)
        (UnlessOlder (LeavesOthers old.host.images late.host.images))
        (λ x y z f g current. others-then old.host.images host.images late.host.images x y z (opening-later daemon.book.changes true old.host.images host.images x y f.0) f.0.past g.0.past (f.1 current) g.1) opened-others run-others

  causes : HasCauses (ending_of how) old (record { feed = late.feed; host = late.host; sink = sink })
  causes = record {
    feed = run_is.caused.feed;
    disk = run_is.caused.disk ∙ ap (λ (n : ℕ). cond (is_whole (ending_of how)) n (counted n)) opens.disk;
    end = run_is.caused.end;
  }

  serves_run : ServesRun task old (record { feed = late.feed; host = late.host; sink = sink }) answer
  serves_run = record {
    account = run_is.account;
    serving = run_is.serving;
    turns = run_is.given;
    host = record {
      found = subst (λ (ledger : List Change). IfTold old.host.told late.host.told (λ x y. HoldsLedger x.areas ledger)) (sym ledger_is)
          (told-join old.host.told host.told late.host.told (λ x y. HoldsLedger x.areas daemon.book.changes) (AddsItems (trace_of run)) (λ x y. HoldsLedger x.areas daemon.book.changes)
          (λ x y z f g. f) opens.found run_is.adds.trace);
      faults = ap (λ (r : Run). r.faults) run_is.is ∙ opens.disk;
      trace = told-join old.host.told host.told late.host.told (λ x y. (y.trace ≡ x.trace) × (x.moments ≤ y.moments)) (AddsItems (trace_of run)) (AddsItems (trace_of run))
          (items-behind (trace_of run)) trace-kept run_is.adds.trace;
      moments = all-moments;
      others = all-others;
    };
    memory = λ wants front last placed.
        wants-calls task.policy (after_turns (entry run.ledger) front) last (λ more. IfTold host.told late.host.told (λ x y. CallsBehind more (after_turns (entry run.ledger) front).ledger last y))
        (λ more. IfTold old.host.told late.host.told (λ x y. CallsBehind more (after_turns (entry run.ledger) front).ledger last y))
        (λ more calls. told-join old.host.told host.told late.host.told (λ x y. (y.trace ≡ x.trace) × (x.moments ≤ y.moments)) (λ x y. CallsBehind more (after_turns (entry run.ledger) front).ledger last y)
        (λ x y. CallsBehind more (after_turns (entry run.ledger) front).ledger last y)
        (λ x y z f g. g) trace-kept calls) (run_is.memory wants front last placed);
    is_broken = says.0.is_broken;
    printed = prints says.0.is_broken (shown_text task.verbosity (before ++ last run.ending)) (output (new_log task.verbosity) old.sink.written old.sink.faults)
        (output says.0 sink.written sink.faults) whole-log.written;
    answered = subst (λ (ending : Ending). HasStatus ending says.0.is_broken answer) (sym ending_is) says.2;
    caused = subst (λ (ending : Ending). HasCauses ending old (record { feed = late.feed; host = late.host; sink = sink })) (sym ending_is) causes;
  }

abbrev pub standing_with : Session → Outside → View → Standing
standing_with session old host = record { session = session; outside = record { feed = old.feed; host = host; sink = old.sink } }

-- a session that was just begun may be run
pub begun : (task : Task) (old : Outside) (host : View) (daemon : DaemonState) (first : Session) → OpensDaemon task.policy.conf.now old.host host daemon
    → first ≡ first_session task daemon → Begins task daemon.book.changes (standing_with first old host)
begun task old host daemon first opens is =
    let there : Begins task daemon.book.changes (standing_with (first_session task daemon) old host) =
    record { rests = opens.rests (output_of (standing_with (first_session task daemon) old host)); turns = refl; packets = refl } in
    subst (λ (session : Session). Begins task daemon.book.changes (standing_with session old host)) (sym is) there

pub serves_begun : (task : Task) (old : Outside) (host : View) (daemon : DaemonState) (how : Stop) (first session : Session) (late : Outside) (sink : SinkView) (answer : Status)
    → OpensDaemon task.policy.conf.now old.host host daemon → first ≡ first_session task daemon
    → Finishes task daemon.book.changes how (standing_with first old host) (record { session = session; outside = late })
    → SaysEnd how session late.sink sink answer → SettlesCleanly → AttemptsOnce → ServesRun task old (record { feed = late.feed; host = late.host; sink = sink }) answer
serves_begun task old host daemon how first session late sink answer opens is finishes says settles once =
    serves_run task old host daemon how session late sink answer opens
    (subst (λ (s : Session). Finishes task daemon.book.changes how (standing_with s old host) (record { session = session; outside = late })) is finishes) says settles once

-- no ledger was opened
pub unopened : (verbosity : Verbosity) (old : Outside) (host : View) (fault : JournalErr) (sink : SinkView) (answer : Status) → OpensInVain old.host host
    → HasOpeningCause fault old.host host → SaysFault verbosity fault old.sink sink answer
    → OpensNoLedger verbosity old (record { feed = old.feed; host = host; sink = sink }) answer
unopened verbosity old host Disk sink answer vain cause says = record {
  feed = refl;
  calls = vain;
  is_broken = says.1.0;
  why = subst (λ (a : Status). SaysWhyUnopened verbosity a says.1.0 old (record { feed = old.feed; host = host; sink = sink })) (sym says.0) (says.1.1, cause);
}
unopened verbosity old host (Damaged place) sink answer vain cause says = record {
  feed = refl;
  calls = vain;
  is_broken = says.1.0;
  why = subst (λ (a : Status). SaysWhyUnopened verbosity a says.1.0 old (record { feed = old.feed; host = host; sink = sink })) (sym says.0) (place, cause.0, says.1.1, cause.1);
}
unopened verbosity old host NoMemory sink answer vain cause says = record {
  feed = refl;
  calls = vain;
  is_broken = false;
  why = subst (λ (a : Status). SaysWhyUnopened verbosity a false old (record { feed = old.feed; host = host; sink = sink })) (sym says.0) (refl, says.1, cause);
}
