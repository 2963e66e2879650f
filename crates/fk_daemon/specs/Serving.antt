-- What serving does, whole: one legal run whose log is printed; or nothing is served, since no ledger could be opened.
use Rattle.std.specs.Prelude.{◌≡◌, ◌⊎◌, ℕ, ◌+◌, Bool, true, false, List, [], ◌∷◌, ◌++◌, Option, if◌then◌else◌}
use Rattle.fk_base.specs.declared.status.Status.{Status}
use Rattle.fk_base.specs.declared.status.Status.TheVariants as status
use Rattle.fk_trace.specs.declared.change.Change.{Change}
use Rattle.fk_trace.specs.Trace.{Item}
use Rattle.fk_trace.specs.Ledger.{AreNoFloors}
use Rattle.fk_run.specs.Place.{entry}
use Rattle.fk_run.specs.Turn.{TakenTurn, after_turns}
use Rattle.fk_run.specs.Run.{Run, Ending, turns_of, trace_of}
use Rattle.fk_run.specs.Run.Ending.{AtLimit, AtEnd, AtFeedFault, AtDiskFault, AtWantOfMemory}
use Rattle.fk_host.specs.Count.{counted}
use Rattle.fk_host.specs.Disk.{Told, IfTold}
use Rattle.fk_log.specs.declared.verbosity.Verbosity.{Verbosity}
use Rattle.fk_log.specs.Line.Line.{DiskFailedLine, DamagedLine}
use Rattle.fk_log.specs.Log.{log_text}
use Rattle.fk_log.specs.Shown.{shown_text}
use Rattle.fk_child.specs.View.{View, AddsItems}
use Rattle.fk_journal.specs.Keeps.{IsOpening}
use Rattle.fk_ledger.specs.Holds.{HoldsLedger, IsLedgerDamagedAt}
use Rattle.fk_ledger.specs.Stretch.{IsLedgerOpening, IsKeptOpening, UnlessOlder}
use Rattle.fk_turn.specs.declared.policy.Policy.{Policy}
use Rattle.fk_turn.specs.Serving.{calls_for}
use Rattle.fk_turn.specs.Wanting.{WantsMemoryAt}
use Rattle.fk_daemon.specs.declared.task.Task.{Task}
use Rattle.fk_log.specs.Printing.{Prints}
use Rattle.fk_daemon.specs.Outside.{Outside, Feeds}
use Rattle.fk_daemon.specs.Account.{Account, IsServing, tried_changes, is_whole}
use Rattle.fk_daemon.specs.Moments.{RunMoments, SparesUnlessOlder}

-- The status of a run that ended so; the Bool says whether a write of its log failed. A run that met a fault keeps that one's status.
abbrev pub HasStatus : Ending → Bool → Status → Type 0
HasStatus AtLimit false answer = answer ≡ status.Done
HasStatus AtLimit true answer = answer ≡ status.SinkFault
HasStatus AtEnd false answer = answer ≡ status.Done
HasStatus AtEnd true answer = answer ≡ status.SinkFault
HasStatus AtFeedFault is_broken answer = answer ≡ status.FeedFault
HasStatus AtDiskFault is_broken answer = answer ≡ status.DiskFault
HasStatus AtWantOfMemory is_broken answer = answer ≡ status.NoMemory
HasStatus _ is_broken answer = ⊥

abbrev pub is_feed_fault : Ending → Bool
is_feed_fault AtFeedFault = true
is_feed_fault _ = false

-- a run that ended with its feed: the feed says so
abbrev pub EndsFeed : Ending → Bool → Type 0
EndsFeed AtEnd has_ended = has_ended ≡ true
EndsFeed _ has_ended = Unit {0}

-- The cause of an ending: the feed or the disk failed, once, and else their counts are as before; or the feed has ended.
pub record HasCauses (ending : Ending) (old new : Outside) : Type 0 where
  pub feed : new.feed.faults ≡ (if is_feed_fault ending then counted old.feed.faults else old.feed.faults)
  pub disk : new.host.faults ≡ (if is_whole ending then old.host.faults else counted old.host.faults)
  pub end : EndsFeed ending new.feed.has_ended

-- Behind the Turn item of this last turn, over this ledger, the host was called for each further item and each change, and `more` times
-- more.
pub record CallsBehind (more : ℕ) (ledger : List Change) (last : TakenTurn) (later : Told) : Type 0 where
  pub start : Item
  pub further : List Item
  pub items : last.items ≡ start ∷ further
  pub calls : later.moments ≡ start.moments + calls_for further ledger last.changes + more

-- A run that ended for want of memory, and where in its last turn it was wanting.
abbrev pub WantsMemoryLast : Policy → Run → Option Told → Option Told → Type 0
WantsMemoryLast policy run old new =
    run.ending ≡ AtWantOfMemory → (front : List TakenTurn) (last : TakenTurn) → run.turns ≡ front ++ last ∷ []
    → WantsMemoryAt policy (after_turns (entry run.ledger) front) last
    (λ more. IfTold old new (λ before later. CallsBehind more (after_turns (entry run.ledger) front).ledger last later))

-- The run of the account was served on the host: over the ledger that it held, with the run's items as the trace's new end, and its
-- changes on the disk as far as each moment says. Unless the ledger began anew or was of the older format, the areas on which it does not
-- stand are left.
pub record RunsOn (account : Account) (old new : View) : Type 0 where
  pub found : IfTold old.told new.told (λ before later. HoldsLedger before.areas account.run.ledger)
  pub faults : account.run.faults ≡ old.faults
  pub trace : IfTold old.told new.told (AddsItems (trace_of account.run))
  pub moments : IfTold old.told new.told (RunMoments account.run (tried_changes account) old.images new.images)
  pub others : AreNoFloors (tried_changes account) → SparesUnlessOlder old new

-- A ledger was opened and served: this is one legal run over it, whose turns the feed gave, that was served on the host, and whose
-- log was printed.
pub record ServesRun (task : Task) (old new : Outside) (answer : Status) : Type 0 where
  pub account : Account
  pub serving : IsServing task account
  pub turns : Feeds account.opening task.policy.conf.now.port (turns_of account.run) old.feed.given new.feed.given
  pub host : RunsOn account old.host new.host
  pub memory : WantsMemoryLast task.policy account.run old.host.told new.host.told
  pub is_broken : Bool
  pub printed : Prints (log_text task.verbosity account.opening account.refusal account.run) is_broken old.sink new.sink
  pub answered : HasStatus account.run.ending is_broken answer
  pub caused : HasCauses account.run.ending old new

-- The calls of an opening that failed: the trace is as before, and where the areas held a ledger, a crash at any moment leaves it, or,
-- until the first calls have ended well, what a crash could leave at entry. Whatever they held is kept. Unless it is of the older format,
-- the journal's area has the entries that it had, and the other areas are as before.
pub record OpensInVain (old new : View) : Type 0 where
  pub trace : IfTold old.told new.told (λ before later. later.trace ≡ before.trace)
  pub moments : (ledger : List Change) → IfTold old.told new.told (λ before later. HoldsLedger before.areas ledger
      → IsLedgerOpening ledger false old.images new.images before later)
  pub kept : IfTold old.told new.told (IsKeptOpening old.images new.images)
  pub entries : IfTold old.told new.told (UnlessOlder (IsOpening old.images new.images))
  pub others : SparesUnlessOlder old new

-- why no ledger was opened, by the answer, and the one line that says so
abbrev pub SaysWhyUnopened : Verbosity → Status → Bool → Outside → Outside → Type 0
SaysWhyUnopened verbosity status.DiskFault is_broken old new =
    Prints (shown_text verbosity (DiskFailedLine ∷ [])) is_broken old.sink new.sink × (new.host.faults ≡ counted old.host.faults)
SaysWhyUnopened verbosity status.Damaged is_broken old new =
    (place : ℕ) × IfTold old.host.told new.host.told (λ before later. IsLedgerDamagedAt before.areas place)
    × Prints (shown_text verbosity (DamagedLine place ∷ [])) is_broken old.sink new.sink × (new.host.faults ≡ old.host.faults)
SaysWhyUnopened verbosity status.NoMemory is_broken old new =
    (is_broken ≡ false) × (new.sink ≡ old.sink) × (new.host.faults ≡ old.host.faults)
SaysWhyUnopened verbosity _ is_broken old new = ⊥

-- no ledger was opened, for one of three causes, and nothing was served
pub record OpensNoLedger (verbosity : Verbosity) (old new : Outside) (answer : Status) : Type 0 where
  pub feed : new.feed ≡ old.feed
  pub calls : OpensInVain old.host new.host
  pub is_broken : Bool
  pub why : SaysWhyUnopened verbosity answer is_broken old new

abbrev pub Serves : Task → Outside → Outside → Status → Type 0
Serves task old new answer = ServesRun task old new answer ⊎ OpensNoLedger task.verbosity old new answer
