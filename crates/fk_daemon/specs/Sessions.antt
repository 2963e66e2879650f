-- What the contracts of this crate's private functions speak of. No public contract cites it, so no caller has to believe it.
use Rattle.std.specs.Prelude.{◌≡◌, ◌↔◌, ℕ, ◌+◌, ◌<◌, ◌≤◌, ◌^◌, ◌||◌, nat_le, Bool, true, false, List, [], ◌∷◌, ◌++◌, length, take, Option, Some, None, if◌then◌else◌}
use Rattle.std.specs.Option.{option_map_or}
use Rattle.std.specs.List.{flat_map, list_any}
use Rattle.fk_base.specs.declared.status.Status.{Status}
use Rattle.fk_base.specs.declared.status.Status.TheVariants as status
use Rattle.fk_trace.specs.declared.change.Change.{Change}
use Rattle.fk_trace.specs.Trace.{is_turn}
use Rattle.fk_trace.specs.Decision.{FeedTurn}
use Rattle.fk_trace.specs.Ledger.{after, live, AreNoFloors}
use Rattle.fk_run.specs.Place.{Place, entry}
use Rattle.fk_run.specs.Turn.{TakenTurn}
use Rattle.fk_run.specs.Run.{Run, Ending, turns_of, trace_of, changes_of}
use Rattle.fk_run.specs.Run.Ending.{AtLimit, AtEnd, AtFeedFault, AtDiskFault, AtWantOfMemory}
use Rattle.fk_run.specs.Legal.{Legal}
use Rattle.fk_run.specs.Left.{items_by, crashed}
use Rattle.fk_run.specs.declared.limits.Limits.{Limits}
use Rattle.fk_run.specs.Ending.{is_datagram, turn_limit}
use Rattle.fk_host.specs.Count.{counted}
use Rattle.fk_host.specs.Disk.{Areas, IfTold}
use Rattle.fk_host.specs.declared.feed.Turn.{Turn}
use Rattle.fk_host.specs.declared.feed.Feed.{Ghosts as FeedMeaning}
use Rattle.fk_host.specs.declared.disk.Disk.{Ghosts as DiskMeaning}
use Rattle.fk_host.specs.declared.stream.Sink.{Ghosts as SinkMeaning}
use Rattle.fk_host.specs.Feed.{GivesTurns, is_end_input}
use Rattle.fk_host.specs.Feed.{turns_of as turns_of_feed}
use Rattle.fk_journal.specs.declared.fault.JournalErr.{JournalErr}
use Rattle.fk_journal.specs.declared.fault.JournalErr.TheVariants.{Disk, Damaged, NoMemory}
use Rattle.fk_log.specs.declared.verbosity.Verbosity.{Verbosity}
use Rattle.fk_log.specs.Line.{Line}
use Rattle.fk_log.specs.Line.Line.{SummaryLine, DiskFailedLine, DamagedLine}
use Rattle.fk_log.specs.Log.{lines_before_end, ending_lines}
use Rattle.fk_log.specs.Shown.{shown_text}
use Rattle.fk_log.specs.Tally.{blank_tally}
use Rattle.fk_log.specs.Writing.{LogState, Output, Logs, output}
use Rattle.fk_conf.specs.declared.conf.Conf.{Conf}
use Rattle.fk_ledger.specs.Holds.{HoldsLedger, HoldsState, IsLedgerDamagedAt}
use Rattle.fk_ledger.specs.Stretch.{IsLedgerOpening}
use Rattle.fk_child.specs.View.{View, SparesOthers, AddsItems, Moments}
use Rattle.fk_turn.specs.Daemon.{DaemonState, Scene, AtRest, Rests}
use Rattle.fk_turn.specs.declared.feed_turn.FeedTurn.{FeedTurn as GivenTurn}
use Rattle.fk_turn.specs.Rules.{rules_by, turn_of}
use Rattle.fk_turn.specs.Serving.{ServesWhole, FailsAtDisk, WantsMemory, OwesItsLive}
use Rattle.fk_daemon.specs.declared.task.Task.{Task}
use Rattle.fk_daemon.specs.declared.session.Session.{Session}
use Rattle.fk_daemon.specs.declared.session.Stop.{Stop}
use Rattle.fk_daemon.specs.declared.session.Stop.TheVariants as stop
use Rattle.fk_log.specs.Printing.{SinkView, Prints}
use Rattle.fk_daemon.specs.Outside.{Outside, Feeds, outside_by}
use Rattle.fk_daemon.specs.Account.{Account, IsServing, tried_changes}
use Rattle.fk_daemon.specs.Moments.{SparesUnlessOlder}
use Rattle.fk_daemon.specs.Serving.{HasStatus, WantsMemoryLast, HasCauses}

-- a session with its feed, its host and its output
pub record Standing : Type 1 where
  pub session : Session
  pub outside : Outside

abbrev pub standing_by : {E H K : Type 0} → FeedMeaning E → DiskMeaning H → SinkMeaning K → Session → E → H → K → Standing
standing_by feed_means disk_means sink_means session feed host sink =
    record { session = session; outside = outside_by feed_means disk_means sink_means feed host sink }

abbrev pub output_of : Standing → Output
output_of at = output at.session.log at.outside.sink.written at.outside.sink.faults

abbrev pub scene_of : Standing → Scene
scene_of at = record { daemon = at.session.daemon; host = at.outside.host; output = output_of at }

-- a log that has no line yet
abbrev pub new_log : Verbosity → LogState
new_log verbosity = record { verbosity = verbosity; tally = blank_tally; is_broken = false }

-- a daemon was opened over the ledger that the areas hold
pub record OpensDaemon (conf : Conf) (old new : View) (daemon : DaemonState) : Type 0 where
  pub rests : (out : Output) → AtRest conf (record { daemon = daemon; host = new; output = out }) (entry daemon.book.changes)
  pub found : IfTold old.told new.told (λ before later. HoldsLedger before.areas daemon.book.changes)
  pub moments : IfTold old.told new.told (IsLedgerOpening daemon.book.changes true old.images new.images)
  pub others : SparesUnlessOlder old new
  pub trace : IfTold old.told new.told (λ before later. later.trace ≡ before.trace)
  pub disk : new.faults ≡ old.faults

-- why no daemon was opened
abbrev pub HasOpeningCause : JournalErr → View → View → Type 0
HasOpeningCause Disk old new = new.faults ≡ counted old.faults
HasOpeningCause (Damaged place) old new = IfTold old.told new.told (λ before later. IsLedgerDamagedAt before.areas place) × (new.faults ≡ old.faults)
HasOpeningCause NoMemory old new = new.faults ≡ old.faults

-- the status and the one line of a run without a ledger
abbrev pub SaysFault : Verbosity → JournalErr → SinkView → SinkView → Status → Type 0
SaysFault verbosity Disk old new answer =
    (answer ≡ status.DiskFault) × ((is_broken : Bool) × Prints (shown_text verbosity (DiskFailedLine ∷ [])) is_broken old new)
SaysFault verbosity (Damaged place) old new answer =
    (answer ≡ status.Damaged) × ((is_broken : Bool) × Prints (shown_text verbosity (DamagedLine place ∷ [])) is_broken old new)
SaysFault verbosity NoMemory old new answer = (answer ≡ status.NoMemory) × (new ≡ old)

-- What a crash at the moment leaves of a run, but for what follows of every legal run.
pub record IsCrashed (run : Run) (tried : List Change) (moment count : ℕ) : Type 0 where
  pub over : (front : List TakenTurn) (next : TakenTurn) (later : List TakenTurn) → run.turns ≡ front ++ next ∷ later
      → list_any (λ item. is_turn item.event) (items_by moment next.items) ≡ true → length (flat_map (λ taken. taken.changes) front) ≤ count
  pub turns : List TakenTurn
  pub untaken : List FeedTurn
  pub of_feed : turns_of (crashed run turns) ++ untaken ≡ turns_of run
  pub items : trace_of (crashed run turns) ≡ items_by moment (trace_of run)
  pub changes : changes_of (crashed run turns) ≡ take count tried
  pub legal : Legal (crashed run turns)

-- an image that a crash at the moment leaves of a run
pub record HoldsCrash (run : Run) (tried : List Change) (least moment : ℕ) (image : Areas) : Type 0 where
  pub count : ℕ
  pub enough : least ≤ count
  pub left : IsCrashed run tried moment count
  pub holds : HoldsState (after run.ledger (take count tried)) image

-- what the turns of a run that tried these changes add to the host
pub record AddsTurns (run : Run) (tried : List Change) (old new : View) : Type 0 where
  pub trace : IfTold old.told new.told (AddsItems (trace_of run))
  pub moments : IfTold old.told new.told (Moments (HoldsCrash run tried) (length (changes_of run)) old.images new.images)
  pub others : AreNoFloors tried → SparesOthers old new

-- the session begins with this ledger
pub record Begins (task : Task) (ledger : List Change) (at : Standing) : Type 0 where
  pub rests : AtRest task.policy.conf.now (scene_of at) (entry ledger)
  pub turns : at.session.turns ≡ 0
  pub packets : at.session.packets ≡ 0

abbrev pub BeginsSomehow : Task → Standing → Type 0
BeginsSomehow task at = (ledger : List Change) × Begins task ledger at

-- the session may serve a turn
pub record MayServe (task : Task) (at : Standing) : Type 0 where
  pub rests : Rests task.policy.conf.now (scene_of at)
  pub few : at.session.daemon.turns < 2 ^ 63
  pub turns : at.session.turns < 2 ^ 63
  pub packets : at.session.packets ≤ at.session.turns

-- the turn came from the feed
pub record Takes (turn : FeedTurn) (old new : Outside) : Type 0 where
  pub given : GivesTurns (turn ∷ []) old.feed.given new.feed.given
  pub faults : new.feed.faults ≡ old.feed.faults

-- the turn was served whole
pub record ServesNext (task : Task) (turn : FeedTurn) (place : Place) (old new : Standing) : Type 0 where
  pub serves : ServesWhole task.policy place turn (scene_of old) (scene_of new)
  pub turns : new.session.turns ≡ old.session.turns + 1
  pub packets : new.session.packets ≡ old.session.packets + (if is_datagram turn.input then 1 else 0)

-- what came of a turn that was taken, from the place
abbrev pub ServesTaken : Task → FeedTurn → Option Stop → Place → Standing → Standing → Type 0
ServesTaken task turn None place old new = ServesNext task turn place old new
ServesTaken task turn (Some stop.DiskFault) place old new = FailsAtDisk task.policy place turn (scene_of old) (scene_of new)
ServesTaken task turn (Some stop.NoMemory) place old new = WantsMemory task.policy place turn (scene_of old) (scene_of new)
ServesTaken task turn (Some _) place old new = ⊥

-- all that is said of the host is as before
pub record LeavesView (old new : View) : Type 0 where
  pub told : new.told ≡ old.told
  pub images : (moment : ℕ) (image : Areas) → new.images moment image ↔ old.images moment image
  pub faults : new.faults ≡ old.faults

-- nothing but the feed was called, and it gave no turn
pub record TakesNone (conf : Conf) (place : Place) (old new : Standing) : Type 0 where
  pub session : new.session ≡ old.session
  pub rests : AtRest conf (scene_of new) place
  pub host : LeavesView old.outside.host new.outside.host
  pub sink : new.outside.sink ≡ old.outside.sink
  pub given : GivesTurns [] old.outside.feed.given new.outside.feed.given

-- what came of asking the feed for the next turn, from the place
abbrev pub AsksNext : Task → Option Stop → Place → Standing → Standing → Type 0
AsksNext task (Some stop.Limit) place old new = ⊥
AsksNext task (Some stop.End) place old new =
    TakesNone task.policy.conf.now place old new × (new.outside.feed.faults ≡ old.outside.feed.faults) × (new.outside.feed.has_ended ≡ true)
AsksNext task (Some stop.FeedFault) place old new =
    TakesNone task.policy.conf.now place old new × (new.outside.feed.faults ≡ counted old.outside.feed.faults)
AsksNext task result place old new = (turn : FeedTurn) × Takes turn old.outside new.outside × ServesTaken task turn result place old new

abbrev pub ending_of : Stop → Ending
ending_of stop.Limit = AtLimit
ending_of stop.End = AtEnd
ending_of stop.FeedFault = AtFeedFault
ending_of stop.DiskFault = AtDiskFault
ending_of stop.NoMemory = AtWantOfMemory

abbrev pub run_of : Task → List Change → ℕ → Ending → List TakenTurn → Run
run_of task ledger faults ending turns =
    record { rules = rules_by task.policy; ledger = ledger; faults = faults; turns = turns; ending = ending }

-- a limit is reached, where so many turns were served and brought so many datagrams
abbrev pub is_over : Limits → ℕ → ℕ → Bool
is_over limits turns packets = nat_le (turn_limit limits) turns || option_map_or (λ most. nat_le most packets) limits.packets false

-- what a turn of the feed is, as it is handed in: the end is none
abbrev pub IsFeedTurn : Turn → List ℕ → Option GivenTurn → Type 0
IsFeedTurn turn buffer None = (is_end_input turn.input ≡ true) × (turns_of_feed turn buffer ≡ [])
IsFeedTurn turn buffer (Some taken) = (is_end_input turn.input ≡ false) × (turns_of_feed turn buffer ≡ turn_of taken ∷ [])

-- the session can sum up this run
pub record SumsUp (session : Session) (run : Run) : Type 0 where
  pub turns : session.turns ≡ length run.turns
  pub live : length (live session.daemon.book.changes) ≡ length (live (after run.ledger (changes_of run)))

-- no summary is wanted of a run that failed
abbrev pub MaySumUp : Stop → Session → Run → Type 0
MaySumUp stop.Limit session run = SumsUp session run
MaySumUp stop.End session run = SumsUp session run
MaySumUp _ session run = Unit {0}

-- a run from its beginning to its stop, all but its last line
pub record Finishes (task : Task) (ledger : List Change) (how : Stop) (old new : Standing) : Type 0 where
  pub account : Account
  pub turns : List TakenTurn
  pub is : account.run ≡ run_of task ledger old.outside.host.faults (ending_of how) turns
  pub serving : IsServing task account
  pub given : Feeds account.opening task.policy.conf.now.port (turns_of account.run) old.outside.feed.given new.outside.feed.given
  pub adds : AddsTurns account.run (tried_changes account) old.outside.host new.outside.host
  pub memory : WantsMemoryLast task.policy account.run old.outside.host.told new.outside.host.told
  pub caused : HasCauses (ending_of how) old.outside new.outside
  pub logs : Logs (lines_before_end account.opening account.refusal account.run) (output_of old) (output_of new)
  pub parks : OwesItsLive new.session.daemon
  pub sums : MaySumUp how new.session account.run

abbrev pub summary_by : Session → Line
summary_by session = SummaryLine session.turns session.log.tally (length (live session.daemon.book.changes))

-- the last line of a session was printed, and its status answered
abbrev pub SaysEnd : Stop → Session → SinkView → SinkView → Status → Type 0
SaysEnd how session old new answer =
    (log : LogState)
    × Logs (ending_lines (ending_of how) (summary_by session)) (output session.log old.written old.faults) (output log new.written new.faults)
    × HasStatus (ending_of how) log.is_broken answer
