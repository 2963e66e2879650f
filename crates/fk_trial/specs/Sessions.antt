-- What the contracts of this crate's private functions speak of. No public contract cites it, so no caller has to believe it.
use Rattle.std.specs.Prelude.{◌≡◌, ℕ, ◌+◌, ◌<◌, ◌≤◌, ◌^◌, Bool, false, List, [], ◌∷◌, ◌++◌, length, map, Option, Some, None}
use Rattle.std.specs.List.{AllByRecursion, flat_map}
use Rattle.fk_base.specs.declared.status.Status.{Status}
use Rattle.fk_trace.specs.Trace.{Item}
use Rattle.fk_trace.specs.Decision.{FeedTurn}
use Rattle.fk_trace.specs.Ledger.{after, live}
use Rattle.fk_run.specs.Place.{Place, entry}
use Rattle.fk_run.specs.Turn.{TakenTurn, WholeTurn, after_turn, after_turns}
use Rattle.fk_run.specs.Run.{Run, Ending}
use Rattle.fk_run.specs.Run.Ending.{AtEnd, AtWantOfMemory, AtBadLine, AtLongInput, AtReadFault}
use Rattle.fk_run.specs.Legal.{LegalTurns}
use Rattle.fk_host.specs.declared.stream.Source.{Ghosts as SourceMeaning}
use Rattle.fk_host.specs.declared.stream.Sink.{Ghosts as SinkMeaning}
use Rattle.fk_host.specs.Count.{counted}
use Rattle.fk_memory.specs.Host.{HostState, told_of, leaves_of, above_of}
use Rattle.fk_input.specs.Lines.{input_limit}
use Rattle.fk_input.specs.Reading.{rest}
use Rattle.fk_input.specs.Progress.{HasRead}
use Rattle.fk_log.specs.Line.{Line}
use Rattle.fk_log.specs.Line.Line.{SummaryLine}
use Rattle.fk_log.specs.Log.{ending_lines, lines_of_turns, turn_lines}
use Rattle.fk_log.specs.Log.RefusalLine.{Told}
use Rattle.fk_log.specs.Printing.{SinkView}
use Rattle.fk_log.specs.Shown.{shown_text}
use Rattle.fk_log.specs.Tally.{tallied}
use Rattle.fk_log.specs.Writing.{LogState, Output, Writes, Logs, output}
use Rattle.fk_conf.specs.declared.conf.Conf.{Conf}
use Rattle.fk_child.specs.View.{View}
use Rattle.fk_turn.specs.declared.policy.Policy.{Policy}
use Rattle.fk_turn.specs.Daemon.{DaemonState, AtRest, scene}
use Rattle.fk_turn.specs.Rules.{rules_by}
use Rattle.fk_turn.specs.Serving.{OwesItsLive}
use Rattle.fk_trial.specs.declared.session.Session.{Session}
use Rattle.fk_trial.specs.declared.session.Stop.{Stop}
use Rattle.fk_trial.specs.declared.session.Stop.TheVariants as stop
use Rattle.fk_trial.specs.Lines.{IsNoTurnLine, IsTurnLine}
use Rattle.fk_trial.specs.Streams.{Streams, TakesAtMost, streams_by}
use Rattle.fk_trial.specs.Trace.{IsTrialTrace}
use Rattle.fk_trial.specs.Trial.{IsTrial, WantsForLine, HasTurns, HasStatus}
use Rattle.fk_trial.specs.Replay.{IsReplay}

-- a session with its input and its output
pub record Standing : Type 0 where
  pub session : Session
  pub streams : Streams

abbrev pub standing_by : {I K : Type 0} → SourceMeaning I → SinkMeaning K → Session → I → K → Standing
standing_by source sink session input out = record { session = session; streams = streams_by source sink input out }

-- what the host says
abbrev pub view : HostState → View
view host = record { told = told_of host; images = leaves_of host; faults = host.faults; above = above_of host }

-- whatever its output, the daemon over this host is at rest at the place
abbrev pub RestsAt : Conf → DaemonState → HostState → Place → Type 0
RestsAt conf daemon host place = (out : Output) → AtRest conf (scene daemon (view host) out) place

-- the log and what it is printed to; a write of it has failed where one to the output has
abbrev pub printing : Session → SinkView → Output
printing session sink = output (record session.log { is_broken = session.is_broken }) sink.written sink.faults

abbrev pub printing_of : Standing → Output
printing_of at = printing at.session at.streams.output

-- a write of the log's own has failed only where one to the output has
abbrev pub HoldsPages : Session → Type 0
HoldsPages session = session.is_broken ≡ false → session.log.is_broken ≡ false

-- a daemon was opened over an empty ledger
pub record OpensDaemon (conf : Conf) (daemon : DaemonState) (host : HostState) : Type 0 where
  pub rests : RestsAt conf daemon host (entry [])
  pub told : host.is_short ≡ false
  pub replay : IsReplay host
  pub trace : host.trace ≡ []
  pub faults : host.faults ≡ 0

-- a session that has read no line
pub record Begins (conf : Conf) (log : LogState) (session : Session) : Type 0 where
  pub opens : OpensDaemon conf session.daemon session.host
  pub reader : session.reader ≡ record { pending = []; line = []; offset = 0; ended = false }
  pub log_is : session.log ≡ log
  pub broken : session.is_broken ≡ log.is_broken
  pub turns : session.turns ≡ 0

-- the items of these turns
abbrev pub items_in : List TakenTurn → List Item
items_in turns = flat_map (λ taken. taken.items) turns

-- What these turns have left of a session: they were served whole, and the host has told all of them.
pub record Served (policy : Policy) (turns : List TakenTurn) (session : Session) : Type 0 where
  pub whole : LegalTurns (rules_by policy) (entry []) AtEnd turns
  pub rests : RestsAt policy.conf.now session.daemon session.host (after_turns (entry []) turns)
  pub told : session.host.is_short ≡ false
  pub replay : IsReplay session.host
  pub trace : session.host.trace ≡ items_in turns
  pub faults : session.host.faults ≡ 0
  pub calm : AllByRecursion (λ item. item.faults ≡ 0) (items_in turns)
  pub well : IsTrialTrace session.host.trace
  pub count : session.turns ≡ length turns
  pub pages : HoldsPages session

-- These turns were read and served, and their lines printed.
pub record Going (policy : Policy) (turns : List TakenTurn) (old now : Standing) : Type 0 where
  pub served : Served policy turns now.session
  pub logs : Logs (lines_of_turns (rules_by policy) (entry []) Told turns) (printing_of old) (printing_of now)
  pub read : HasRead IsTurnLine old.streams.input.left (rest now.session.reader now.streams.input.left) now.session.reader (map (λ taken. taken.turn) turns)
  pub few : now.session.turns ≤ now.session.reader.offset
  pub input : now.streams.input.faults ≡ old.streams.input.faults

-- some turns were
abbrev pub GoingSomehow : Policy → Standing → Type 0
GoingSomehow policy now = (old : Standing) × (turns : List TakenTurn) × Going policy turns old now

-- the ending that a stop at this line stands for
abbrev pub ending_of : Stop → ℕ → Ending
ending_of stop.End line = AtEnd
ending_of stop.BadLine line = AtBadLine line
ending_of stop.LongInput line = AtLongInput line
ending_of stop.ReadFault line = AtReadFault
ending_of stop.NoMemory line = AtWantOfMemory

-- what the input has and has left at a stop in this line: behind the beginning memory is wanted only for a line that is a turn
abbrev pub StopsAt : Stop → ℕ → Option (List ℕ) → Option (List ℕ) → List FeedTurn → Type 0
StopsAt stop.NoMemory line before after turns = WantsForLine before turns
StopsAt how line before after turns = HasTurns (ending_of how line) before after turns

-- the input failed, once, where it is said to, and else not
abbrev pub HasInputCause : Stop → ℕ → ℕ → Type 0
HasInputCause stop.ReadFault old new = new ≡ counted old
HasInputCause _ old new = new ≡ old

abbrev pub run_of : Policy → Ending → List TakenTurn → Run
run_of policy ending turns = record { rules = rules_by policy; ledger = []; faults = 0; turns = turns; ending = ending }

-- the session can say the end of this run
pub record SumsUp (session : Session) (old : LogState) (lines : List Line) (run : Run) : Type 0 where
  pub turns : session.turns ≡ length run.turns
  pub owed : length (live session.daemon.book.changes) ≡ length (live (after [] (flat_map (λ taken. taken.changes) run.turns)))
  pub tally : session.log.tally ≡ tallied old.tally lines
  pub pages : HoldsPages session

-- no last line is wanted where memory was
abbrev pub MaySumUp : Stop → Type 0 → Type 0
MaySumUp stop.NoMemory sums = Unit {0}
MaySumUp _ sums = sums

-- a session serves no further line, and has counted each turn that it served
pub record Stopped (policy : Policy) (how : Stop) (old now : Standing) : Type 0 where
  pub turns : List TakenTurn
  pub count : now.session.turns ≡ length turns
  pub trial : IsTrial policy (run_of policy (ending_of how (length turns + 1)) turns)
  pub reading : StopsAt how (length turns + 1) old.streams.input.left now.streams.input.left (map (λ taken. taken.turn) turns)
  pub cause : HasInputCause how old.streams.input.faults now.streams.input.faults
  pub bounded : TakesAtMost (input_limit + 1) old.streams.input.left now.streams.input.left
  pub verbosity : now.session.log.verbosity ≡ old.session.log.verbosity
  pub written : Writes old.session.is_broken now.session.is_broken
      (shown_text old.session.log.verbosity (lines_of_turns (rules_by policy) (entry []) Told turns)) (printing_of old) (printing_of now)
  pub parks : OwesItsLive now.session.daemon
  pub few : now.session.turns ≤ input_limit
  pub sums : MaySumUp how (SumsUp now.session old.session.log (lines_of_turns (rules_by policy) (entry []) Told turns) (run_of policy (ending_of how (length turns + 1)) turns))

-- a line was served, and the next one may be; or none is any more
abbrev pub GoesOn : Policy → Option Stop → List TakenTurn → Standing → Standing → Type 0
GoesOn policy None turns old now = (taken : TakenTurn) × Going policy (turns ++ taken ∷ []) old now
GoesOn policy (Some how) turns old now = Stopped policy how old now

-- a session may serve a turn
pub record MayServe (conf : Conf) (session : Session) (sink : SinkView) : Type 0 where
  pub place : Place
  pub rests : RestsAt conf session.daemon session.host place
  pub few : session.daemon.turns < 2 ^ 63
  pub turns : session.turns < 2 ^ 63

-- a turn was served whole and its lines printed
pub record ServesTurn (policy : Policy) (turn : FeedTurn) (place : Place) (old new : Session) (before after : SinkView) : Type 0 where
  pub taken : TakenTurn
  pub of_turn : taken.turn ≡ turn
  pub whole : WholeTurn (rules_by policy) place taken
  pub rests : RestsAt policy.conf.now new.daemon new.host (after_turn place taken)
  pub told : new.host.is_short ≡ false
  pub replay : IsReplay new.host
  pub trace : new.host.trace ≡ old.host.trace ++ taken.items
  pub faults : new.host.faults ≡ old.host.faults
  pub calm : AllByRecursion (λ item. item.faults ≡ old.host.faults) taken.items
  pub well : IsTrialTrace old.host.trace → IsTrialTrace new.host.trace
  pub logs : HoldsPages old → HoldsPages new × Logs (turn_lines (rules_by policy) place Told taken) (printing old before) (printing new after)
  pub count : new.turns ≡ old.turns + 1
  pub reader : new.reader ≡ old.reader

-- the line that was read last is a turn, of which nothing was printed, and the daemon can be parked
pub record StopsServing (old new : Session) (before after : SinkView) : Type 0 where
  pub turn : FeedTurn
  pub is_line : IsTurnLine old.reader.line turn
  pub parks : OwesItsLive new.daemon
  pub broken : new.is_broken ≡ old.is_broken
  pub verbosity : new.log.verbosity ≡ old.log.verbosity
  pub turns : new.turns ≡ old.turns
  pub reader : new.reader ≡ old.reader
  pub sink : after ≡ before

-- what came of the line that was read last
abbrev pub ServesLine : Policy → Option Stop → Place → Session → Session → SinkView → SinkView → Type 0
ServesLine policy None place old new before after =
    (turn : FeedTurn) × IsTurnLine old.reader.line turn × ServesTurn policy turn place old new before after
ServesLine policy (Some stop.BadLine) place old new before after =
    IsNoTurnLine old.reader.line × (new ≡ old) × (after ≡ before)
ServesLine policy (Some stop.NoMemory) place old new before after = StopsServing old new before after
ServesLine policy (Some _) place old new before after = ⊥

-- the page of a turn was printed and the turn counted, or the log could not write all of it
abbrev pub PrintsPage : List ℕ → Option Stop → Session → Session → SinkView → SinkView → Type 0
PrintsPage page None old new before after =
    (old.is_broken ≡ false → old.log.is_broken ≡ false)
    × (new ≡ record old { turns = old.turns + 1; is_broken = new.is_broken })
    × Writes old.is_broken new.is_broken page (printing old before) (printing new after)
PrintsPage page (Some stop.NoMemory) old new before after = (new ≡ old) × (after ≡ before)
PrintsPage page (Some _) old new before after = ⊥

-- the summary of a session
abbrev pub summary_by : Session → Line
summary_by session = SummaryLine session.turns session.log.tally (length (live session.daemon.book.changes))

-- the last lines of a session that stopped so
abbrev pub last_lines : Stop → ℕ → Line → List Line
last_lines how turns summary = ending_lines (ending_of how (turns + 1)) summary

-- The text was given to an output that was broken before, as the first Bool says, and is now, as the second does.
abbrev pub Sends : List ℕ → Bool → Bool → SinkView → SinkView → Type 0
Sends text old_broken new_broken before after =
    (log other : LogState) → Writes old_broken new_broken text (output log before.written before.faults) (output other after.written after.faults)

-- the last line was printed, where there is one and no write has failed
abbrev pub SaysLast : Stop → Session → Session → SinkView → SinkView → Type 0
SaysLast how old new before after =
    Writes old.is_broken new.is_broken (shown_text old.log.verbosity (last_lines how old.turns (summary_by old))) (printing old before) (printing new after)

-- the last line was printed where no write has failed, and the status answered
pub record EndsSo (how : Stop) (session : Session) (answer : Status) (before after : SinkView) : Type 0 where
  pub is_broken : Bool
  pub written : Writes session.is_broken is_broken (shown_text session.log.verbosity (last_lines how session.turns (summary_by session)))
      (printing session before) (printing session after)
  pub answered : HasStatus (ending_of how (session.turns + 1)) is_broken answer

-- a session may say how it ended
abbrev pub MayEnd : Stop → Session → Type 0
MayEnd how session = OwesItsLive session.daemon × (session.turns ≤ input_limit) × MaySumUp how (HoldsPages session)
