-- What each of the four parts of a turn does: its beginning with the polls, the settlements, the answer to what it brought, and the
-- closes. Only private contracts cite it.
use Rattle.std.specs.Prelude.{◌≡◌, ◌≢◌, ◌⊎◌, ℕ, ◌+◌, ◌≤◌, length, true, false, List, [], ◌∷◌, ◌++◌, map, None, Result, Ok, Err}
use Rattle.fk_base.specs.CommandWords.{AreCommandWords}
use Rattle.fk_base.specs.declared.address.Ip4.{Ip4}
use Rattle.fk_base.specs.declared.grant.Grant.{Grant}
use Rattle.fk_base.specs.declared.memory.NoMemory.{NoMemory as OutOfMemory}
use Rattle.fk_base.specs.declared.memory.Failed.{Failed}
use Rattle.fk_base.specs.declared.purpose.Purpose.{Purpose}
use Rattle.fk_base.specs.declared.purpose.Purpose.TheVariants.{Close}
use Rattle.fk_trace.specs.declared.change.OpenRecord.{OpenRecord}
use Rattle.fk_trace.specs.declared.change.Change.{Change}
use Rattle.fk_trace.specs.declared.change.Change.TheVariants.{Open as OpenChange, Done}
use Rattle.fk_trace.specs.declared.refusal.LogWhy.{LogWhy}
use Rattle.fk_trace.specs.Trace.{Item}
use Rattle.fk_trace.specs.Trace.Event.{Turn}
use Rattle.fk_trace.specs.Ledger.{opens, is_seen, IsSeen, floor_of, after}
use Rattle.fk_trace.specs.Decision.{FeedTurn, Permit, Answer, answer, record_of, recorded_by}
use Rattle.fk_trace.specs.Decision.Input.{Datagram}
use Rattle.fk_trace.specs.Decision.Answer.{Refuses, Opens}
use Rattle.fk_trace.specs.Decision.Verdict.{Granted}
use Rattle.fk_trace.specs.Settled.{settled_in}
use Rattle.fk_trace.specs.Attempts.{PollsEachOnce, IsAttempt, AttemptsThatOpen}
use Rattle.fk_run.specs.Place.{Place, behind, changed}
use Rattle.fk_host.specs.Count.{counted}
use Rattle.fk_log.specs.Line.{Line}
use Rattle.fk_log.specs.Line.Line.{TurnLine, SettledLine, EndedLine, PollFailedLine}
use Rattle.fk_log.specs.Log.{poll_lines, input_lines, attempt_lines}
use Rattle.fk_log.specs.Log.RefusalLine.{Told, Untold}
use Rattle.fk_log.specs.Writing.{Logs}
use Rattle.fk_conf.specs.declared.conf.Conf.{Conf}
use Rattle.fk_ledger.specs.Payloads.{greatest_stamp, record_bytes}
use Rattle.fk_child.specs.declared.items.EndItem.{EndItem}
use Rattle.fk_child.specs.declared.items.PollEnd.{PollEnd}
use Rattle.fk_child.specs.declared.items.PollEnd.TheVariants.{Good, Bad, Failed as FailedPoll}
use Rattle.fk_child.specs.View.{MakesCalls, Adds}
use Rattle.fk_child.specs.Calls.{IsNextClose, NoneIsDue}
use Rattle.fk_turn.specs.declared.policy.Policy.{Policy}
use Rattle.fk_turn.specs.declared.turn_err.TurnErr.{TurnErr}
use Rattle.fk_turn.specs.declared.turn_err.TurnErr.TheVariants.{Disk, NoMemory}
use Rattle.fk_turn.specs.declared.decision.Draft.{Draft}
use Rattle.fk_turn.specs.Daemon.{DaemonState, DaemonStands, Scene}
use Rattle.fk_turn.specs.Rules.{HasRightCode, rules_by, permit_of}
use Rattle.fk_turn.specs.Serving.{OwesItsLive, calls_for}

-- what a part of a turn adds to the trace, to the ledger and to the log
pub record Part : Type 0 where
  pub items : List Item
  pub changes : List Change
  pub lines : List Line

abbrev pub joined : Part → Part → Part
joined a b = record { items = a.items ++ b.items; changes = a.changes ++ b.changes; lines = a.lines ++ b.lines }

-- the place behind a part of a turn with this moment
abbrev pub reached : ℕ → Place → Part → Place
reached moment place part = behind moment (changed place part.changes) part.items

-- Such a part of a turn was served from the place. No call of the disk failed.
pub record ServesPart (conf : Conf) (moment : ℕ) (place : Place) (part : Part) (old new : Scene) : Type 0 where
  pub adds : Adds part.items place.ledger part.changes [] old.host new.host
  pub disk : new.host.faults ≡ old.host.faults
  pub logs : Logs part.lines old.output new.output
  pub stands : DaemonStands conf new (reached moment place part)

-- the line of an end, or of a failed poll
abbrev pub line_of_end : ℕ → Purpose → PollEnd → Line
line_of_end moment purpose Good = EndedLine moment purpose true
line_of_end moment purpose Bad = EndedLine moment purpose false
line_of_end moment purpose FailedPoll = PollFailedLine moment purpose

abbrev pub end_line : ℕ → EndItem → Line
end_line moment item = line_of_end moment item.purpose item.end

-- what the beginning of a turn adds
abbrev pub beginning : ℕ → Place → Item → List Item → Part
beginning moment place start polled = record {
  items = start ∷ polled;
  changes = [];
  lines = TurnLine moment place.number ∷ poll_lines moment (start ∷ place.past) polled;
}

-- a turn began, each child that runs was polled, and what is to be settled is known
pub record BeginsTurn (conf : Conf) (moment : ℕ) (place : Place) (old new : Scene) : Type 0 where
  pub start : Item
  pub polled : List Item
  pub begins : start.event ≡ Turn place.number
  pub polls : PollsEachOnce (start ∷ place.past) polled
  pub calls : MakesCalls (calls_for (start ∷ polled) place.ledger []) old.host new.host
  pub serves : ServesPart conf moment place (beginning moment place start polled) old new
  pub unsettled : new.daemon.crew.unsettled ≡ settled_in (start ∷ place.past) polled

-- what the settlement of these records adds
abbrev pub settlement : ℕ → List ℕ → Part
settlement moment ids = record { items = []; changes = map Done ids; lines = map (SettledLine moment) ids }

-- all that was to be settled is
pub record SettlesWhole (conf : Conf) (moment : ℕ) (place : Place) (old new : Scene) : Type 0 where
  pub calls : MakesCalls (calls_for [] place.ledger (map Done old.daemon.crew.unsettled)) old.host new.host
  pub serves : ServesPart conf moment place (settlement moment old.daemon.crew.unsettled) old new
  pub settled : new.daemon.crew.unsettled ≡ []

-- the disk failed while a record was settled, behind those before it
pub record FailsToSettle (moment : ℕ) (place : Place) (old new : Scene) : Type 0 where
  pub made : List ℕ
  pub failed : ℕ
  pub later : List ℕ
  pub order : old.daemon.crew.unsettled ≡ made ++ failed ∷ later
  pub adds : Adds [] place.ledger (map Done made) (Done failed ∷ []) old.host new.host
  pub disk : new.host.faults ≡ counted old.host.faults
  pub logs : Logs (map (SettledLine moment) made) old.output new.output
  pub book : new.daemon.book.changes ≡ after place.ledger (map Done made)
  pub parks : OwesItsLive new.daemon

abbrev pub Settles : {T : Type 0} → Conf → ℕ → Place → Scene → Scene → Result T Failed → Type 0
Settles conf moment place old new (Ok _) = SettlesWhole conf moment place old new
Settles conf moment place old new (Err _) = FailsToSettle moment place old new

-- what is answered to a turn at a place behind its settlements
abbrev pub answer_at : Policy → Place → FeedTurn → Answer
answer_at policy place turn = answer (rules_by policy) place.ledger turn

-- what an answer adds with these attempts
abbrev pub answering : FeedTurn → Answer → List Item → Part
answering turn given opened = record {
  items = opened;
  changes = recorded_by given;
  lines = input_lines turn.moment turn.input Told (recorded_by given) given ++ attempt_lines turn.moment opened;
}

-- what a turn brought was answered: it was refused and told so, or recorded and its open attempted once
pub record AnswersWhole (policy : Policy) (place : Place) (turn : FeedTurn) (old new : Scene) : Type 0 where
  pub opened : List Item
  pub attempts : AttemptsThatOpen (answer_at policy place turn) opened
  pub calls : MakesCalls (calls_for opened place.ledger (recorded_by (answer_at policy place turn))) old.host new.host
  pub serves : ServesPart policy.conf.now turn.moment place (answering turn (answer_at policy place turn) opened) old new
  pub settled : new.daemon.crew.unsettled ≡ []

-- the disk failed while the record was made
pub record FailsToRecord (policy : Policy) (place : Place) (turn : FeedTurn) (old new : Scene) : Type 0 where
  pub item : OpenRecord
  pub permit : Permit
  pub making : List Change
  pub given : answer_at policy place turn ≡ Opens item permit making
  pub adds : Adds [] place.ledger [] making old.host new.host
  pub disk : new.host.faults ≡ counted old.host.faults
  pub logs : Logs [] old.output new.output
  pub book : new.daemon.book.changes ≡ place.ledger
  pub parks : OwesItsLive new.daemon

-- Memory was wanting for a datagram of the right shape, with a right HMAC, that is not recorded: before its record, or in the host's
-- start behind it.
pub record WantsToAnswer (policy : Policy) (place : Place) (turn : FeedTurn) (old new : Scene) : Type 0 where
  pub source : Ip4
  pub datagram : List ℕ
  pub brought : turn.input ≡ Datagram source datagram
  pub formed : (rules_by policy).misshapen datagram ≡ None
  pub fresh : IsSeen ((rules_by policy).digest datagram) place.ledger → ⊥
  pub code : HasRightCode policy turn.moment source datagram
  pub changes : List Change
  pub front : ((changes ≡ []) × MakesCalls 0 old.host new.host)
      ⊎ ((changes ≡ recorded_by (answer_at policy place turn)) × (opens changes ≢ []) × MakesCalls (calls_for [] place.ledger changes + 1) old.host new.host)
  pub adds : Adds [] place.ledger changes [] old.host new.host
  pub disk : new.host.faults ≡ old.host.faults
  pub logs : Logs (input_lines turn.moment turn.input Untold changes (answer_at policy place turn)) old.output new.output
  pub book : new.daemon.book.changes ≡ after place.ledger changes
  pub parks : OwesItsLive new.daemon

abbrev pub Answers : {T : Type 0} → Policy → Place → FeedTurn → Scene → Scene → Result T TurnErr → Type 0
Answers policy place turn old new (Ok _) = AnswersWhole policy place turn old new
Answers policy place turn old new (Err Disk) = FailsToRecord policy place turn old new
Answers policy place turn old new (Err NoMemory) = WantsToAnswer policy place turn old new

-- from the place the items are attempts of the closes that are due next, one after another
abbrev pub AttemptsNext : ℕ → Place → List Item → Type 0
AttemptsNext moment place [] = Unit {0}
AttemptsNext moment place (item ∷ items) =
    ((closing : OpenRecord) × IsNextClose moment place closing × IsAttempt (Close closing.id) closing.close item.event)
    × AttemptsNext moment (behind moment place (item ∷ [])) items

-- what the attempts of closes add
abbrev pub closing_part : ℕ → List Item → Part
closing_part moment closed = record { items = closed; changes = []; lines = attempt_lines moment closed }

-- these closes were attempted, those that are due next, and so many further calls of the host brought nothing
pub record AttemptsCloses (further : ℕ) (conf : Conf) (moment : ℕ) (place : Place) (old new : Scene) : Type 0 where
  pub closed : List Item
  pub calls : MakesCalls (length closed + further) old.host new.host
  pub attempts : AttemptsNext moment place closed
  pub serves : ServesPart conf moment place (closing_part moment closed) old new
  pub settled : new.daemon.crew.unsettled ≡ []

-- they are all that are due, or memory was wanting in the host's start of another one
abbrev pub Closes : {T : Type 0} → Conf → ℕ → Place → Scene → Scene → Result T OutOfMemory → Type 0
Closes conf moment place old new (Ok _) =
    (done : AttemptsCloses 0 conf moment place old new) × NoneIsDue moment (behind moment place done.closed)
Closes conf moment place old new (Err _) =
    (done : AttemptsCloses 1 conf moment place old new)
    × ((closing : OpenRecord) × IsNextClose moment (behind moment place done.closed) closing)

-- a turn that brought this datagram
abbrev pub datagram_turn : ℕ → Ip4 → List ℕ → FeedTurn
datagram_turn moment source datagram = record { moment = moment; input = Datagram source datagram }

-- the datagram is refused for this reason, whatever room there is
abbrev pub IsRefusedBy : Policy → List Change → ℕ → Ip4 → List ℕ → LogWhy → Type 0
IsRefusedBy policy ledger moment source datagram why = answer (rules_by policy) ledger (datagram_turn moment source datagram) ≡ Refuses why

-- the datagram has the right shape, is not recorded, and is granted so, under a stamp that isn't below the floor and may be recorded
pub record IsGrantedBy (policy : Policy) (ledger : List Change) (moment : ℕ) (source : Ip4) (datagram : List ℕ) (grant : Grant) : Type 0 where
  pub formed : (rules_by policy).misshapen datagram ≡ None
  pub unseen : is_seen ((rules_by policy).digest datagram) ledger ≡ false
  pub admitted : (rules_by policy).admit moment source datagram ≡ Granted (permit_of policy.access.now grant)
  pub current : floor_of ledger ≤ grant.stamp
  pub stamp : grant.stamp ≤ greatest_stamp
  pub stanza : (1 ≤ grant.stanza) × (grant.stanza ≤ length policy.access.now)

-- the record of a grant and the words of its open, over a ledger
pub record IsDraftOf (policy : Policy) (ledger : List Change) (moment : ℕ) (datagram : List ℕ) (grant : Grant) (draft : Draft) : Type 0 where
  pub item : draft.item ≡ record_of (rules_by policy) ledger moment datagram (permit_of policy.access.now grant)
  pub opening : draft.opening ≡ (permit_of policy.access.now grant).opening

-- both commands of a draft may be started, and the daemon has room in memory for its record
pub record IsReadyFor (draft : Draft) (daemon : DaemonState) : Type 0 where
  pub opening : AreCommandWords draft.opening
  pub closing : AreCommandWords draft.item.close
  pub reserved : length (record_bytes draft.item) ≤ daemon.book.reserved
  pub room : 1 ≤ daemon.crew.room

-- nothing but room in memory was made
abbrev pub IsLike : DaemonState → DaemonState → Type 0
IsLike old new = new ≡ record { book = record old.book { reserved = new.book.reserved }; crew = record old.crew { room = new.crew.room }; turns = old.turns }
