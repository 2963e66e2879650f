-- The headline over one run: an open is attempted only for a datagram of the same turn that the rules grant and for which there is
-- room, and at most once for each digest and stamp; a close only for a live record that is due and idle; a record is settled only where a
-- clean close of it has ended well in the same turn; and each turn that is not cut starts what is owed at it.
use Rattle.std.specs.Prelude.{◌≡◌, ◌≢◌, ◌⊎◌, ℕ, ◌+◌, ◌<◌, ◌≤◌, false, IsTrue, List, [], ◌∷◌, ◌++◌, length, map, Option, Some, None}
use Rattle.std.specs.List.{count_by, filter_map, flat_map, range_with_len, AllPairs, Contains}
use Rattle.fk_base.specs.declared.purpose.Purpose.{Purpose}
use Rattle.fk_base.specs.declared.purpose.Purpose.TheVariants.{Open, Close}
use Rattle.fk_trace.specs.declared.change.OpenRecord.{OpenRecord}
use Rattle.fk_trace.specs.declared.change.Change.{Change}
use Rattle.fk_trace.specs.Trace.{Item, Attempt, attempt_of, is_turn, close_attempted}
use Rattle.fk_trace.specs.Ledger.{key_of, opens, dones, live, next_id, after, state_of, Bars, IsLater, IsLedger}
use Rattle.fk_trace.specs.Idle.{is_idle}
use Rattle.fk_trace.specs.Decision.{Permit, IsGranted, answer}
use Rattle.fk_trace.specs.Decision.Answer.{Opens}
use Rattle.fk_trace.specs.Settled.{settled_in, settlements}
use Rattle.fk_trace.specs.Attempts.{IsAttempt}
use Rattle.fk_run.specs.Place.{Place, entry, behind, changed}
use Rattle.fk_run.specs.Turn.{TakenTurn, IsDueIdle, WholeTurn, after_turn, after_turns}
use Rattle.fk_run.specs.Run.{Run, trace_of, changes_of, cuts_turn}

-- how many turns begin in these items
abbrev pub turns_begun : List Item → ℕ
turns_begun items = count_by (λ item. is_turn item.event) items

-- behind these turns of the run stands this one
pub record IsTurnOf (run : Run) (front : List TakenTurn) (taken : TakenTurn) : Type 0 where
  pub later : List TakenTurn
  pub placed : run.turns ≡ front ++ taken ∷ later

-- Behind these items of the run, this item stands in a turn: they are the items of the turns before it and the first of its own, and
-- that turn is the last that has begun by then.
pub record StandsInTurn (run : Run) (before : List Item) (item : Item) : Type 0 where
  pub front : List TakenTurn
  pub taken : TakenTurn
  pub turn : IsTurnOf run front taken
  pub items : List Item
  pub rest : List Item
  pub among : taken.items ≡ items ++ item ∷ rest
  pub since : before ≡ flat_map (λ earlier. earlier.items) front ++ items
  pub begun : turns_begun before ≡ length front + 1

-- The open of this record is attempted with these words by this item behind these items of the run: its turn has brought the
-- datagram that was granted, over the ledger with the settlements of that turn, and the changes that make its record are the turn's last.
pub record OpensByGrant (run : Run) (before : List Item) (item : Item) (id : ℕ) (words : List (List ℕ)) : Type 0 where
  pub at : StandsInTurn run before item
  pub place : Place
  pub reached : place ≡ after_turns (entry run.ledger) at.front
  pub granted : OpenRecord
  pub making : List Change
  pub made : at.taken.changes ≡ settlements place.past at.items ++ making
  pub by_grant : IsGranted run.rules (after place.ledger (settlements place.past at.items)) at.taken.turn granted making words
  pub numbered : granted.id ≡ id

-- the record whose open an attempt is
abbrev pub opened_for : Purpose → Option ℕ
opened_for (Open id) = Some id
opened_for (Close id) = None

abbrev pub opened_by_attempt : Option Attempt → Option ℕ
opened_by_attempt None = None
opened_by_attempt (Some attempt) = opened_for attempt.purpose

-- the records whose open was attempted in these items: one for each attempt, failed ones too, in their order
abbrev pub opens_attempted : List Item → List ℕ
opens_attempted items = filter_map (λ item. opened_by_attempt (attempt_of item.event)) items

-- the changes that a run has made with these items: a Done for each clean close that ended well among them, and a record for
-- each open that was attempted
pub record AreMadeBy (items : List Item) (changes : List Change) : Type 0 where
  pub settled : dones changes ≡ settled_in [] items
  pub recorded : map (λ item. item.id) (opens changes) ≡ opens_attempted items

-- A close of this record is attempted with these words by this item behind these items of the run: all changes of its turn are made,
-- the record is live after them, its due is over, and it is idle there; the words are those of its close. (Where the run found no
-- ledger, so that a number may mean several records, nothing is said of idle.)
pub record ClosesWhenDue (run : Run) (before : List Item) (item : Item) (id : ℕ) (words : List (List ℕ)) : Type 0 where
  pub at : StandsInTurn run before item
  pub place : Place
  pub reached : place ≡ changed (behind at.taken.turn.moment (after_turns (entry run.ledger) at.front) at.items) at.taken.changes
  pub so_far : AreMadeBy before (flat_map (λ earlier. earlier.changes) at.front ++ at.taken.changes)
  pub closing : OpenRecord
  pub lives : Contains (live place.ledger) closing
  pub due : closing.due ≤ at.taken.turn.moment
  pub idle : IsLedger run.ledger → IsTrue (is_idle place.past place.ends at.taken.turn.moment closing.id)
  pub numbered : closing.id ≡ id
  pub with_words : words ≡ closing.close

-- The records of a run are numbered on from the ledger that it found, and the open of each is attempted at most once (of all but the
-- last exactly once, and of all in a run that is not cut short). No two of them have one key, and the ledger that was found barred none.
pub record OpensOnce (run : Run) : Type 0 where
  pub unattempted : List ℕ
  pub attempted : opens_attempted (trace_of run) ++ unattempted ≡ map (λ item. item.id) (opens (changes_of run))
  pub last : length unattempted ≤ 1
  pub whole : cuts_turn run.ending ≡ false → unattempted ≡ []
  pub numbered : map (λ item. item.id) (opens (changes_of run)) ≡ range_with_len (next_id run.ledger) (length (opens (changes_of run)))
  pub apart : AllPairs IsLater (map key_of (opens (changes_of run)))
  pub fresh : (item : OpenRecord) → Contains (opens (changes_of run)) item → Bars (state_of run.ledger) (key_of item) → ⊥

-- this turn of the run is not cut: the run's ending cuts none, or others follow the turn, or it is a whole one
pub record IsWholeTurnOf (run : Run) (front : List TakenTurn) (taken : TakenTurn) : Type 0 where
  pub turn : IsTurnOf run front taken
  pub uncut : (cuts_turn run.ending ≡ false) ⊎ ((turn.later ≢ []) ⊎ WholeTurn run.rules (after_turns (entry run.ledger) front) taken)

-- an attempt for this purpose and with these words is among the items
abbrev pub AttemptedIn : List Item → Purpose → List (List ℕ) → Type 0
AttemptedIn items purpose words = (item : Item) × Contains items item × IsAttempt purpose words item.event

-- Behind these turns of the run, this turn starts what is owed: the open of a datagram that is to be opened, over the ledger with
-- the settlements of this turn; the close of each record that is then live and due and of which no close was attempted in this
-- run yet; and the close of each record that is still due and idle at its end.
pub record StartsWhatIsOwed (run : Run) (front : List TakenTurn) (taken : TakenTurn) : Type 0 where
  pub place : Place
  pub reached : place ≡ after_turns (entry run.ledger) front
  pub opened : (item : OpenRecord) (permit : Permit) (making : List Change)
      → answer run.rules (after place.ledger (settlements place.past taken.items)) taken.turn ≡ Opens item permit making
      → AttemptedIn taken.items (Open item.id) permit.opening
  pub closed : (item : OpenRecord) → Contains (live (after place.ledger taken.changes)) item → item.due ≤ taken.turn.moment
      → close_attempted (flat_map (λ earlier. earlier.items) front) item.id ≡ false
      → AttemptedIn taken.items (Close item.id) item.close
  pub none_left : (item : OpenRecord) → IsDueIdle (after_turn place taken) taken.turn.moment item
      → AttemptedIn taken.items (Close item.id) item.close

-- the record is live in this turn of the run, after its changes
abbrev pub IsLiveIn : Run → List TakenTurn → TakenTurn → OpenRecord → Type 0
IsLiveIn run front taken item = Contains (live (after (after_turns (entry run.ledger) front).ledger taken.changes)) item

-- Behind these turns of the run, this is the first turn at or past the due of the record: it is live in it, and its due is over; and in
-- each earlier turn of the run it was not live or its due was yet to come.
pub record IsFirstDue (run : Run) (front : List TakenTurn) (taken : TakenTurn) (item : OpenRecord) : Type 0 where
  pub lives : IsLiveIn run front taken item
  pub due : item.due ≤ taken.turn.moment
  pub first : (before : List TakenTurn) (earlier : TakenTurn) (between : List TakenTurn) → front ≡ before ++ earlier ∷ between
      → (IsLiveIn run before earlier item → ⊥) ⊎ (earlier.turn.moment < item.due)
