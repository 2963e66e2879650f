-- One turn of a run: what it brought, what the host's calls were in it, and what it changed in the ledger.
use Rattle.std.specs.Prelude.{◌≡◌, ◌≢◌, ◌⊎◌, ◌↔◌, ℕ, ◌+◌, ◌≤◌, IsTrue, List, [], ◌∷◌, ◌++◌}
use Rattle.std.specs.List.{AllZip, AllPairs, AllByRecursion, Contains}
use Rattle.fk_base.specs.declared.purpose.Purpose.TheVariants.{Close}
use Rattle.fk_trace.specs.declared.change.OpenRecord.{OpenRecord}
use Rattle.fk_trace.specs.declared.change.Change.{Change}
use Rattle.fk_trace.specs.Trace.{Item}
use Rattle.fk_trace.specs.Trace.Event.{Turn}
use Rattle.fk_trace.specs.Ledger.{live, after}
use Rattle.fk_trace.specs.Idle.{is_idle}
use Rattle.fk_trace.specs.Decision.{FeedTurn, Rules, answer, recorded_by}
use Rattle.fk_trace.specs.Settled.{settlements}
use Rattle.fk_trace.specs.Attempts.{PollsEachOnce, IsAttempt, AttemptsThatOpen, Precedes, IsNoAttempt, IsNoPoll}
use Rattle.fk_run.specs.Place.{Place, behind, changed}

-- a turn that was taken
pub record TakenTurn : Type 0 where
  -- what the feed gave
  pub turn : FeedTurn
  -- what the calls of the host brought, the beginning of the turn first
  pub items : List Item
  -- what was changed in the ledger
  pub changes : List Change

-- the place after a turn
abbrev pub after_turn : Place → TakenTurn → Place
after_turn place taken = record (changed (behind taken.turn.moment place taken.items) taken.changes) { number = place.number + 1 }

abbrev pub after_turns : Place → List TakenTurn → Place
after_turns place [] = place
after_turns place (taken ∷ later) = after_turns (after_turn place taken) later

-- the record is live at the place, its close is due at the moment, and it is idle
pub record IsDueIdle (place : Place) (moment : ℕ) (item : OpenRecord) : Type 0 where
  pub lives : Contains (live place.ledger) item
  pub due : item.due ≤ moment
  pub idle : IsTrue (is_idle place.past place.ends moment item.id)

-- the close of each such record is attempted exactly once and with its own words, and no other, by rising due and number
pub record AttemptsEachDue (place : Place) (moment : ℕ) (attempts : List Item) : Type 0 where
  pub order : List OpenRecord
  pub attempted : AllZip (λ closing item. IsAttempt (Close closing.id) closing.close item.event) order attempts
  pub rising : AllPairs Precedes order
  pub each : (closing : OpenRecord) → Contains order closing ↔ IsDueIdle place moment closing

-- a whole turn at a place, with its six laws; each names the places between its parts by what stands before them
pub record WholeTurn (rules : Rules) (place : Place) (taken : TakenTurn) : Type 0 where
  pub start : Item
  pub polled : List Item
  pub opened : List Item
  pub closed : List Item
  pub settled : List Change
  pub recorded : List Change
  pub polls_each_running_child_once : PollsEachOnce (start ∷ place.past) polled
  pub settles_clean_good_ends : settled ≡ settlements (start ∷ place.past) polled
  pub records_what_is_granted : recorded ≡ recorded_by (answer rules (after place.ledger settled) taken.turn)
  pub attempts_that_open_once : AttemptsThatOpen (answer rules (after place.ledger settled) taken.turn) opened
  pub attempts_each_due_idle_close_once :
      AttemptsEachDue (changed (behind taken.turn.moment place (start ∷ polled ++ opened)) (settled ++ recorded)) taken.turn.moment closed
  pub nothing_else :
      (start.event ≡ Turn place.number) × (taken.items ≡ start ∷ (polled ++ opened) ++ closed) × (taken.changes ≡ settled ++ recorded)

-- The beginning of a whole turn, of which the host's calls made at least the first: its changes stand between its polls and its
-- attempts, so none is made before the last poll, and no attempt before the last change.
pub record CutTurn (rules : Rules) (place : Place) (taken : TakenTurn) : Type 0 where
  pub missing : List Item
  pub unmade : List Change
  pub whole : WholeTurn rules place (record taken { items = taken.items ++ missing; changes = taken.changes ++ unmade })
  pub begun : taken.items ≢ []
  pub changes_before_attempts : (unmade ≡ []) ⊎ AllByRecursion (λ item. IsNoAttempt item.event) taken.items
  pub polls_before_changes : (taken.changes ≡ []) ⊎ AllByRecursion (λ item. IsNoPoll item.event) missing
