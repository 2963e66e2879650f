-- Polls and attempts: what the calls of one turn are, and in which order they stand.
use Rattle.std.specs.Prelude.{◌≡◌, ◌⊎◌, ◌↔◌, ℕ, ◌<◌, List, [], ◌∷◌}
use Rattle.std.specs.List.{AllZip, AllPairs, Contains}
use Rattle.fk_base.specs.declared.purpose.Purpose.{Purpose}
use Rattle.fk_base.specs.declared.purpose.Purpose.TheVariants.{Open}
use Rattle.fk_trace.specs.declared.change.OpenRecord.{OpenRecord}
use Rattle.fk_trace.specs.Trace.{Event, Item, Child, running}
use Rattle.fk_trace.specs.Trace.Event.{Turn, Began, StartFailed, Ended, Runs, PollFailed}
use Rattle.fk_trace.specs.Decision.{Answer}
use Rattle.fk_trace.specs.Decision.Answer.{Nothing, Refuses, Opens}

-- the event is the answer to a poll of the child
abbrev pub IsPollOf : Child → Event → Type 0
IsPollOf child (Turn number) = ⊥
IsPollOf child (Began number purpose words) = ⊥
IsPollOf child (StartFailed purpose words) = ⊥
IsPollOf child (Ended number good) = number ≡ child.number
IsPollOf child (Runs number) = number ≡ child.number
IsPollOf child (PollFailed number) = number ≡ child.number

-- each child that runs at the place is polled exactly once, by rising number
pub record PollsEachOnce (past polled : List Item) : Type 0 where
  pub order : List Child
  pub answered : AllZip (λ child item. IsPollOf child item.event) order polled
  pub rising : AllPairs (λ earlier later. earlier.number < later.number) order
  pub each : (child : Child) → Contains order child ↔ Contains (running past) child

-- the event is an attempt to start a child for this purpose and with these words
abbrev pub IsAttempt : Purpose → List (List ℕ) → Event → Type 0
IsAttempt purpose words (Turn number) = ⊥
IsAttempt purpose words (Began number other others) = (other ≡ purpose) × (others ≡ words)
IsAttempt purpose words (StartFailed other others) = (other ≡ purpose) × (others ≡ words)
IsAttempt purpose words (Ended number good) = ⊥
IsAttempt purpose words (Runs number) = ⊥
IsAttempt purpose words (PollFailed number) = ⊥

-- exactly one attempt
abbrev pub IsOneAttempt : Purpose → List (List ℕ) → List Item → Type 0
IsOneAttempt purpose words [] = ⊥
IsOneAttempt purpose words (item ∷ []) = IsAttempt purpose words item.event
IsOneAttempt purpose words (item ∷ other ∷ items) = ⊥

-- the open that was recorded is attempted exactly once, and no other
abbrev pub AttemptsThatOpen : Answer → List Item → Type 0
AttemptsThatOpen Nothing items = items ≡ []
AttemptsThatOpen (Refuses why) items = items ≡ []
AttemptsThatOpen (Opens item permit changes) items = IsOneAttempt (Open item.id) permit.opening items

-- a record stands before another by rising due and then number
abbrev pub Precedes : OpenRecord → OpenRecord → Type 0
Precedes earlier later = (earlier.due < later.due) ⊎ ((earlier.due ≡ later.due) × (earlier.id < later.id))

-- the event is no attempt
abbrev pub IsNoAttempt : Event → Type 0
IsNoAttempt (Turn number) = Unit {0}
IsNoAttempt (Began number purpose words) = ⊥
IsNoAttempt (StartFailed purpose words) = ⊥
IsNoAttempt (Ended number good) = Unit {0}
IsNoAttempt (Runs number) = Unit {0}
IsNoAttempt (PollFailed number) = Unit {0}

-- the event is no answer to a poll
abbrev pub IsNoPoll : Event → Type 0
IsNoPoll (Turn number) = Unit {0}
IsNoPoll (Began number purpose words) = Unit {0}
IsNoPoll (StartFailed purpose words) = Unit {0}
IsNoPoll (Ended number good) = ⊥
IsNoPoll (Runs number) = ⊥
IsNoPoll (PollFailed number) = ⊥
