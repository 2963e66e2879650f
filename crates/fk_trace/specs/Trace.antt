-- What a run did at the calls of its host. A trace is a list of items, the first of them first. A place of a trace is told
-- by its past: the items before that place, the latest first, so that a definition looks back from there.
use Rattle.std.specs.Prelude.{ℕ, Bool, true, false, not, ◌==◌, ◌||◌, List, [], ◌∷◌, ◌++◌, Option, Some, None, if◌then◌else◌}
use Rattle.std.specs.List.{filter, list_any}
use Rattle.fk_base.specs.declared.purpose.Purpose.{Purpose}
use Rattle.fk_base.specs.declared.purpose.Purpose.TheVariants.{Open, Close}

-- what one call of the host brought
pub data Event : Type 0 where
  -- a turn began; turns are numbered from 1
  Turn : ℕ → Event
  -- a child with this number began, for this purpose and with these words
  Began : ℕ → Purpose → List (List ℕ) → Event
  -- no child began, for this purpose and with these words
  StartFailed : Purpose → List (List ℕ) → Event
  -- a poll said that the child has ended, and whether it ended well
  Ended : ℕ → Bool → Event
  -- a poll said that the child runs
  Runs : ℕ → Event
  -- a poll of the child failed
  PollFailed : ℕ → Event

-- an event, with the host's count of moments and the disk's count of faults as they stand after that call
pub record Item : Type 0 where
  pub event : Event
  pub moments : ℕ
  pub faults : ℕ

-- the past of the place behind these items, from the past of the place before them
abbrev pub past_after : List Item → List Item → List Item
past_after past [] = past
past_after past (item ∷ items) = past_after (item ∷ past) items

-- a started process: its number, and what it was started for
pub record Child : Type 0 where
  pub number : ℕ
  pub purpose : Purpose

abbrev pub is_open_of : ℕ → Purpose → Bool
is_open_of id (Open record_id) = record_id == id
is_open_of id (Close record_id) = false

abbrev pub is_close_of : ℕ → Purpose → Bool
is_close_of id (Open record_id) = false
is_close_of id (Close record_id) = record_id == id

-- the children that began before a place, the first of them first
abbrev pub begun_by : Event → List Child
begun_by (Turn number) = []
begun_by (Began number purpose words) = record { number = number; purpose = purpose } ∷ []
begun_by (StartFailed purpose words) = []
begun_by (Ended number good) = []
begun_by (Runs number) = []
begun_by (PollFailed number) = []

abbrev pub children : List Item → List Child
children [] = []
children (item ∷ past) = children past ++ begun_by item.event

-- the children without the one that the event ends
abbrev pub still_running : Event → List Child → List Child
still_running (Turn number) cs = cs
still_running (Began number purpose words) cs = cs
still_running (StartFailed purpose words) cs = cs
still_running (Ended number good) cs = filter (λ child. not (child.number == number)) cs
still_running (Runs number) cs = cs
still_running (PollFailed number) cs = cs

-- the children that run at a place: their Began stands before it and their Ended doesn't
abbrev pub running : List Item → List Child
running [] = []
running (item ∷ past) = still_running item.event (running past) ++ begun_by item.event

-- an open of the record runs
abbrev pub open_runs : List Item → ℕ → Bool
open_runs past id = list_any (λ child. is_open_of id child.purpose) (running past)

-- a close of the record runs
abbrev pub close_runs : List Item → ℕ → Bool
close_runs past id = list_any (λ child. is_close_of id child.purpose) (running past)

-- an attempt to start a child: with what purpose and words, and whether the child began
pub record Attempt : Type 0 where
  pub purpose : Purpose
  pub words : List (List ℕ)
  pub begun : Bool

abbrev pub attempt_of : Event → Option Attempt
attempt_of (Turn number) = None
attempt_of (Began number purpose words) = Some (record { purpose = purpose; words = words; begun = true })
attempt_of (StartFailed purpose words) = Some (record { purpose = purpose; words = words; begun = false })
attempt_of (Ended number good) = None
attempt_of (Runs number) = None
attempt_of (PollFailed number) = None

abbrev pub is_turn : Event → Bool
is_turn (Turn number) = true
is_turn (Began number purpose words) = false
is_turn (StartFailed purpose words) = false
is_turn (Ended number good) = false
is_turn (Runs number) = false
is_turn (PollFailed number) = false

abbrev pub is_close_attempt_of : ℕ → Event → Bool
is_close_attempt_of id (Turn number) = false
is_close_attempt_of id (Began number purpose words) = is_close_of id purpose
is_close_attempt_of id (StartFailed purpose words) = is_close_of id purpose
is_close_attempt_of id (Ended number good) = false
is_close_attempt_of id (Runs number) = false
is_close_attempt_of id (PollFailed number) = false

-- a close of the record was attempted since the last turn began
abbrev pub close_tried : List Item → ℕ → Bool
close_tried [] id = false
close_tried (item ∷ past) id = if is_turn item.event then false else (is_close_attempt_of id item.event || close_tried past id)

-- a close of the record was attempted in these items
abbrev pub close_attempted : List Item → ℕ → Bool
close_attempted items id = list_any (λ item. is_close_attempt_of id item.event) items
