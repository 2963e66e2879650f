-- What a machine keeps to itself. No public contract cites it, so no caller has to believe it.
use Rattle.std.specs.Prelude.{◌≡◌, ◌==◌, ◌&&◌, ◌<◌, ◌≤◌, ℕ, Bool, true, false, List, [], ◌∷◌, ◌++◌, ◌+◌, map, take, length, slice_index_or, Option, Some, None}
use Rattle.std.specs.List.{list_any, All, Contains}
use Rattle.fk_timer.specs.Schedule.{Entry, holds, precedes, with_entry, IsInOrder}
use Rattle.fk_trace.specs.Idle.{End}
use Rattle.fk_cycle.specs.Kept.{Kept, is_ready}

-- what waits in the timer for a record
abbrev pub entry_of : Kept → Entry
entry_of kept = record { id = kept.id; moment = kept.due }

-- what waits is one of these dues
pub record Waits (dues entries : List Entry) : Type 0 where
  pub only : (entry : Entry) → Contains entries entry → holds entry.id dues ≡ true
  pub agree : (due entry : Entry) → Contains dues due → Contains entries entry → due.id ≡ entry.id → due ≡ entry

-- these dues wait, and nothing else does
pub record IsTimed (dues entries : List Entry) : Type 0 where
  pub each : (due : Entry) → Contains dues due → Contains entries due
  pub waits : Waits dues entries

-- a close of the record with this number may be attempted at the moment
abbrev pub is_ready_at : ℕ → List Kept → ℕ → Bool
is_ready_at moment machine id = list_any (λ kept. kept.id == id && is_ready moment kept) machine

-- the answer is the number of what waits for a record that may be closed and which nothing like it precedes, and None where
-- nothing waits for such a record
abbrev pub IsFirstWaiting : ℕ → List Kept → List Entry → Option ℕ → Type 0
IsFirstWaiting moment machine entries None = (entry : Entry) → Contains entries entry → is_ready_at moment machine entry.id ≡ false
IsFirstWaiting moment machine entries (Some id) =
    (entry : Entry) × Contains entries entry × (entry.id ≡ id) × (is_ready_at moment machine id ≡ true) × ((other : Entry) → Contains entries other → is_ready_at moment machine other.id ≡ true → precedes other entry ≡ false)

-- what is stored for a record: in place of whether a close of it was tried in this turn, the number of the turn in which one
-- was tried last, and 0 before the first
pub record Stored : Type 0 where
  pub id : ℕ
  pub due : ℕ
  pub open_runs : Bool
  pub close : Option Bool
  pub last_close : Option End
  pub tried_in : ℕ

abbrev pub stored : ℕ → ℕ → Stored
stored id due =
    record { id = id; due = due; open_runs = false; close = None; last_close = None; tried_in = 0 }

-- what that says in the turn with this number
abbrev pub kept_at : ℕ → Stored → Kept
kept_at turn item =
    record { id = item.id; due = item.due; open_runs = item.open_runs; close = item.close; last_close = item.last_close; tried = item.tried_in == turn }

-- something was noted of a record in the turn with this number
pub record IsStep (turn : ℕ) (noted : Kept → Kept) (old new : Stored) : Type 0 where
  pub kept : kept_at turn new ≡ noted (kept_at turn old)
  pub number : new.id ≡ old.id
  pub tried : old.tried_in ≤ turn → new.tried_in ≤ turn

-- no number stands twice
abbrev pub IsApart : List Stored → Type 0
IsApart [] = Unit {0}
IsApart (item ∷ items) = (list_any (λ other. other.id == item.id) items ≡ false) × IsApart items

-- no close was tried in a later turn
abbrev pub IsTriedBy : ℕ → List Stored → Type 0
IsTriedBy turn [] = Unit {0}
IsTriedBy turn (item ∷ items) = (item.tried_in ≤ turn) × IsTriedBy turn items

-- what the records are kept as, from the first turn on
pub record IsRecorded (turn : ℕ) (items : List Stored) : Type 0 where
  pub apart : IsApart items
  pub tried : IsTriedBy turn items
  pub started : 1 ≤ turn

-- what is stored at the place has this number
pub record IsPlaceOf (id place : ℕ) (items : List Stored) : Type 0 where
  pub within : place < length items
  pub number : (other : Stored) → (slice_index_or items place other).id ≡ id

-- what the dues are as the machine sees them: those that have come, those still to come, how many of the first that have come
-- may not be closed at the moment `at`, and for how many more there is memory
pub record Awaited : Type 0 where
  pub come : List Entry
  pub waiting : List Entry
  pub passed : ℕ
  pub at : ℕ
  pub room : ℕ

-- those that have come stand in order, none of them still waits, and there is memory for all to have come
pub record IsAwaited (come waiting : List Entry) (room timer_room len capacity : ℕ) : Type 0 where
  pub order : IsInOrder come
  pub apart : All (λ entry. holds entry.id waiting ≡ false) come
  pub timer : room ≤ timer_room
  pub there : len + length waiting + room ≤ capacity

-- none of so many that have come first may be closed at the moment
abbrev pub HasPassed : ℕ → List Kept → ℕ → List Entry → Type 0
HasPassed at machine passed come = All (λ entry. is_ready_at at machine entry.id ≡ false) (take passed come)

-- the first that waited has come
pub record IsMoved (old new : Awaited) : Type 0 where
  pub entry : Entry
  pub waiting : old.waiting ≡ entry ∷ new.waiting
  pub come : new.come ≡ with_entry entry old.come
  pub passed : new.passed ≡ 0
  pub at : new.at ≡ old.at
  pub room : new.room ≡ old.room

-- what stands at the place has this number
pub record IsEntryOf (id place : ℕ) (come : List Entry) : Type 0 where
  pub within : place < length come
  pub number : (other : Entry) → (slice_index_or come place other).id ≡ id

-- the dues of the records have come or wait, and those that were passed may not be closed
pub record IsReady (machine : List Kept) (dues : Awaited) : Type 0 where
  pub timed : IsTimed (map entry_of machine) (dues.come ++ dues.waiting)
  pub passed : HasPassed dues.at machine dues.passed dues.come
