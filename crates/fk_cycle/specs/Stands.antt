-- What ties a machine to the trace: it keeps, for each record whose close is owed, what the trace says of that record.
use Rattle.std.specs.Prelude.{◌≡◌, ◌≢◌, ◌<◌, ℕ, Bool, true, false, not, ◌+◌, ◌==◌, ◌&&◌, ◌||◌, nat_lt, nat_le, List, [], ◌∷◌, length, map, Option, Some, None}
use Rattle.std.specs.List.{find, filter, list_any, All, AllPairs, Contains}
use Rattle.std.specs.Option.{option_map}
use Rattle.fk_base.specs.declared.purpose.Purpose.{Purpose}
use Rattle.fk_base.specs.declared.purpose.Purpose.TheVariants.{Open, Close}
use Rattle.fk_trace.specs.Trace.{Event, Item, children, running, open_runs, close_tried, is_close_of}
use Rattle.fk_trace.specs.Trace.Event.{Turn, Began, StartFailed, Ended, Runs, PollFailed}
use Rattle.fk_trace.specs.Idle.{is_clean, is_idle, last_close}
use Rattle.fk_trace.specs.Orderly.{IsOrderly}
use Rattle.fk_cycle.specs.Kept.{Kept}

-- a record whose close is owed: its number and the second at which its close is due
pub record Obligation : Type 0 where
  pub id : ℕ
  pub due : ℕ

-- what has to be kept for it at a place of a trace, with the moments of the ends before that place, the latest first
abbrev pub kept_of : List Item → List ℕ → Obligation → Kept
kept_of past ends owed =
    record {
      id = owed.id;
      due = owed.due;
      open_runs = open_runs past owed.id;
      close = option_map (λ child. is_clean past child.number owed.id) (find (λ child. is_close_of owed.id child.purpose) (running past));
      last_close = last_close past ends owed.id;
      tried = close_tried past owed.id;
    }

-- how many ends stand before a place
abbrev pub ended_by : Event → ℕ
ended_by (Turn number) = 0
ended_by (Began number purpose words) = 0
ended_by (StartFailed purpose words) = 0
ended_by (Ended number good) = 1
ended_by (Runs number) = 0
ended_by (PollFailed number) = 0

abbrev pub ends_before : List Item → ℕ
ends_before [] = 0
ends_before (item ∷ past) = ended_by item.event + ends_before past

-- the record that a child was started for
abbrev pub record_of : Purpose → ℕ
record_of (Open id) = id
record_of (Close id) = id

abbrev pub is_owed : List Obligation → ℕ → Bool
is_owed live id = list_any (λ owed. owed.id == id) live

-- A machine stands for a trace and the records whose close is owed, `live`. The machine is told by what it keeps.
pub record Stands (machine : List Kept) (past : List Item) (ends : List ℕ) (live : List Obligation) : Type 0 where
  pub orderly : IsOrderly past
  -- one moment for each end of the trace
  pub moments : length ends ≡ ends_before past
  -- no record is owed twice
  pub distinct : AllPairs (λ a b. a.id ≢ b.id) live
  -- for each record that is owed, and for no other, it keeps what the trace says
  pub kept : machine ≡ map (kept_of past ends) live
  -- each child that runs is one of a record that is owed
  pub held : All (λ child. is_owed live (record_of child.purpose) ≡ true) (running past)
  -- while a clean close runs, the record's open doesn't
  pub parted : All (λ kept. kept.close ≡ Some true → kept.open_runs ≡ false) machine

-- this holds at each place for which the machine stands
abbrev pub Over : List Kept → (List Item → List ℕ → List Obligation → Type 0) → Type 0
Over machine Holds = (past : List Item) (ends : List ℕ) (live : List Obligation) → Stands machine past ends live → Holds past ends live

-- the machine stands for the trace with an item of this event behind it, whatever the item says of the host
abbrev pub StandsBehind : List Kept → Event → List Item → List ℕ → List Obligation → Type 0
StandsBehind machine event past ends live =
    (moments faults : ℕ) → Stands machine (record { event = event; moments = moments; faults = faults } ∷ past) ends live

-- each child that has begun has a lesser number
abbrev pub AreBelow : ℕ → List Item → Type 0
AreBelow number past = All (λ child. child.number < number) (children past)

-- the child of this number and purpose runs
abbrev pub RunsFor : List Item → ℕ → Purpose → Type 0
RunsFor past number purpose = Contains (running past) (record { number = number; purpose = purpose })

-- the obligations without that of one record
abbrev pub without : ℕ → List Obligation → List Obligation
without id live = filter (λ owed. not (owed.id == id)) live

-- at the moment, a close of the record has to be attempted: it is idle, its close is due, and none was tried in this turn
abbrev pub is_due : List Item → List ℕ → ℕ → Obligation → Bool
is_due past ends moment owed = is_idle past ends moment owed.id && nat_le owed.due moment && not (close_tried past owed.id)

-- with an item of this event behind the trace, of which no close of the record is due, each other one is due as before
abbrev pub DueBut : ℕ → Event → List Item → List ℕ → Obligation → Type 0
DueBut id event past ends owed = (moments faults moment : ℕ)
    → is_due (record { event = event; moments = moments; faults = faults } ∷ past) ends moment owed ≡ (not (id == owed.id) && is_due past ends moment owed)

-- the lesser due comes first, and of two records with one due the one with the lesser number
abbrev pub precedes : Obligation → Obligation → Bool
precedes a b = nat_lt a.due b.due || (a.due == b.due && nat_lt a.id b.id)

-- the answer is the number of that obligation which is due and which no other that is due precedes, and None where none is due
abbrev pub IsNextDue : List Item → List ℕ → ℕ → List Obligation → Option ℕ → Type 0
IsNextDue past ends moment live None = All (λ owed. is_due past ends moment owed ≡ false) live
IsNextDue past ends moment live (Some id) =
    (owed : Obligation) × Contains live owed × (owed.id ≡ id) × (is_due past ends moment owed ≡ true) × All (λ other. is_due past ends moment other ≡ true → precedes other owed ≡ false) live
