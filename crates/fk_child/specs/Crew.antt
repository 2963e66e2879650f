-- What a crew keeps, and what ties it to a place of a run.
use Rattle.std.specs.Prelude.{◌≡◌, ◌≢◌, ℕ, ◌≤◌, ◌==◌, false, not, IsTrue, List, map}
use Rattle.std.specs.List.{All, AllPairs, Contains, filter, list_any}
use Rattle.fk_trace.specs.declared.change.OpenRecord.{OpenRecord}
use Rattle.fk_trace.specs.declared.change.Change.{Change}
use Rattle.fk_trace.specs.Trace.{Child, children, running}
use Rattle.fk_trace.specs.Orderly.{is_attempted}
use Rattle.fk_trace.specs.Ledger.{live, next_id}
use Rattle.fk_run.specs.Place.{Place}
use Rattle.fk_cycle.specs.Kept.{Kept}
use Rattle.fk_cycle.specs.Stands.{Obligation, Stands}
use Rattle.fk_host.specs.declared.disk.Disk.{Ghosts as DiskMeaning}
use Rattle.fk_host.specs.Disk.{Above}
use Rattle.fk_host.specs.Host.{is_running}
use Rattle.fk_ledger.specs.Book.{live_ids}
use Rattle.fk_ledger.specs.Holds.{KeepsLedger}
use Rattle.fk_child.specs.declared.items.EndItem.{EndItem}
use Rattle.fk_child.specs.View.{View, view_of}

-- a crew as contracts see it
pub record CrewState : Type 0 where
  -- the records whose obligation it holds, by rising number
  pub owed : List ℕ
  -- the children that run, by rising number
  pub children : List Child
  -- what its machine keeps
  pub kept : List Kept
  -- the ends and the failed polls of the last polling, in their order
  pub ends : List EndItem
  -- the records whose clean close has ended well and that are yet to be settled, in the order of those ends
  pub unsettled : List ℕ
  -- how many further records it can take without memory
  pub room : ℕ

-- a crew with its host
pub record CrewHost : Type 1 where
  pub crew : CrewState
  pub host : View

-- a crew with a host whose meanings these are
abbrev pub on_host : {H : Type 0} → DiskMeaning H → CrewState → H → CrewHost
on_host means crew host = record { crew = crew; host = view_of means host }

abbrev pub obligation_of : OpenRecord → Obligation
obligation_of item = record { id = item.id; due = item.due }

-- the closes that the live records owe, all but those of the records that are yet to be settled
abbrev pub obligations_but : List ℕ → List Change → List Obligation
obligations_but unsettled ledger = map obligation_of (filter (λ item. not (list_any (λ id. id == item.id) unsettled)) (live ledger))

-- the crew is tied to the place, over a host of which this is said
pub record IsTied (crew : CrewState) (above : Above) (place : Place) : Type 0 where
  -- it holds one obligation for each live record
  pub owes : crew.owed ≡ live_ids place.ledger
  -- its children are those that run
  pub runs : crew.children ≡ running place.past
  -- its machine stands for the place, with what is owed and not yet to be settled
  pub stands : Stands crew.kept place.past place.ends (obligations_but crew.unsettled place.ledger)
  -- what is yet to be settled is live, and is named once
  pub waits : All (Contains (live_ids place.ledger)) crew.unsettled
  pub once : AllPairs (λ a b. a ≢ b) crew.unsettled
  -- nothing was attempted for a record that is yet to come
  pub unused : (id : ℕ) → next_id place.ledger ≤ id → is_attempted place.past id ≡ false
  -- the host knows the children that run, and numbers the next one above all of the run
  pub known : All (λ child. IsTrue (is_running child.number above)) (running place.past)
  pub below : All (λ child. child.number ≤ above.last_child) (children place.past)

-- The crew stands at the place: it is tied to it, and the disk keeps the place's ledger.
pub record StandsAt (both : CrewHost) (place : Place) : Type 0 where
  pub tied : IsTied both.crew both.host.above place
  pub keeps : KeepsLedger place.ledger both.host.told both.host.images

-- it stands at some place
abbrev pub StandsSomewhere : CrewHost → Type 0
StandsSomewhere both = (place : Place) × StandsAt both place

-- it stands at some place whose ledger is this
abbrev pub StandsOver : List Change → CrewHost → Type 0
StandsOver ledger both = (place : Place) × (place.ledger ≡ ledger) × StandsAt both place
