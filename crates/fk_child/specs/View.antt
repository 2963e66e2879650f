-- What is said of a host between two calls, and what calls add to it.
use Rattle.std.specs.Prelude.{◌≡◌, ℕ, ◌+◌, ◌<◌, ◌≤◌, List, ◌++◌, length, take, Option}
use Rattle.std.specs.List.{AllPairs, AllByRecursion}
use Rattle.fk_trace.specs.declared.change.Change.{Change}
use Rattle.fk_trace.specs.Trace.{Item}
use Rattle.fk_trace.specs.Ledger.{after, AreNoFloors}
use Rattle.fk_host.specs.declared.disk.Area.{Area}
use Rattle.fk_host.specs.declared.disk.Disk.{Ghosts as DiskMeaning}
use Rattle.fk_host.specs.Disk.{Areas, Told, Above, IfTold, KeepsPast}
use Rattle.fk_run.specs.Left.{IsCutAt}
use Rattle.fk_journal.specs.Keeps.{StandsOn, LeavesOthers, selected_area}
use Rattle.fk_ledger.specs.Holds.{HoldsState}

-- what a host says of itself
pub record View : Type 1 where
  -- what a read gives, its moments and its trace, where it tells
  pub told : Option Told
  -- what a crash at each moment may leave
  pub images : ℕ → Areas → Type 0
  -- the disk's count of faults
  pub faults : ℕ
  -- its children
  pub above : Above

abbrev pub view_of : {H : Type 0} → DiskMeaning H → H → View
view_of means host =
    record { told = means.told host; images = means.may_leave host; faults = means.faults host; above = means.above host }

-- so many calls of the host were made
abbrev pub MakesCalls : ℕ → View → View → Type 0
MakesCalls count old new = IfTold old.told new.told (λ before later. later.moments ≡ before.moments + count)

-- Head selects this area, where the host tells
abbrev pub StandsOnArea : Area → View → Type 0
StandsOnArea area view = StandsOn area view.told

-- Head selects the same area as before the calls, where the host tells
abbrev pub SelectsTheSame : View → View → Type 0
SelectsTheSame old new = IfTold old.told new.told (λ before later. selected_area later.areas ≡ selected_area before.areas)

-- the calls leave the areas on which the ledger does not stand, in what a read gives and in what a crash may leave
abbrev pub SparesOthers : View → View → Type 0
SparesOthers old new = IfTold old.told new.told (LeavesOthers old.images new.images)

-- The items are the new end of the trace, and each of them stands at a new moment, later than those before it. So the items up to
-- a moment are the first ones.
pub record AddsItems (items : List Item) (before later : Told) : Type 0 where
  pub trace : later.trace ≡ before.trace ++ items
  pub placed : AllByRecursion (λ item. (before.moments < item.moments) × (item.moments ≤ later.moments)) items
  pub rising : AllPairs (λ a b. a.moments < b.moments) items

-- An image that a crash at the moment leaves of calls in one turn with these items and changes: it holds the State of the ledger
-- with a front of the changes, as long as the items allow, and no shorter than `least`.
pub record HoldsFront (items : List Item) (ledger changes : List Change) (least moment : ℕ) (image : Areas) : Type 0 where
  pub count : ℕ
  pub enough : least ≤ count
  pub cut : IsCutAt moment items changes count
  pub holds : HoldsState (after ledger (take count changes)) image

-- The moments of some calls. What a crash at an earlier moment may leave is as before; what is left is said of each image of a new
-- moment, and of each image of the last one that it has no less than `least`.
pub record Moments (Leaves : ℕ → ℕ → Areas → Type 0) (least : ℕ) (old new : ℕ → Areas → Type 0) (start finish : Told) : Type 0 where
  pub later : start.moments ≤ finish.moments
  pub past : KeepsPast start.moments old new
  pub each : (moment : ℕ) (image : Areas) → start.moments < moment → moment ≤ finish.moments → new moment image → Leaves 0 moment image
  pub last : (image : Areas) → new finish.moments image → Leaves least finish.moments image

-- Calls were made in one turn that added these items to the trace, each with the disk's count of faults from before them, and these
-- changes to the ledger. Where others are failing, a last call was to make them, which failed. Unless the ledger began anew, the areas on
-- which it does not stand are left.
pub record Adds (items : List Item) (ledger made failing : List Change) (old new : View) : Type 0 where
  pub trace : IfTold old.told new.told (AddsItems items)
  pub moments : IfTold old.told new.told (Moments (HoldsFront items ledger (made ++ failing)) (length made) old.images new.images)
  pub faults : AllByRecursion (λ item. item.faults ≡ old.faults) items
  pub others : AreNoFloors (made ++ failing) → SparesOthers old new
