-- Steps of the calls on the areas, as the contracts of private functions alone speak of them.
use Rattle.std.specs.Prelude.{◌≡◌, ℕ, ◌+◌, ◌<◌, ◌≤◌, max, List, [], length, Option, IfSome}
use Rattle.fk_host.specs.declared.disk.Area.{Area}
use Rattle.fk_host.specs.Disk.{Areas, Told, area_of, KeepsPast, InArea, LeavesAreas, Torn, Written}
use Rattle.fk_journal.specs.Entries.{Content, format_byte, BeginsWith, IsClosedBehind}
use Rattle.fk_journal.specs.Head.{other_area}
use Rattle.fk_journal.specs.Keeps.{selected_area, selected, SameOthers, LeavesAllBut, IsSettled}

-- A write of an area and its sync, as one step: at each of its moments, two at most, each image was torn by that write from one of
-- the moment before it.
pub record Puts (used : Area) (at count : ℕ) (old new : ℕ → Areas → Type 0) (before after : Told) : Type 0 where
  pub later : before.moments ≤ after.moments
  pub few : after.moments ≤ before.moments + 2
  pub past : KeepsPast before.moments old new
  pub each : (k : ℕ) (image : Areas) → before.moments < k → k ≤ after.moments → new k image
      → (from : Areas) × old before.moments from × InArea used (Torn at count) from image
  pub others : SameOthers used before.areas after.areas
  pub short : length (area_of used after.areas) ≤ max (length (area_of used before.areas)) (at + count)

-- it has ended well: a read gives what was written, and nothing of the area is unsynced
pub record HasPut (used : Area) (at : ℕ) (bytes : List ℕ) (new : ℕ → Areas → Type 0) (before after : Told) : Type 0 where
  pub moments : after.moments ≡ before.moments + 2
  pub reads : InArea used (Written at bytes) before.areas after.areas
  pub synced : (image : Areas) → new after.moments image → area_of used image ≡ area_of used after.areas

-- Head selects this area, which holds these entries behind a closed gate, and nothing of both is unsynced
pub record IsHeldNow (used : Area) (contents : List Content) (now : Told) (images : ℕ → Areas → Type 0) : Type 0 where
  pub selects : selected_area now.areas ≡ used
  pub closed : IsClosedBehind contents (selected now.areas)
  pub settled : IsSettled now images

abbrev pub IsHeld : Area → List Content → Option Told → (ℕ → Areas → Type 0) → Type 0
IsHeld used contents told images = IfSome told (λ now. IsHeldNow used contents now images)

-- the other area begins with these entries, and there is nothing behind them
abbrev pub IsCopied : Area → List Content → Option Told → Type 0
IsCopied used copied told = IfSome told (λ now. BeginsWith format_byte copied [] (area_of (other_area used) now.areas))

-- Head was synced and read, and selects this area: each image of the last moment has of Head what a read gives
pub record HasHead (area : Area) (old new : ℕ → Areas → Type 0) (before after : Told) : Type 0 where
  pub moments : after.moments ≡ before.moments + 2
  pub selects : area ≡ selected_area before.areas
  pub left : LeavesAreas old new before after
  pub synced : (image : Areas) → new after.moments image → image.head ≡ after.areas.head

-- Behind Head the selected area was synced and read: the areas are left, from the sync on each image has of the selected area what a
-- read gives, and nothing of it or of Head is unsynced.
pub record HasRead (area : Area) (old new : ℕ → Areas → Type 0) (before after : Told) : Type 0 where
  pub selects : area ≡ selected_area before.areas
  pub left : LeavesAreas old new before after
  pub more : before.moments + 2 ≤ after.moments
  pub synced : (k : ℕ) (image : Areas) → before.moments + 2 < k → k ≤ after.moments → new k image → selected image ≡ selected before.areas
  pub settled : IsSettled after new

-- Calls were made, so many at most, that did something to one area alone.
pub record Touches (used : Area) (calls : ℕ) (old new : ℕ → Areas → Type 0) (before after : Told) : Type 0 where
  pub later : before.moments ≤ after.moments
  pub few : after.moments ≤ before.moments + calls
  pub past : KeepsPast before.moments old new
  pub others : LeavesAllBut used old new before after

-- an area was written anew: it has these bytes, and nothing of it is unsynced
pub record HasAnew (used : Area) (bytes : List ℕ) (new : ℕ → Areas → Type 0) (before after : Told) : Type 0 where
  pub moved : before.moments < after.moments
  pub reads : area_of used after.areas ≡ bytes
  pub synced : (image : Areas) → new after.moments image → area_of used image ≡ bytes
