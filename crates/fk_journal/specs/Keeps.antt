-- What a journal has to do with the disk that it was opened over.
use Rattle.std.specs.Prelude.{◌≡◌, ◌≢◌, ◌⊎◌, ℕ, ◌+◌, ◌<◌, ◌≤◌, Bool, true, false, List, [], ◌∷◌, ◌++◌, length, Option, IfSome}
use Rattle.fk_host.specs.declared.disk.Area.{Area}
use Rattle.fk_host.specs.Disk.{Areas, Told, area_of, KeepsPast}
use Rattle.fk_journal.specs.Entries.{Content, format_byte, place_behind, BeginsWith, IsClosedBehind, HoldsEntries}
use Rattle.fk_journal.specs.Head.{area_by, other_area}
use Rattle.fk_journal.specs.declared.fault.JournalErr.{JournalErr}
use Rattle.fk_journal.specs.declared.fault.JournalErr.TheVariants.{Disk, Damaged, NoMemory}

-- The area that stands for the three. Every word about what an image holds goes by these two functions.
abbrev pub selected_area : Areas → Area
selected_area image = area_by image.head

abbrev pub selected : Areas → List ℕ
selected image = area_of (selected_area image) image

-- the areas other than the one that is used are the same
abbrev pub SameOthers : Area → Areas → Areas → Type 0
SameOthers used old new = (area : Area) → area ≢ used → area_of area new ≡ area_of area old

-- a journal as contracts see it
pub record Log : Type 0 where
  -- the area on which it stands
  pub area : Area
  -- the place of its closing gate
  pub end : ℕ
  -- how many bytes it may use
  pub limit : ℕ
  -- how long a payload may be that is appended without memory
  pub reserved : ℕ
  -- its entries are copied into the other area
  pub is_copying : Bool
  -- while they are, the place behind those that were
  pub copied_end : ℕ
  -- a call failed, and the journal has to be opened again
  pub is_spent : Bool

-- Nothing of Head or of the selected area is unsynced: each image has of both what a read gives.
abbrev pub IsSettled : Told → (ℕ → Areas → Type 0) → Type 0
IsSettled now images = (image : Areas) → images now.moments image
    → (image.head ≡ now.areas.head) × (selected image ≡ selected now.areas)

-- Head selects this area, where the disk tells
abbrev pub StandsOn : Area → Option Told → Type 0
StandsOn area told = IfSome told (λ now. selected_area now.areas ≡ area)

-- The journal holds these entries: so does the area that it stands on, which Head selects, where the disk tells, and all of both is
-- on the disk.
pub record Keeps (log : Log) (contents : List Content) (told : Option Told) (images : ℕ → Areas → Type 0) : Type 0 where
  pub behind : log.end ≡ place_behind contents
  pub stands : StandsOn log.area told
  pub held : IfSome told (λ now. IsClosedBehind contents (selected now.areas) × IsSettled now images)

-- The journal copies, and these entries so far: a read of the other area gives the format byte and then them, each behind an open
-- gate, where the disk tells.
pub record Copies (log : Log) (copied : List Content) (told : Option Told) : Type 0 where
  pub copying : log.is_copying ≡ true
  pub behind : log.copied_end ≡ place_behind copied
  pub held : IfSome told (λ now. BeginsWith format_byte copied [] (area_of (other_area log.area) now.areas))

-- both areas hold the same entries, or are damaged at the same place: they are one, or both too short to hold anything
abbrev pub SameEntries : List ℕ → List ℕ → Type 0
SameEntries old new = (new ≡ old) ⊎ ((length old < 3) × (length new < 3))

-- The areas other than the one that is used are left: a read gives the same of them, and each image of each new moment has them from
-- one of the moment before the calls.
pub record LeavesAllBut (used : Area) (old new : ℕ → Areas → Type 0) (before after : Told) : Type 0 where
  pub reads : SameOthers used before.areas after.areas
  pub each : (k : ℕ) (image : Areas) → before.moments < k → k ≤ after.moments → new k image
      → (from : Areas) × old before.moments from × SameOthers used from image

-- the areas that don't stand for the three are left
abbrev pub LeavesOthers : (ℕ → Areas → Type 0) → (ℕ → Areas → Type 0) → Told → Told → Type 0
LeavesOthers old new before after = LeavesAllBut (selected_area before.areas) old new before after

-- The first calls of an opening, three at most: Head is synced and read, and then the selected area is synced. Up to this moment,
-- which comes with them, each image is one that stood at entry.
pub record UntilSynced (unsynced : ℕ) (old new : ℕ → Areas → Type 0) (start finish : Told) : Type 0 where
  pub since : start.moments ≤ unsynced
  pub soon : unsynced ≤ start.moments + 3
  pub within : unsynced ≤ finish.moments
  pub stood : (k : ℕ) (image : Areas) → start.moments < k → k ≤ unsynced → new k image → old start.moments image

-- The moments of an opening. Until its first calls have ended well each image is one that stood at entry; from then on each has the
-- entries that a read gave at entry.
pub record IsOpening (old new : ℕ → Areas → Type 0) (before after : Told) : Type 0 where
  pub past : KeepsPast before.moments old new
  pub unsynced : ℕ
  pub first : UntilSynced unsynced old new before after
  pub then : (k : ℕ) (image : Areas) → unsynced < k → k ≤ after.moments → new k image → SameEntries (selected before.areas) (selected image)
  -- what a read gives goes on to hold the same entries
  pub reads : SameEntries (selected before.areas) (selected after.areas)

-- the image holds the entries from before, or those with the new one
abbrev pub HasOldOrNew : List Content → Content → Areas → Type 0
HasOldOrNew contents content image =
    HoldsEntries (selected image) contents ⊎ HoldsEntries (selected image) (contents ++ content ∷ [])

-- The moments of an append, four at most: at each of them each image holds the entries from before, or those with the new one.
pub record IsAppend (contents : List Content) (content : Content) (old new : ℕ → Areas → Type 0) (before after : Told) : Type 0 where
  pub later : before.moments ≤ after.moments
  pub few : after.moments ≤ before.moments + 4
  pub past : KeepsPast before.moments old new
  pub each : (k : ℕ) (image : Areas) → before.moments < k → k ≤ after.moments → new k image → HasOldOrNew contents content image

-- the image selects this area, and holds these entries there
abbrev pub HoldsIn : Area → List Content → Areas → Type 0
HoldsIn area contents image = (selected_area image ≡ area) × HoldsEntries (selected image) contents

-- it does so with the entries of the area, or with those that were copied from it into the other one
abbrev pub HoldsEither : Area → List Content → List Content → Areas → Type 0
HoldsEither area contents copied image = HoldsIn area contents image ⊎ HoldsIn (other_area area) copied image

-- The moments of a call of a copy, so many at most: of each image of each of them this is said.
pub record CopyMoments (calls : ℕ) (Held : Areas → Type 0) (old new : ℕ → Areas → Type 0) (before after : Told) : Type 0 where
  pub later : before.moments ≤ after.moments
  pub few : after.moments ≤ before.moments + calls
  pub past : KeepsPast before.moments old new
  pub each : (k : ℕ) (image : Areas) → before.moments < k → k ≤ after.moments → new k image → Held image

-- an error that a fault of the disk brings
abbrev pub is_disk_fault : JournalErr → Bool
is_disk_fault Disk = true
is_disk_fault (Damaged place) = false
is_disk_fault NoMemory = false
