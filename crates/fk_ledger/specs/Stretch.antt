-- What a crash at each moment of some calls may leave: a ledger with the first of their changes.
use Rattle.std.specs.Prelude.{◌≡◌, ◌⊎◌, ℕ, ◌<◌, ◌≤◌, Bool, true, false, List, [], take}
use Rattle.fk_trace.specs.declared.change.Change.{Change}
use Rattle.fk_trace.specs.Ledger.{after, compacted}
use Rattle.fk_host.specs.declared.disk.Disk.{Ghosts as DiskMeaning}
use Rattle.fk_host.specs.Disk.{Areas, Told, IfTold, KeepsPast}
use Rattle.fk_journal.specs.Keeps.{selected, IsSettled, SameEntries, UntilSynced}
use Rattle.fk_journal.specs.Older.{IsOlder}
use Rattle.fk_ledger.specs.Holds.{HoldsCurrent, HoldsOlder, HoldsState}

-- A stretch over a ledger with these changes, from one state of the host to a later one. What a crash at an earlier moment may
-- leave is as before. At each new moment each image holds the State of the ledger after some front of the changes, and where the
-- stretch is whole each image of the last moment holds it after all of them.
pub record Stretch (ledger changes : List Change) (whole : Bool) (old new : ℕ → Areas → Type 0) (start finish : Told) : Type 0 where
  pub later : start.moments ≤ finish.moments
  pub past : KeepsPast start.moments old new
  pub each : (k : ℕ) (image : Areas) → start.moments < k → k ≤ finish.moments → new k image
      → (n : ℕ) × HoldsState (after ledger (take n changes)) image
  pub all : whole ≡ true → (image : Areas) → new finish.moments image → HoldsState (after ledger changes) image

-- the calls from one state of a disk to a later one are such a stretch, where the disk tells
abbrev pub StretchOf : {D : Type 0} → DiskMeaning D → D → D → List Change → List Change → Bool → Type 0
StretchOf disk old new ledger changes whole =
    IfTold (disk.told old) (disk.told new) (Stretch ledger changes whole (disk.may_leave old) (disk.may_leave new))

-- what stood up to this moment of the calls is a stretch
abbrev pub StretchUntil : {D : Type 0} → DiskMeaning D → ℕ → D → D → List Change → List Change → Type 0
StretchUntil disk k old new ledger changes = IfTold (disk.told old) (disk.told new) (λ before later. before.moments ≤ k → k ≤ later.moments
    → Stretch ledger changes false (disk.may_leave old) (disk.may_leave new) before (record later { moments = k }))

-- The moments of the opening of a ledger. Until its first calls, which sync Head and the area that it selects, have ended well each
-- image is one that stood at entry; from then on the calls are a stretch without changes.
pub record IsLedgerOpening (ledger : List Change) (whole : Bool) (old new : ℕ → Areas → Type 0) (start finish : Told) : Type 0 where
  pub past : KeepsPast start.moments old new
  pub unsynced : ℕ
  pub first : UntilSynced unsynced old new start finish
  pub then : Stretch ledger [] whole new new (record start { moments = unsynced }) finish

-- The image has the entries that these areas have, or is damaged where they are; or they are of the older format, and it has their changes
-- in this one, where they begin anew with the floor 0.
abbrev pub KeepsSelected : Areas → Areas → Type 0
KeepsSelected from image =
    SameEntries (selected from) (selected image) ⊎ ((changes : List Change) × HoldsOlder from changes × HoldsCurrent image (compacted 0 changes))

-- The moments of an opening, whatever the areas held. Until its first calls have ended well each image is one that stood at entry; from
-- then on each keeps what a read gave at entry.
pub record IsKeptOpening (old new : ℕ → Areas → Type 0) (start finish : Told) : Type 0 where
  pub past : KeepsPast start.moments old new
  pub unsynced : ℕ
  pub first : UntilSynced unsynced old new start finish
  pub then : (k : ℕ) (image : Areas) → unsynced < k → k ≤ finish.moments → new k image → KeepsSelected start.areas image

-- The moments in which a ledger of the older format is written in this one. Each image keeps what a read gave before; and where all has
-- ended well, the ledger is held in this format, and nothing of it is unsynced.
pub record Migrates (whole : Bool) (old new : ℕ → Areas → Type 0) (before after : Told) : Type 0 where
  pub later : before.moments ≤ after.moments
  pub past : KeepsPast before.moments old new
  pub each : (k : ℕ) (image : Areas) → before.moments < k → k ≤ after.moments → new k image → KeepsSelected before.areas image
  pub done : whole ≡ true → (changes : List Change) × HoldsOlder before.areas changes × HoldsCurrent after.areas (compacted 0 changes) × IsSettled after new

-- Of areas that are not of the older format this is said.
abbrev pub UnlessOlder : (Told → Told → Type 0) → Told → Told → Type 0
UnlessOlder Said before after = (IsOlder (selected before.areas) → ⊥) → Said before after
