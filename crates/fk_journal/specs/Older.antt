-- The format before this one: an area of it is read, and another list of entries is put in its place. It is never written.
use Rattle.std.specs.Prelude.{◌≡◌, ◌⊎◌, ℕ, ◌+◌, ◌<◌, ◌≤◌, List, [], ◌∷◌, length, slice_index}
use Rattle.fk_host.specs.Disk.{Areas, Told, KeepsPast}
use Rattle.fk_journal.specs.Entries.{Content, format_byte, HoldsEntries, IsDamagedAt}
use Rattle.fk_journal.specs.Keeps.{selected}

-- the first byte of an area in it
abbrev pub older_format_byte : ℕ
older_format_byte = 1

abbrev pub IsOlder : List ℕ → Type 0
IsOlder area = (3 ≤ length area) × (slice_index area 0 ≡ older_format_byte)

-- Entries have one form in both formats. So an area of the older one is read as that of this one which differs from it in the first byte
-- alone.
abbrev pub in_format : List ℕ → List ℕ
in_format [] = []
in_format (format ∷ bytes) = format_byte ∷ bytes

-- the area is of the older format, and has these entries
pub record HoldsOlderEntries (area : List ℕ) (contents : List Content) : Type 0 where
  pub older : IsOlder area
  pub entries : HoldsEntries (in_format area) contents

-- the area is of the older format, and this is the gate of the first entry that is none
pub record IsOlderDamagedAt (area : List ℕ) (place : ℕ) : Type 0 where
  pub older : IsOlder area
  pub damaged : IsDamagedAt (in_format area) place

-- The area has no entries of the older format: it is damaged there, or it is not of that format, at 0.
abbrev pub HasNoOlderAt : List ℕ → ℕ → Type 0
HasNoOlderAt area place = IsOlderDamagedAt area place ⊎ ((IsOlder area → ⊥) × (place ≡ 0))

-- The moments of the calls that put these bytes in the place of the selected area, six at most: what is selected is as a read gave it
-- before, or it is these bytes.
pub record Replaces (bytes : List ℕ) (old new : ℕ → Areas → Type 0) (before after : Told) : Type 0 where
  pub later : before.moments ≤ after.moments
  pub few : after.moments ≤ before.moments + 6
  pub past : KeepsPast before.moments old new
  pub each : (k : ℕ) (image : Areas) → before.moments < k → k ≤ after.moments → new k image
      → (selected image ≡ selected before.areas) ⊎ (selected image ≡ bytes)
