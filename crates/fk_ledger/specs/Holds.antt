-- Which ledger the areas of a disk hold, or where they are damaged.
use Rattle.std.specs.Prelude.{◌≡◌, ◌⊎◌, ℕ, List, ◌∷◌, ◌++◌, map, Option, IfSome}
use Rattle.std.specs.List.{AllByRecursion}
use Rattle.fk_trace.specs.declared.change.Change.{Change}
use Rattle.fk_trace.specs.Ledger.{MayFollow, IsLedger, compacted, state_of}
use Rattle.fk_host.specs.Disk.{Areas, Told}
use Rattle.fk_journal.specs.Entries.{Content, place_behind, IsClosedBehind, HoldsEntries, IsDamagedAt}
use Rattle.fk_journal.specs.Keeps.{selected, IsSettled}
use Rattle.fk_journal.specs.Older.{IsOlder, HoldsOlderEntries, IsOlderDamagedAt}
use Rattle.fk_ledger.specs.Payloads.{content_of, ledger_contents, IsChange}
use Rattle.fk_ledger.specs.Older.{stamped, itself}

-- the entries of the selected area are those of these changes, and the changes are a ledger
pub record HoldsCurrent (image : Areas) (ledger : List Change) : Type 0 where
  pub entries : HoldsEntries (selected image) (ledger_contents ledger)
  pub each : AllByRecursion IsChange ledger
  pub follow : IsLedger ledger

-- the selected area is of the older format, and its entries are those of these changes once each record has its stamp
pub record HoldsOlder (image : Areas) (changes : List Change) : Type 0 where
  pub contents : List Content
  pub entries : HoldsOlderEntries (selected image) contents
  pub same : map stamped contents ≡ ledger_contents changes
  pub each : AllByRecursion IsChange changes
  pub follow : IsLedger changes

-- the changes that stand in the selected area, in either format
abbrev pub HoldsChanges : Areas → List Change → Type 0
HoldsChanges image changes = HoldsCurrent image changes ⊎ HoldsOlder image changes

-- The ledger that a run finds: the one of the selected area. One of the older format is found as it is written in this one, where it
-- begins anew with the floor 0; so nothing is left out of what it has seen.
abbrev pub HoldsLedger : Areas → List Change → Type 0
HoldsLedger image ledger = HoldsCurrent image ledger ⊎ ((changes : List Change) × HoldsOlder image changes × (ledger ≡ compacted 0 changes))

-- behind this ledger no change has this entry that may stand there
abbrev pub IsBroken : List Change → Content → Type 0
IsBroken ledger content = (change : Change) → IsChange change → content ≡ content_of change → MayFollow ledger change → ⊥

-- of these entries, which say what this function gives, the first that is broken behind those before it has its gate at this place
pub record Breaks (says : Content → Content) (contents : List Content) (place : ℕ) : Type 0 where
  pub before : List Change
  pub earlier : List Content
  pub content : Content
  pub later : List Content
  pub parts : contents ≡ earlier ++ content ∷ later
  pub same : map says earlier ≡ ledger_contents before
  pub each : AllByRecursion IsChange before
  pub follow : IsLedger before
  pub broken : IsBroken before (says content)
  pub placed : place ≡ place_behind earlier

-- the first place at which an area of this format is not in it, or else that of its first broken entry
abbrev pub IsCurrentDamagedAt : List ℕ → ℕ → Type 0
IsCurrentDamagedAt area place = IsDamagedAt area place ⊎ ((contents : List Content) × HoldsEntries area contents × Breaks itself contents place)

-- the same of an area of the older format
abbrev pub IsOldDamagedAt : List ℕ → ℕ → Type 0
IsOldDamagedAt area place = IsOlderDamagedAt area place ⊎ ((contents : List Content) × HoldsOlderEntries area contents × Breaks stamped contents place)

-- where the selected area is damaged; one that is of neither format is so at 0
abbrev pub IsLedgerDamagedAt : Areas → ℕ → Type 0
IsLedgerDamagedAt image place =
    ((IsOlder (selected image) → ⊥) × IsCurrentDamagedAt (selected image) place) ⊎ IsOldDamagedAt (selected image) place

-- the image holds a ledger that nothing above can tell from this one
abbrev pub HoldsState : List Change → Areas → Type 0
HoldsState ledger image = (held : List Change) × HoldsLedger image held × (state_of held ≡ state_of ledger)

-- The disk keeps this ledger: the selected area holds it behind a closed gate, where the disk tells, and nothing of that area or of
-- Head, which selects it, is unsynced.
pub record KeepsLedger (ledger : List Change) (told : Option Told) (images : ℕ → Areas → Type 0) : Type 0 where
  pub each : AllByRecursion IsChange ledger
  pub follow : IsLedger ledger
  pub held : IfSome told (λ now. IsClosedBehind (ledger_contents ledger) (selected now.areas) × IsSettled now images)
