-- A ledger that begins anew, entry by entry. The contracts of private functions alone speak of it.
use Rattle.std.specs.Prelude.{◌≡◌, ℕ, ◌+◌, ◌<◌, ◌≤◌, ◌==◌, nat_le, Bool, true, false, List, [], ◌∷◌, ◌++◌, length, Option, Some, None, if◌then◌else◌}
use Rattle.std.specs.List.{list_any}
use Rattle.fk_trace.specs.declared.change.OpenRecord.{OpenRecord}
use Rattle.fk_trace.specs.declared.change.Change.{Change}
use Rattle.fk_trace.specs.declared.change.Change.TheVariants.{Open, Done, Settled, Floor}
use Rattle.fk_host.specs.Disk.{Areas, Told, IfTold, KeepsPast}
use Rattle.fk_journal.specs.Entries.{Content}
use Rattle.fk_journal.specs.Keeps.{Log, Keeps, Copies, HoldsIn}
use Rattle.fk_ledger.specs.declared.anew.Way.{Way}
use Rattle.fk_ledger.specs.declared.anew.Way.TheVariants.{Behind, Anew}
use Rattle.fk_ledger.specs.Payloads.{content_of}

-- the change, with a Settled in place of a record that is not among the live ones
abbrev pub settled_as : List ℕ → Change → Change
settled_as ids (Open item) = if list_any (λ id. id == item.id) ids then Open item else Settled item.id item.stamp item.digest
settled_as ids (Done id) = Done id
settled_as ids (Settled id stamp digest) = Settled id stamp digest
settled_as ids (Floor floor next) = Floor floor next

-- it stays where the ledger begins anew with this floor
abbrev pub stays : ℕ → Change → Bool
stays floor (Open item) = true
stays floor (Done id) = false
stays floor (Settled id stamp digest) = nat_le floor stamp
stays floor (Floor lower next) = false

-- what stays of a change, where these are the numbers of the live records
abbrev pub kept_as : ℕ → List ℕ → Change → Option Change
kept_as floor ids change = if stays floor (settled_as ids change) then Some (settled_as ids change) else None

-- the entry of this kind with this payload
abbrev pub entry_of : List ℕ → ℕ → Content
entry_of payload kind = record { kind = kind; payload = payload }

-- how many bytes the entry of a change takes
abbrev pub cost : Change → ℕ
cost change = 6 + length (content_of change).payload

-- what is made for a record that comes into the journal this way, where this is the number of the next one
abbrev pub made_by : ℕ → OpenRecord → Way → List Change
made_by next item Behind = Open item ∷ []
made_by next item (Anew floor) = Floor floor next ∷ Open item ∷ []

-- of each image of each moment of some calls this is said
pub record HoldsAll (Held : Areas → Type 0) (old new : ℕ → Areas → Type 0) (before after : Told) : Type 0 where
  pub later : before.moments ≤ after.moments
  pub past : KeepsPast before.moments old new
  pub each : (k : ℕ) (image : Areas) → before.moments < k → k ≤ after.moments → new k image → Held image

-- these entries were copied, one by each call, and the journal holds what it held
pub record CopiesOn (old new : Log) (copied : List Content) (s t : Option Told) (p q : ℕ → Areas → Type 0) : Type 0 where
  pub same : new ≡ record old { copied_end = new.copied_end }
  pub keeps : (contents : List Content) → Keeps old contents s p → Keeps new contents t q
  pub moments : (contents : List Content) → Keeps old contents s p → IfTold s t (HoldsAll (HoldsIn old.area contents) p q)
  pub copies : (front : List Content) → Copies old front s → Copies new (front ++ copied) t
  pub calls : IfTold s t (λ before after. after.moments ≡ before.moments + length copied)

-- a call of a copy failed: the journal is spent, and holds what it held
pub record FailsOn (old new : Log) (s t : Option Told) (p q : ℕ → Areas → Type 0) : Type 0 where
  pub same : new ≡ record old { is_copying = new.is_copying; copied_end = new.copied_end; is_spent = true }
  pub moments : (contents : List Content) → Keeps old contents s p → IfTold s t (HoldsAll (HoldsIn old.area contents) p q)
