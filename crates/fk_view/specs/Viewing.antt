-- What reading the disk's journal leaves of it, and why it gives no ledger.
use Rattle.std.specs.Prelude.{◌≡◌, ◌↔◌, ℕ, List, Option, Some, None, IsSome, IsSomeAnd}
use Rattle.fk_base.specs.declared.status.Status.{Status}
use Rattle.fk_base.specs.declared.status.Status.TheVariants as status
use Rattle.fk_trace.specs.declared.change.Change.{Change}
use Rattle.fk_host.specs.Count.{counted}
use Rattle.fk_host.specs.Disk.{Areas, IfTold, LeavesAreas, Told}
use Rattle.fk_journal.specs.declared.fault.JournalErr.{JournalErr}
use Rattle.fk_journal.specs.declared.fault.JournalErr.TheVariants as journal
use Rattle.fk_ledger.specs.Holds.{HoldsLedger, IsLedgerDamagedAt}
use Rattle.fk_child.specs.View.{View}
use Rattle.fk_log.specs.Line.{line_text}
use Rattle.fk_log.specs.Line.Line.{DamagedLine, DiskFailedLine}

-- the host says what it said
pub record SaysTheSame (old new : View) : Type 0 where
  pub told : new.told ≡ old.told
  pub images : (k : ℕ) (image : Areas) → new.images k image ↔ old.images k image
  pub faults : new.faults ≡ old.faults
  pub above : new.above ≡ old.above

-- the host's disk was read and not written: its trace, its areas and its children are as before, and a crash leaves what it left
pub record OnlyReads (old new : View) : Type 0 where
  pub trace : IfTold old.told new.told (λ before later. later.trace ≡ before.trace)
  pub areas : IfTold old.told new.told (LeavesAreas old.images new.images)
  pub above : new.above ≡ old.above

-- why no ledger was read: the disk failed, once, or the areas are damaged there; memory may be wanting too
abbrev pub FailsToView : JournalErr → View → View → Type 0
FailsToView journal.Disk old new = new.faults ≡ counted old.faults
FailsToView (journal.Damaged place) old new =
    IfTold old.told new.told (λ before later. IsLedgerDamagedAt before.areas place) × (new.faults ≡ old.faults)
FailsToView journal.NoMemory old new = new.faults ≡ old.faults

-- its status
abbrev pub view_status : JournalErr → Status
view_status journal.Disk = status.DiskFault
view_status (journal.Damaged place) = status.Damaged
view_status journal.NoMemory = status.NoMemory

-- and its line; want of memory has none
abbrev pub view_text : JournalErr → Option (List ℕ)
view_text journal.Disk = Some (line_text DiskFailedLine)
view_text (journal.Damaged place) = Some (line_text (DamagedLine place))
view_text journal.NoMemory = None

-- the areas hold a ledger
abbrev pub HoldsSome : Option Told → Type 0
HoldsSome told = IsSomeAnd told (λ now. (ledger : List Change) × HoldsLedger now.areas ledger)

-- the areas hold a ledger, and the host tells to the end
abbrev pub HoldsToTheEnd : Option Told → Option Told → Type 0
HoldsToTheEnd old new = HoldsSome old × IsSome new
