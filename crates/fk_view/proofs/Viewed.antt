-- Areas that hold a ledger are not told to be damaged.
use Rattle.std.proofs.Common.{◌≡◌, ℕ, List, Option, Some, None, IsSome, refl}
use Rattle.fk_trace.specs.declared.change.Change.{Change}
use Rattle.fk_host.specs.Disk.{Areas, Told, IfTold}
use Rattle.fk_ledger.specs.Holds.{HoldsLedger, IsLedgerDamagedAt}
use Rattle.fk_child.specs.View.{View}
use Rattle.fk_view.specs.Viewing.{HoldsSome, SaysTheSame}

-- no areas hold a ledger and are damaged
abbrev pub NoneBoth : Type 0
NoneBoth = (image : Areas) (ledger : List Change) (place : ℕ) → HoldsLedger image ledger → IsLedgerDamagedAt image place → ⊥

pub not_damaged : (old new : Option Told) (place : ℕ) → NoneBoth → HoldsSome old → IsSome new → IfTold old new (λ before later. IsLedgerDamagedAt before.areas place) → ⊥
not_damaged None new place none holds tells damaged = absurd holds
not_damaged (Some before) None place none holds tells damaged = cc
not_damaged (Some before) (Some later) place none holds tells damaged = none before.areas holds.0 place holds.1 damaged

-- nothing was asked of the host
pub same-host : (host : View) → SaysTheSame host host
same-host host = record { told = refl; images = λ k image. (λ h. h, λ h. h); faults = refl; above = refl }
