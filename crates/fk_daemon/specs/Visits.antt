-- What a call leaves of the areas, as far as a ledger is concerned: what a crash leaves of a run, or what stood there before it.
use Rattle.std.specs.Prelude.{◌⊎◌, ℕ, ◌<◌, ◌≤◌, List}
use Rattle.std.specs.List.{AllByRecursion}
use Rattle.fk_trace.specs.declared.change.Change.{Change}
use Rattle.fk_run.specs.Run.{trace_of}
use Rattle.fk_run.specs.History.{Visit, IsVisit, ledger_left}
use Rattle.fk_host.specs.Disk.{Areas, Told}
use Rattle.fk_ledger.specs.Holds.{HoldsState}
use Rattle.fk_child.specs.View.{View}
use Rattle.fk_daemon.specs.Account.{Account, tried_changes}

-- the run of an account, left at this moment with so many of its changes
abbrev pub visit_of : Account → ℕ → ℕ → Visit
visit_of account moment count = record { run = account.run; tried = tried_changes account; moment = moment; count = count }

-- the second has the State of each ledger whose State the first has
abbrev pub KeepsState : Areas → Areas → Type 0
KeepsState from image = (ledger : List Change) → HoldsState ledger from → HoldsState ledger image

-- the image keeps the State of one that stood at entry
abbrev pub IsAsBefore : View → Told → Areas → Type 0
IsAsBefore old before image = (from : Areas) × old.images before.moments from × KeepsState from image

-- the image is what a crash at the moment leaves of the run, which is a visit then
pub record LeavesVisit (account : Account) (moment : ℕ) (image : Areas) : Type 0 where
  pub count : ℕ
  pub is : IsVisit (visit_of account moment count)
  pub holds : HoldsState (ledger_left (visit_of account moment count)) image

-- the image is as before the run, of which no item stands by the moment
pub record LeavesNone (account : Account) (old : View) (before : Told) (moment : ℕ) (image : Areas) : Type 0 where
  pub as_before : IsAsBefore old before image
  pub none : AllByRecursion (λ item. moment < item.moments) (trace_of account.run)

-- each image of each moment of a call, its entry and its end among them, is one of these
abbrev pub LeavesOnly : (ℕ → Areas → Type 0) → View → Told → Told → Type 0
LeavesOnly Leaves new before later =
    (moment : ℕ) (image : Areas) → before.moments ≤ moment → moment ≤ later.moments → new.images moment image → Leaves moment image

-- what the call of a serving run leaves
abbrev pub LeavesRun : Account → View → View → Told → Told → Type 0
LeavesRun account old new before later =
    LeavesOnly (λ moment image. LeavesVisit account moment image ⊎ LeavesNone account old before moment image) new before later

-- what a call leaves that changes nothing
abbrev pub LeavesAsBefore : View → View → Told → Told → Type 0
LeavesAsBefore old new before later = LeavesOnly (λ moment image. IsAsBefore old before image) new before later
