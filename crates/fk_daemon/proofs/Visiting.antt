-- What the calls of the daemon leave at each of their moments.
use Rattle.std.proofs.Common.{◌≡◌, ◌⊎◌, ℕ, ◌<◌, ◌≤◌, Option, Some, None, ◌∙◌, subst, inl, inr, arith}
use Rattle.std.specs.Prelude.{IfSome}
use Rattle.fk_trace.specs.Trace.{Item}
use Rattle.fk_run.specs.Run.{trace_of}
use Rattle.fk_host.specs.Disk.{Areas, Told, IfTold}
use Rattle.fk_ledger.specs.Stretch.{KeepsSelected, IsKeptOpening}
use Rattle.fk_ledger.proofs.EitherFormat.{holds_kept}
use Rattle.fk_child.specs.View.{View, AddsItems}
use Rattle.fk_child.proofs.Pieces.{recursion-weaker}
use Rattle.fk_daemon.specs.declared.task.Task.{Task}
use Rattle.fk_daemon.specs.Account.{Account, IsServing, tried_changes}
use Rattle.fk_daemon.specs.Moments.{HoldsRun, RunMoments}
use Rattle.fk_daemon.specs.Serving.{RunsOn, OpensInVain}
use Rattle.fk_daemon.specs.Visits.{KeepsState, IsAsBefore, LeavesVisit, LeavesNone, LeavesRun, LeavesAsBefore}
use Rattle.fk_daemon.proofs.Behind.{order}

-- what keeps the selected area has the State of each ledger
pub held-state : (from image : Areas) → KeepsSelected from image → KeepsState from image
held-state from image keeps ledger state =
    let r = holds_kept from image state.0 keeps state.1 in
    (r.0, r.1, r.2 ∙ state.2)

module _ (task : Task) (account : Account) (old new : View) (before later : Told) (serving : IsServing task account) (adds : AddsItems (trace_of account.run) before later)
    (moments : RunMoments account.run (tried_changes account) old.images new.images before later) where
  -- before its first calls of the disk have ended well a run leaves what stood at entry
  leaves-none : (moment : ℕ) (image : Areas) → moment ≤ moments.unsynced → old.images before.moments image → LeavesNone account old before moment image
  leaves-none moment image low stood =
      record {
        as_before = (image, stood, λ ledger state. state);
        none = recursion-weaker (λ (item : Item). moments.unsynced < item.moments) (λ item. moment < item.moments) (λ item behind. omega (arith, behind, low)) (trace_of account.run) moments.before;
      }

  leaves-one : (moment : ℕ) (image : Areas) → before.moments ≤ moment → moment ≤ later.moments → new.images moment image → LeavesVisit account moment image ⊎ LeavesNone account old before moment image
  leaves-one moment image since until left =
      let low = moments.first.since in
      elim (order moment before.moments) [
        | inl entry ↦
            let same : moment ≡ before.moments = omega (arith, entry, since) in
            let stood : old.images moment image = (moments.past moment image entry).0 left in
            inr (leaves-none moment image (omega (arith, entry, low)) (subst (λ (k : ℕ). old.images k image) same stood))
        | inr behind ↦ elim (order moment moments.unsynced) [
          | inl unsynced ↦ inr (leaves-none moment image unsynced (moments.first.stood moment image behind unsynced left))
          | inr synced ↦
              let crash : HoldsRun account.run (tried_changes account) 0 moment image = moments.then.each moment image synced until left in
              inl (record {
                count = crash.count;
                is = record { ledger = serving.ledger; legal = serving.legal; rising = adds.rising; left = crash.left };
                holds = crash.holds;
              })
        ]
      ]

told-run : (task : Task) (account : Account) (old new : View) → IsServing task account → (s t : Option Told) → IfTold s t (AddsItems (trace_of account.run))
    → IfTold s t (RunMoments account.run (tried_changes account) old.images new.images) → IfTold s t (LeavesRun account old new)
told-run task account old new serving s None adds moments = tt
told-run task account old new serving None (Some later) adds moments = absurd adds
told-run task account old new serving (Some before) (Some later) adds moments = leaves-one task account old new before later serving adds moments

pub leaves-run : (task : Task) (account : Account) (old new : View) → IsServing task account → RunsOn account old new → IfTold old.told new.told (LeavesRun account old new)
leaves-run task account old new serving runs = told-run task account old new serving old.told new.told runs.trace runs.moments

-- an opening that failed leaves what stood at entry
opening-one : (old new : View) (before later : Told) → old.images before.moments before.areas → IsKeptOpening old.images new.images before later → LeavesAsBefore old new before later
opening-one old new before later read opening moment image since until left =
    let itself : old.images before.moments image → IsAsBefore old before image = λ stood. (image, stood, λ ledger state. state) in
    elim (order moment before.moments) [
      | inl entry ↦
          let same : moment ≡ before.moments = omega (arith, entry, since) in
          itself (subst (λ (k : ℕ). old.images k image) same ((opening.past moment image entry).0 left))
      | inr behind ↦ elim (order moment opening.unsynced) [
        | inl unsynced ↦ itself (opening.first.stood moment image behind unsynced left)
        | inr synced ↦ (before.areas, read, held-state before.areas image (opening.then moment image synced until left))
      ]
    ]

told-opening : (old new : View) (s t : Option Told) → IfSome s (λ now. old.images now.moments now.areas) → IfTold s t (IsKeptOpening old.images new.images) → IfTold s t (LeavesAsBefore old new)
told-opening old new s None read opening = tt
told-opening old new None (Some later) read opening = absurd opening
told-opening old new (Some before) (Some later) read opening = opening-one old new before later read opening

pub leaves-as_before : (old new : View) → IfSome old.told (λ now. old.images now.moments now.areas) → OpensInVain old new → IfTold old.told new.told (LeavesAsBefore old new)
leaves-as_before old new read vain = told-opening old new old.told new.told read vain.kept
