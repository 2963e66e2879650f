-- Which closes are due after one was started, or was to be started and did not begin.
use Rattle.std.proofs.Common.{◌≡◌, ℕ, ◌<◌, Bool, true, false, not, ◌&&◌, ◌==◌, cond, List, ◌∷◌, Some, refl, sym, ap, ◌∙◌}
use Rattle.std.specs.Prelude.{nat_le, is_none}
use Rattle.std.specs.List.{list_any, All, Contains}
use Rattle.std.proofs.Math.Bool.{and-false}
use Rattle.fk_base.specs.declared.purpose.Purpose.TheVariants.{Close}
use Rattle.fk_trace.specs.Trace.{Item, children}
use Rattle.fk_trace.specs.Trace.Event.{Began, StartFailed}
use Rattle.fk_trace.specs.Idle.{ended_well, rests}
use Rattle.fk_cycle.specs.Kept.{Kept, noted_begun, noted_not_begun, may_begin, is_ready}
use Rattle.fk_cycle.specs.Stands.{Obligation, Stands, kept_of, is_due}
use Rattle.fk_cycle.proofs.KeptLemmas.{kept_of-began, kept_of-not_begun}
use Rattle.fk_cycle.proofs.StandsLemmas.{may-for}
use Rattle.fk_cycle.proofs.RankLemmas.{ready-due}

ready-begun : (id moment : ℕ) (kept : Kept) → is_ready moment (noted_begun (Close id) kept) ≡ (not (id == kept.id) && is_ready moment kept)
ready-begun id moment kept =
    elim (id == kept.id) as (λ b. is_ready moment (cond b (record kept { close = Some (not kept.open_runs); tried = true }) kept) ≡ (not b && is_ready moment kept)) [ true ↦ refl | false ↦ refl ]

-- the record of that close is no longer due, and each other record is as before
pub is_due-began : (machine : List Kept) (past : List Item) (ends : List ℕ) (live : List Obligation) → Stands machine past ends live → (id : ℕ) → list_any (may_begin (Close id)) machine ≡ true → (number : ℕ) → All (λ child. child.number < number) (children past) → (words : List (List ℕ)) (moments faults moment : ℕ) (owed : Obligation) → Contains live owed → is_due (record { event = Began number (Close id) words; moments = moments; faults = faults } ∷ past) ends moment owed ≡ (not (id == owed.id) && is_due past ends moment owed)
is_due-began machine past ends live stands id may number below words moments faults moment owed m =
    sym (ready-due (record { event = Began number (Close id) words; moments = moments; faults = faults } ∷ past) ends moment owed)
    ∙ ap (is_ready moment) (kept_of-began past ends owed number words moments faults below (Close id) (may-for machine past ends live stands (Close id) may owed m))
    ∙ ready-begun id moment (kept_of past ends owed)
    ∙ ap (λ b. not (id == owed.id) && b) (ready-due past ends moment owed)

ready-not_begun : (id moment : ℕ) (kept : Kept) → is_ready moment (noted_not_begun (Close id) kept) ≡ (not (id == kept.id) && is_ready moment kept)
ready-not_begun id moment kept =
    let rest : Bool = is_none kept.close && not (kept.open_runs && ended_well kept.last_close) && not (rests kept.last_close moment) && nat_le kept.due moment in
    elim (id == kept.id) as (λ b. is_ready moment (cond b (record kept { tried = true }) kept) ≡ (not b && is_ready moment kept)) [ true ↦ and-false rest | false ↦ refl ]

pub is_due-not_begun : (past : List Item) (ends : List ℕ) (id : ℕ) (words : List (List ℕ)) (moments faults moment : ℕ) (owed : Obligation)
    → is_due (record { event = StartFailed (Close id) words; moments = moments; faults = faults } ∷ past) ends moment owed ≡ (not (id == owed.id) && is_due past ends moment owed)
is_due-not_begun past ends id words moments faults moment owed =
    sym (ready-due (record { event = StartFailed (Close id) words; moments = moments; faults = faults } ∷ past) ends moment owed)
    ∙ ap (is_ready moment) (kept_of-not_begun past ends owed (Close id) words moments faults)
    ∙ ready-not_begun id moment (kept_of past ends owed)
    ∙ ap (λ b. not (id == owed.id) && b) (ready-due past ends moment owed)
