-- The first of the records that may be closed.
use Rattle.std.proofs.Common.{◌≡◌, ℕ, true, false, not, List, map, Option, Some, None, refl, sym, ap, ◌∙◌, subst}
use Rattle.std.specs.Prelude.{is_some, is_none}
use Rattle.std.specs.List.{find, All, Contains}
use Rattle.std.specs.Option.{option_map}
use Rattle.std.proofs.lemmas.List.Elements.{All-contains}
use Rattle.fk_trace.specs.Trace.{Item, Child, running, close_runs, is_close_of}
use Rattle.fk_trace.specs.Idle.{is_clean}
use Rattle.fk_trace.proofs.Lists.{list_any-find, Contains-map, Contains-unmap, All-by}
use Rattle.fk_timer.specs.Schedule.{precedes as entry_precedes}
use Rattle.fk_cycle.specs.Kept.{Kept, is_ready}
use Rattle.fk_cycle.specs.Stands.{Obligation, Stands, IsNextDue, is_due, kept_of, precedes}
use Rattle.fk_cycle.specs.Private.{entry_of}
use Rattle.fk_cycle.specs.Ranks.{IsFirstReady}

none-not-some : {X Y : Type 0} (f : X → Y) (o : Option X) → is_none (option_map f o) ≡ not (is_some o)
none-not-some f None = refl
none-not-some f (Some x) = refl

-- what is kept of a record says that a close of it may be attempted exactly where its close is due
pub ready-due : (past : List Item) (ends : List ℕ) (moment : ℕ) (owed : Obligation) → is_ready moment (kept_of past ends owed) ≡ is_due past ends moment owed
ready-due past ends moment owed =
    let closes : is_none (option_map (λ (child : Child). is_clean past child.number owed.id) (find (λ child. is_close_of owed.id child.purpose) (running past))) ≡ not (close_runs past owed.id) =
    none-not-some (λ (child : Child). is_clean past child.number owed.id) (find (λ child. is_close_of owed.id child.purpose) (running past))
    ∙ ap not (sym (list_any-find (λ (child : Child). is_close_of owed.id child.purpose) (running past))) in
    rw closes refl

pub next_due : (machine : List Kept) (past : List Item) (ends : List ℕ) (live : List Obligation) → Stands machine past ends live → (moment : ℕ) (first : Option ℕ) → IsFirstReady moment machine first → IsNextDue past ends moment live first
next_due machine past ends live stands moment None h =
    let none : All (λ kept. is_ready moment kept ≡ false) (map (kept_of past ends) live) = rw stands.kept at h in
    All-by (λ owed. is_due past ends moment owed ≡ false) live (λ owed m.
    sym (ready-due past ends moment owed) ∙ All-contains (λ kept. is_ready moment kept ≡ false) (map (kept_of past ends) live) (kept_of past ends owed) none (Contains-map (kept_of past ends) live owed m))
next_due machine past ends live stands moment (Some id) h =
    let contained : Contains (map (kept_of past ends) live) h.0 = subst (λ (kept : List Kept). Contains kept h.0) stands.kept h.1 in
    let first : All (λ other. is_ready moment other ≡ true → entry_precedes (entry_of other) (entry_of h.0) ≡ false) (map (kept_of past ends) live) =
    subst (λ (kept : List Kept). All (λ other. is_ready moment other ≡ true → entry_precedes (entry_of other) (entry_of h.0) ≡ false) kept) stands.kept h.4 in
    let owed = Contains-unmap (kept_of past ends) live h.0 contained in (
      owed.0,
      owed.1,
      ap (λ (kept : Kept). kept.id) owed.2 ∙ h.2,
      sym (ready-due past ends moment owed.0) ∙ ap (is_ready moment) owed.2 ∙ h.3,
      All-by (λ other. is_due past ends moment other ≡ true → precedes other owed.0 ≡ false) live (λ other m t.
          let n = All-contains (λ kept. is_ready moment kept ≡ true → entry_precedes (entry_of kept) (entry_of h.0) ≡ false) (map (kept_of past ends) live) (kept_of past ends other) first (Contains-map (kept_of past ends) live other m) (ready-due past ends moment other ∙ t) in
          ap (λ (kept : Kept). entry_precedes (entry_of (kept_of past ends other)) (entry_of kept)) owed.2 ∙ n),
    )
