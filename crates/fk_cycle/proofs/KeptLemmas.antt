-- What has to be kept for a record changes, at each item, as the machine notes it.
use Rattle.std.proofs.Common.{◌≡◌, ◌≢◌, ℕ, ◌<◌, Bool, true, false, not, ◌||◌, ◌==◌, cond, List, [], ◌∷◌, Option, Some, None, refl, sym, ap, ◌∙◌, arith}
use Rattle.std.specs.Prelude.{is_some, is_none}
use Rattle.std.specs.List.{find, All, Contains}
use Rattle.std.specs.Option.{option_map, option_or}
use Rattle.std.proofs.lemmas.List.{append-nil}
use Rattle.std.proofs.lemmas.List.Elements.{All-contains}
use Rattle.std.proofs.lemmas.List.Folds.{list_any-append, find-append}
use Rattle.std.proofs.lemmas.Bool.{eqb-true, eq-eqb, ne_eqb, and_parts}
use Rattle.std.proofs.Math.Bool.{or-false, or-true}
use Rattle.fk_base.specs.declared.purpose.Purpose.{Purpose}
use Rattle.fk_base.specs.declared.purpose.Purpose.TheVariants.{Open, Close}
use Rattle.fk_trace.specs.Trace.{Event, Item, Child, children, running, open_runs, close_tried, is_open_of, is_close_of}
use Rattle.fk_trace.specs.Trace.Event.{Turn, Began, StartFailed, Ended}
use Rattle.fk_trace.specs.Idle.{End, is_clean, last_close, or_else}
use Rattle.fk_trace.specs.Orderly.{IsOrderly}
use Rattle.fk_trace.proofs.Lists.{list_any-find, find-congr, find-filter_kept, find-filter_none}
use Rattle.fk_trace.proofs.Running.{running-children, child_numbered-running, same_by_number, same_by_purpose, close-purpose, open-purpose}
use Rattle.fk_cycle.specs.Kept.{Kept, noted_turn, noted_begun, noted_not_begun, noted_ended, may_begin}
use Rattle.fk_cycle.specs.Stands.{Obligation, kept_of, record_of}

kept_same : {id due : ℕ} {a b : Bool} {c d : Option Bool} {l m : Option End} {t u : Bool} → a ≡ b → c ≡ d → l ≡ m → t ≡ u
    → ◌≡◌ {A = Kept} (record { id = id; due = due; open_runs = a; close = c; last_close = l; tried = t }) (record { id = id; due = due; open_runs = b; close = d; last_close = m; tried = u })
kept_same e f g h = cc

pub none-mapped : {X Y : Type 0} (f : X → Y) (o : Option X) → is_none (option_map f o) ≡ true → o ≡ None
none-mapped f None e = refl
none-mapped f (Some x) e = absurd cc

option_or-none : {X : Type 0} (o : Option X) → option_or o None ≡ o
option_or-none None = refl
option_or-none (Some x) = refl

abbrev item_of : Event → ℕ → ℕ → Item
item_of event moments faults = record { event = event; moments = moments; faults = faults }

-- whether the close of a record that runs is clean
abbrev close_of : List Item → ℕ → Option Bool
close_of past id = option_map (λ child. is_clean past child.number id) (find (λ child. is_close_of id child.purpose) (running past))

pub kept_of-turn : (past : List Item) (ends : List ℕ) (owed : Obligation) (number moments faults : ℕ) → kept_of (item_of (Turn number) moments faults ∷ past) ends owed ≡ noted_turn (kept_of past ends owed)
kept_of-turn past ends owed number moments faults = rw append-nil refl

pub kept_of-not_begun : (past : List Item) (ends : List ℕ) (owed : Obligation) (purpose : Purpose) (words : List (List ℕ)) (moments faults : ℕ)
    → kept_of (item_of (StartFailed purpose words) moments faults ∷ past) ends owed ≡ noted_not_begun purpose (kept_of past ends owed)
kept_of-not_begun past ends owed (Open id) words moments faults = rw append-nil refl
kept_of-not_begun past ends owed (Close id) words moments faults =
    let kept : Bool → Kept = λ b. record (kept_of past ends owed) { tried = b || close_tried past owed.id } in
    let tried : kept_of (item_of (StartFailed (Close id) words) moments faults ∷ past) ends owed ≡ kept (id == owed.id) = rw append-nil refl in
    tried ∙ elim (id == owed.id) as (λ b. kept b ≡ cond b (record (kept_of past ends owed) { tried = true }) (kept_of past ends owed)) [ true ↦ refl | false ↦ refl ]

module _ (past : List Item) (ends : List ℕ) (owed : Obligation) (number : ℕ) (words : List (List ℕ)) (moments faults : ℕ) (below : All (λ child. child.number < number) (children past)) where
  clean-old : (purpose : Purpose) (child : Child) → Contains (running past) child → is_clean (item_of (Began number purpose words) moments faults ∷ past) child.number owed.id ≡ is_clean past child.number owed.id
  clean-old purpose child m =
      let lt = All-contains (λ c. c.number < number) (children past) child below (running-children past child m) in
      let ne : (number == child.number) ≡ false = ne_eqb number child.number (λ e. absurd (omega arith)) in
      rw ne refl

  close_of-old : (purpose : Purpose) → option_map (λ child. is_clean (item_of (Began number purpose words) moments faults ∷ past) child.number owed.id) (find (λ child. is_close_of owed.id child.purpose) (running past)) ≡ close_of past owed.id
  close_of-old purpose =
      find-congr (λ (child : Child). is_clean (item_of (Began number purpose words) moments faults ∷ past) child.number owed.id) (λ child. is_clean past child.number owed.id)
      (λ child. is_close_of owed.id child.purpose) (running past) (λ child m t. clean-old purpose child m)

  open_runs-began : (purpose : Purpose) → open_runs (item_of (Began number purpose words) moments faults ∷ past) owed.id ≡ (open_runs past owed.id || is_open_of owed.id purpose)
  open_runs-began purpose =
      list_any-append (λ (child : Child). is_open_of owed.id child.purpose) (running past) (record { number = number; purpose = purpose } ∷ [])
      ∙ ap (λ b. open_runs past owed.id || b) (or-false (is_open_of owed.id purpose))

  find-began : (purpose : Purpose) → find (λ child. is_close_of owed.id child.purpose) (running (item_of (Began number purpose words) moments faults ∷ past)) ≡ option_or (find (λ child. is_close_of owed.id child.purpose) (running past)) (cond (is_close_of owed.id purpose) (Some (record { number = number; purpose = purpose })) None)
  find-began purpose = find-append (λ (child : Child). is_close_of owed.id child.purpose) (running past) (record { number = number; purpose = purpose } ∷ [])

  -- a child that is no close of the record leaves its close
  close-other : (purpose : Purpose) → is_close_of owed.id purpose ≡ false → close_of (item_of (Began number purpose words) moments faults ∷ past) owed.id ≡ close_of past owed.id
  close-other purpose n =
      let found : find (λ child. is_close_of owed.id child.purpose) (running (item_of (Began number purpose words) moments faults ∷ past)) ≡ find (λ child. is_close_of owed.id child.purpose) (running past) =
      find-began purpose ∙ rw n (option_or-none (find (λ child. is_close_of owed.id child.purpose) (running past))) in
      ap (λ o. option_map (λ (child : Child). is_clean (item_of (Began number purpose words) moments faults ∷ past) child.number owed.id) o) found ∙ close_of-old purpose

  -- a close that begins while none runs is clean where no open runs
  close-new : (id : ℕ) → (id == owed.id) ≡ true → is_none (close_of past owed.id) ≡ true → close_of (item_of (Began number (Close id) words) moments faults ∷ past) owed.id ≡ Some (not (open_runs past owed.id))
  close-new id e n =
      let none = none-mapped (λ (child : Child). is_clean past child.number owed.id) (find (λ child. is_close_of owed.id child.purpose) (running past)) n in
      let found : find (λ child. is_close_of owed.id child.purpose) (running (item_of (Began number (Close id) words) moments faults ∷ past)) ≡ Some (record { number = number; purpose = Close id }) =
      find-began (Close id) ∙ rw (none, e) refl in
      let same : (number == number) ≡ true = eq-eqb number number refl in
      ap (λ o. option_map (λ (child : Child). is_clean (item_of (Began number (Close id) words) moments faults ∷ past) child.number owed.id) o) found ∙ rw same refl

  pub kept_of-began : (purpose : Purpose) → ((record_of purpose == owed.id) ≡ true → may_begin purpose (kept_of past ends owed) ≡ true) → kept_of (item_of (Began number purpose words) moments faults ∷ past) ends owed ≡ noted_begun purpose (kept_of past ends owed)
  kept_of-began (Open id) may =
      (elim (id == owed.id) as (λ b. open_runs (item_of (Began number (Open id) words) moments faults ∷ past) owed.id ≡ (open_runs past owed.id || b)
      → kept_of (item_of (Began number (Open id) words) moments faults ∷ past) ends owed ≡ cond b (record (kept_of past ends owed) { open_runs = true }) (kept_of past ends owed)) [
        | true ↦ λ e. kept_same (e ∙ or-true (open_runs past owed.id)) (close-other (Open id) refl) refl refl
        | false ↦ λ e. kept_same (e ∙ or-false (open_runs past owed.id)) (close-other (Open id) refl) refl refl
      ]) (open_runs-began (Open id))
  kept_of-began (Close id) may =
      let opens = open_runs-began (Close id) ∙ or-false (open_runs past owed.id) in
      (elim (id == owed.id) as (λ b. (id == owed.id) ≡ b
      → kept_of (item_of (Began number (Close id) words) moments faults ∷ past) ends owed ≡ cond b (record (kept_of past ends owed) { close = Some (not (open_runs past owed.id)); tried = true }) (kept_of past ends owed)) [
        | true ↦ λ e. kept_same opens (close-new id e (and_parts (id == owed.id) (is_none (close_of past owed.id)) (may e)).1) refl (ap (λ b. b || close_tried past owed.id) e)
        | false ↦ λ e. kept_same opens (close-other (Close id) e) refl (ap (λ b. b || close_tried past owed.id) e)
      ]) refl

module _ (past : List Item) (ends : List ℕ) (owed : Obligation) (number : ℕ) (good : Bool) (moment moments faults : ℕ) (orderly : IsOrderly past) where
  -- what a test of purposes finds among the children that still run: as before where the ended child doesn't pass
  found-other : (purpose : Purpose) → Contains (running past) (record { number = number; purpose = purpose }) → (p : Purpose → Bool) → p purpose ≡ false → find (λ child. p child.purpose) (running (item_of (Ended number good) moments faults ∷ past)) ≡ find (λ child. p child.purpose) (running past)
  found-other purpose m p n =
      rw append-nil (find-filter_kept (λ (child : Child). p child.purpose) (λ child. not (child.number == number)) (running past) (λ x k t.
      let differ : x.number ≢ number = λ e.
      let same = same_by_number past orderly x (record { number = number; purpose = purpose }) (running-children past x k) (running-children past (record { number = number; purpose = purpose }) m) e in
      absurd (let w = ap (λ (child : Child). p child.purpose) same in cc) in
      ap not (ne_eqb x.number number differ)))

  -- and nothing where only the ended child's purpose passes
  pub found-ended : (purpose : Purpose) → Contains (running past) (record { number = number; purpose = purpose }) → (p : Purpose → Bool) → ((u : Purpose) → p u ≡ true → u ≡ purpose) → find (λ child. p child.purpose) (running (item_of (Ended number good) moments faults ∷ past)) ≡ None
  found-ended purpose m p only =
      rw append-nil (find-filter_none (λ (child : Child). p child.purpose) (λ child. not (child.number == number)) (running past) (λ x k t.
      let same = same_by_purpose past orderly x (record { number = number; purpose = purpose }) k m (only x.purpose t) in
      ap not (eq-eqb x.number number (ap (λ (child : Child). child.number) same))))

  last-ended : (purpose : Purpose) → Contains (running past) (record { number = number; purpose = purpose }) → last_close (item_of (Ended number good) moments faults ∷ past) (moment ∷ ends) owed.id ≡ or_else (cond (is_close_of owed.id purpose) (Some (record { good = good; moment = moment })) None) (last_close past ends owed.id)
  last-ended purpose m = rw (child_numbered-running past orderly (record { number = number; purpose = purpose }) m) refl

  pub opens-other : (purpose : Purpose) → Contains (running past) (record { number = number; purpose = purpose }) → is_open_of owed.id purpose ≡ false → open_runs (item_of (Ended number good) moments faults ∷ past) owed.id ≡ open_runs past owed.id
  opens-other purpose m n =
      list_any-find (λ (child : Child). is_open_of owed.id child.purpose) (running (item_of (Ended number good) moments faults ∷ past))
      ∙ ap is_some (found-other purpose m (is_open_of owed.id) n) ∙ sym (list_any-find (λ (child : Child). is_open_of owed.id child.purpose) (running past))

  pub kept_of-ended : (purpose : Purpose) → Contains (running past) (record { number = number; purpose = purpose }) → kept_of (item_of (Ended number good) moments faults ∷ past) (moment ∷ ends) owed ≡ noted_ended purpose good moment (kept_of past ends owed)
  kept_of-ended (Open id) m =
      let closes : close_of (item_of (Ended number good) moments faults ∷ past) owed.id ≡ close_of past owed.id =
      ap (λ o. option_map (λ (child : Child). is_clean past child.number owed.id) o) (found-other (Open id) m (is_close_of owed.id) refl) in
      (elim (id == owed.id) as (λ b. (id == owed.id) ≡ b
      → kept_of (item_of (Ended number good) moments faults ∷ past) (moment ∷ ends) owed ≡ cond b (record (kept_of past ends owed) { open_runs = false }) (kept_of past ends owed)) [
        | true ↦ λ e.
            let only : (u : Purpose) → is_open_of owed.id u ≡ true → u ≡ Open id = λ u t. open-purpose owed.id u t ∙ ap Open (sym (eqb-true id owed.id e)) in
            kept_same (list_any-find (λ (child : Child). is_open_of owed.id child.purpose) (running (item_of (Ended number good) moments faults ∷ past)) ∙ ap is_some (found-ended (Open id) m (is_open_of owed.id) only)) closes (last-ended (Open id) m) refl
        | false ↦ λ e. kept_same (opens-other (Open id) m e) closes (last-ended (Open id) m) refl
      ]) refl
  kept_of-ended (Close id) m =
      let opens = opens-other (Close id) m refl in
      (elim (id == owed.id) as (λ b. (id == owed.id) ≡ b
      → kept_of (item_of (Ended number good) moments faults ∷ past) (moment ∷ ends) owed ≡ cond b (record (kept_of past ends owed) { close = None; last_close = Some (record { good = good; moment = moment }) }) (kept_of past ends owed)) [
        | true ↦ λ e.
            let only : (u : Purpose) → is_close_of owed.id u ≡ true → u ≡ Close id = λ u t. close-purpose owed.id u t ∙ ap Close (sym (eqb-true id owed.id e)) in
            kept_same opens (ap (λ o. option_map (λ (child : Child). is_clean past child.number owed.id) o) (found-ended (Close id) m (is_close_of owed.id) only)) (last-ended (Close id) m ∙ rw e refl) refl
        | false ↦ λ e. kept_same opens
            (ap (λ o. option_map (λ (child : Child). is_clean past child.number owed.id) o) (found-other (Close id) m (is_close_of owed.id) e)) (last-ended (Close id) m ∙ rw e refl) refl
      ]) refl
