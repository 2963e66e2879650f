-- What follows from an end is what the trace says, and the machine stands for the trace after it.
use Rattle.std.proofs.Common.{◌≡◌, ◌≢◌, ℕ, Bool, true, false, ◌==◌, cond, List, [], ◌∷◌, map, Some, refl, ap, ◌∙◌}
use Rattle.std.specs.Prelude.{is_some}
use Rattle.std.specs.List.{find, list_any, Contains}
use Rattle.std.specs.Option.{option_map, option_map_or}
use Rattle.std.proofs.lemmas.List.Elements.{All-contains}
use Rattle.std.proofs.lemmas.Bool.{eqb-true, eq-eqb}
use Rattle.fk_base.specs.declared.purpose.Purpose.{Purpose}
use Rattle.fk_base.specs.declared.purpose.Purpose.TheVariants.{Open, Close}
use Rattle.fk_trace.specs.Trace.{Event, Item, Child, running, open_runs, is_open_of, is_close_of}
use Rattle.fk_trace.specs.Trace.Event.{Ended}
use Rattle.fk_trace.specs.Idle.{is_clean}
use Rattle.fk_trace.proofs.Lists.{find-at, find-map, find-only, list_any-find, list_any-from}
use Rattle.fk_trace.proofs.Running.{same_by_purpose, close-purpose}
use Rattle.fk_cycle.specs.Kept.{Kept, noted_ended}
use Rattle.fk_cycle.specs.Stands.{Obligation, Stands, kept_of, record_of, is_owed}
use Rattle.fk_cycle.specs.declared.act.Act.{Act}
use Rattle.fk_cycle.specs.declared.act.Act.TheVariants.{Nothing, Wait, Settle}
use Rattle.fk_cycle.specs.Acts.{act_at, act_by, act_for_close, owed_after, kept_after}
use Rattle.fk_cycle.proofs.KeptLemmas.{found-ended, opens-other}
use Rattle.fk_cycle.proofs.StandsLemmas.{parted-at, Stands-ended, Stands-without}

abbrev item_of : Event → ℕ → ℕ → Item
item_of event moments faults = record { event = event; moments = moments; faults = faults }

of_purpose : (id : ℕ) (cs : List Child) (child : Child) (purpose : Purpose) → list_any (λ c. is_open_of id c.purpose) cs ≡ false → list_any (λ c. is_close_of id c.purpose) cs ≡ false → Contains cs child → child.purpose ≡ purpose → record_of purpose ≡ id → ⊥
of_purpose id cs child (Open other) opens closes k p e =
    let runs = list_any-from (λ (c : Child). is_open_of id c.purpose) cs child k (ap (is_open_of id) p ∙ eq-eqb other id e) in absurd cc
of_purpose id cs child (Close other) opens closes k p e =
    let runs = list_any-from (λ (c : Child). is_close_of id c.purpose) cs child k (ap (is_close_of id) p ∙ eq-eqb other id e) in absurd cc

none-of : (id : ℕ) (cs : List Child) (child : Child) → list_any (λ c. is_open_of id c.purpose) cs ≡ false → list_any (λ c. is_close_of id c.purpose) cs ≡ false → Contains cs child → record_of child.purpose ≢ id
none-of id cs child opens closes k e =
    let runs : (purpose : Purpose) → child.purpose ≡ purpose → record_of purpose ≡ id → ⊥ = λ purpose p r. of_purpose id cs child purpose opens closes k p r in
    runs child.purpose refl e

module _ (machine : List Kept) (past : List Item) (ends : List ℕ) (live : List Obligation) (stands : Stands machine past ends live) (number : ℕ) where
  -- the close that runs is the one that is found
  close-found : (id : ℕ) → Contains (running past) (record { number = number; purpose = Close id }) → find (λ child. is_close_of id child.purpose) (running past) ≡ Some (record { number = number; purpose = Close id })
  close-found id m =
      find-only (λ (child : Child). is_close_of id child.purpose) (running past) (record { number = number; purpose = Close id }) m (eq-eqb id id refl)
      (λ x k t. same_by_purpose past stands.orderly x (record { number = number; purpose = Close id }) k m (close-purpose id x.purpose t))

  close-kept : (id : ℕ) → Contains (running past) (record { number = number; purpose = Close id }) → option_map (λ (child : Child). is_clean past child.number id) (find (λ child. is_close_of id child.purpose) (running past)) ≡ Some (is_clean past number id)
  close-kept id m = ap (λ o. option_map (λ (child : Child). is_clean past child.number id) o) (close-found id m)

  owed-at : (purpose : Purpose) → Contains (running past) (record { number = number; purpose = purpose }) → (owed : Obligation) × Contains live owed × ((owed.id == record_of purpose) ≡ true) × (find (λ o. o.id == record_of purpose) live ≡ Some owed)
  owed-at purpose m =
      find-at (λ (owed : Obligation). owed.id == record_of purpose) live (All-contains (λ child. is_owed live (record_of child.purpose) ≡ true) (running past) (record { number = number; purpose = purpose }) stands.held m)

  pub act_by-at : (purpose : Purpose) (good : Bool) → Contains (running past) (record { number = number; purpose = purpose }) → act_by machine purpose good ≡ act_at past number purpose good
  act_by-at (Open id) good m = refl
  act_by-at (Close id) good m =
      let some = owed-at (Close id) m in
      let same : some.0.id ≡ id = eqb-true some.0.id id some.2 in
      let found : find (λ kept. kept.id == id) machine ≡ Some (kept_of past ends some.0) =
      ap (find (λ (kept : Kept). kept.id == id)) stands.kept ∙ find-map (kept_of past ends) (λ (kept : Kept). kept.id == id) live ∙ ap (option_map (kept_of past ends)) some.3 in
      let act : option_map_or (λ (kept : Kept). act_for_close kept.id kept.open_runs kept.close) (find (λ kept. kept.id == id) machine) Nothing
      ≡ act_for_close id (open_runs past id) (Some (is_clean past number id)) =
      rw (found, same, close-kept id m) refl in
      elim good as (λ b. cond b (option_map_or (λ (kept : Kept). act_for_close kept.id kept.open_runs kept.close) (find (λ kept. kept.id == id) machine) Nothing) Nothing
      ≡ cond b (act_for_close id (open_runs past id) (Some (is_clean past number id))) Nothing)
      [ true ↦ act | false ↦ refl ]

  -- while a clean close runs, the record's open doesn't
  open-gone : (id : ℕ) → Contains (running past) (record { number = number; purpose = Close id }) → is_clean past number id ≡ true → open_runs past id ≡ false
  open-gone id m clean =
      let some = owed-at (Close id) m in
      let same : some.0.id ≡ id = eqb-true some.0.id id some.2 in
      let parted = parted-at machine past ends live stands some.0 some.1 in
      (rw same at parted) (close-kept id m ∙ ap Some clean)

  -- when a clean close has ended, no child of its record runs
  none-left : (id : ℕ) (good : Bool) (moments faults : ℕ) → Contains (running past) (record { number = number; purpose = Close id }) → is_clean past number id ≡ true → (child : Child) → Contains (running (item_of (Ended number good) moments faults ∷ past)) child → record_of child.purpose ≢ id
  none-left id good moments faults m clean child k e =
      let after : List Item = item_of (Ended number good) moments faults ∷ past in
      let opens : open_runs after id ≡ false = opens-other past [] (record { id = id; due = 0 }) number good 0 moments faults stands.orderly (Close id) m refl ∙ open-gone id m clean in
      let gone = found-ended past [] (record { id = id; due = 0 }) number good 0 moments faults stands.orderly (Close id) m (is_close_of id) (λ u t. close-purpose id u t) in
      let closes : list_any (λ c. is_close_of id c.purpose) (running after) ≡ false = list_any-find (λ (c : Child). is_close_of id c.purpose) (running after) ∙ ap is_some gone in
      none-of id (running after) child opens closes k e

  pub Stands-acted : (purpose : Purpose) (good : Bool) (moment : ℕ) → Contains (running past) (record { number = number; purpose = purpose }) → (moments faults : ℕ) → Stands (kept_after (act_at past number purpose good) (map (noted_ended purpose good moment) machine)) (item_of (Ended number good) moments faults ∷ past) (moment ∷ ends) (owed_after (act_at past number purpose good) live)
  Stands-acted (Open id) good moment m moments faults = Stands-ended machine past ends live stands (Open id) good moment number m moments faults
  Stands-acted (Close id) good moment m moments faults =
      let after : (g : Bool) → Act → Type 0 =
      λ g act. Stands (kept_after act (map (noted_ended (Close id) g moment) machine)) (item_of (Ended number g) moments faults ∷ past) (moment ∷ ends) (owed_after act live) in
      let kept : (g : Bool) → after g Nothing = λ g. Stands-ended machine past ends live stands (Close id) g moment number m moments faults in
      let waits : (g : Bool) → after g Wait = λ g. Stands-ended machine past ends live stands (Close id) g moment number m moments faults in
      let settled : is_clean past number id ≡ true → after true (Settle id) =
      λ clean. Stands-without (map (noted_ended (Close id) true moment) machine) (item_of (Ended number true) moments faults ∷ past) (moment ∷ ends) live (Stands-ended machine past ends live stands (Close id) true moment number m moments faults) id
      (none-left id true moments faults m clean) in
      elim good as (λ g. after g (cond g (cond (is_clean past number id) (Settle id) (cond (open_runs past id) Wait Nothing)) Nothing)) [
        | true ↦ (elim (is_clean past number id) as (λ b. is_clean past number id ≡ b → after true (cond b (Settle id) (cond (open_runs past id) Wait Nothing))) [
          | true ↦ λ e. settled e
          | false ↦ λ e. elim (open_runs past id) as (λ b. after true (cond b Wait Nothing)) [ true ↦ waits true | false ↦ kept true ]
        ]) refl
        | false ↦ kept false
      ]
