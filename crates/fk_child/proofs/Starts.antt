-- How a crew starts a child.
use Rattle.std.proofs.Common.{◌≡◌, ℕ, ◌+◌, ◌*◌, ◌<◌, ◌≤◌, true, false, List, [], ◌∷◌, ◌++◌, length, map, Some, None, Ok, Err, refl, sym, ap, ◌∙◌, subst, arith, append-nil}
use Rattle.std.specs.List.{All, list_any}
use Rattle.std.proofs.lemmas.List.{length_push, length-map}
use Rattle.std.proofs.lemmas.List.Elements.{All-contains, All-weaker, Contains-push}
use Rattle.std.proofs.lemmas.Bool.{ne_eqb}
use Rattle.fk_base.specs.declared.memory.NoMemory.{NoMemory}
use Rattle.fk_base.specs.declared.purpose.Purpose.{Purpose}
use Rattle.fk_base.specs.declared.purpose.Purpose.TheVariants.{Open, Close}
use Rattle.fk_trace.specs.declared.change.OpenRecord.{OpenRecord}
use Rattle.fk_trace.specs.declared.change.Change.{Change}
use Rattle.fk_trace.specs.Trace.{Child, children, running}
use Rattle.fk_trace.specs.Trace.Event.{Began, StartFailed}
use Rattle.fk_trace.specs.Ledger.{live, next_id, IsLedger}
use Rattle.fk_trace.specs.Orderly.{is_of_record}
use Rattle.fk_run.specs.Place.{Place, behind}
use Rattle.fk_cycle.specs.Kept.{may_begin, noted_begun}
use Rattle.fk_cycle.specs.Stands.{Stands, record_of, is_owed}
use Rattle.fk_cycle.proofs.StandsLemmas.{Stands-began}
use Rattle.fk_host.specs.Disk.{Above, IfTold}
use Rattle.fk_host.specs.Host.{Brings, above_after}
use Rattle.fk_child.specs.View.{View}
use Rattle.fk_child.specs.Crew.{CrewState, IsTied, StandsAt, obligations_but}
use Rattle.fk_child.specs.Calls.{Attempts}
use Rattle.fk_child.proofs.Records.{live-below, owed-live}
use Rattle.fk_child.proofs.Counts.{runs-few, owed-few}
use Rattle.fk_child.proofs.Ties.{with_host, item_after, tied-same, tied-began, goes-item, goes-nothing}

-- what is owed is not of a record that is yet to come
not-of : (purpose : Purpose) (id : ℕ) → record_of purpose < id → is_of_record id purpose ≡ false
not-of (Open other) id l = rw (ne_eqb other id (λ e. absurd (omega arith))) refl
not-of (Close other) id l = rw (ne_eqb other id (λ e. absurd (omega arith))) refl

pub other-record : (unsettled : List ℕ) (ledger : List Change) (purpose : Purpose) → IsLedger ledger → is_owed (obligations_but unsettled ledger) (record_of purpose) ≡ true
    → (id : ℕ) → next_id ledger ≤ id → is_of_record id purpose ≡ false
other-record unsettled ledger purpose is owed id next =
    let at = owed-live unsettled ledger (record_of purpose) owed in
    let low = live-below ledger at.0 at.1 in
    let same = at.2 in
    not-of purpose id (omega arith)

module _ (crew : CrewState) (host : View) (place : Place) (stands : StandsAt (with_host crew host) place) (purpose : Purpose) (may : list_any (may_begin purpose) crew.kept ≡ true) where
  begun-below : (number : ℕ) → host.above.last_child < number → All (λ (child : Child). child.number < number) (children place.past)
  begun-below number l = All-weaker (λ (c : Child). c.number ≤ host.above.last_child) (λ (c : Child). c.number < number) (λ c h. omega arith) (children place.past) stands.tied.below

  after-begun : (number : ℕ) → host.above.last_child < number
      → Stands (map (noted_begun purpose) crew.kept) (record { event = Began number purpose []; moments = 0; faults = 0 } ∷ place.past) place.ends (obligations_but crew.unsettled place.ledger)
  after-begun number l =
      Stands-began crew.kept place.past place.ends (obligations_but crew.unsettled place.ledger) stands.tied.stands purpose may number (begun-below number l) [] 0 0

  -- a child may begin only for a record that is owed
  pub owed-purpose : is_owed (obligations_but crew.unsettled place.ledger) (record_of purpose) ≡ true
  owed-purpose =
      let number : ℕ = host.above.last_child + 1 in
      let child : Child = record { number = number; purpose = purpose } in
      All-contains (λ (c : Child). is_owed (obligations_but crew.unsettled place.ledger) (record_of c.purpose) ≡ true) (running place.past ++ child ∷ []) child
      (after-begun number (omega arith)).held (Contains-push (running place.past) child)

  others-unused : (id : ℕ) → next_id place.ledger ≤ id → is_of_record id purpose ≡ false
  others-unused = other-record crew.unsettled place.ledger purpose stands.keeps.follow owed-purpose

  -- there is room for one child more
  pub one-more : length crew.children + 1 ≤ 2 * length crew.owed
  one-more =
      let number : ℕ = host.above.last_child + 1 in
      let child : Child = record { number = number; purpose = purpose } in
      let runs = runs-few (map (noted_begun purpose) crew.kept) (record { event = Began number purpose []; moments = 0; faults = 0 } ∷ place.past) place.ends (obligations_but crew.unsettled place.ledger) (after-begun number (omega arith)) in
      let pushed = length_push (running place.past) child in
      let held = ap length stands.tied.runs in
      let owed = owed-few crew.unsettled place.ledger in
      let owes = ap length stands.tied.owes ∙ length-map (live place.ledger) (λ (item : OpenRecord). item.id) in
      omega arith

  module _ (crew' : CrewState) (new : View) (words : List (List ℕ)) (disk : new.faults ≡ host.faults) (owes : crew'.owed ≡ crew.owed) (waits : crew'.unsettled ≡ crew.unsettled) where
    pub attempts-begun : (number : ℕ) → host.above.last_child < number
        → IfTold host.told new.told (Brings (Some (Began number purpose words)) new.faults host.images new.images)
        → new.above ≡ above_after (Began number purpose words) host.above
        → crew'.children ≡ crew.children ++ record { number = number; purpose = purpose } ∷ []
        → (All (λ (child : Child). child.number < number) (children place.past) → Stands crew'.kept (item_after (Began number purpose words) new ∷ place.past) place.ends (obligations_but crew.unsettled place.ledger))
        → Attempts purpose words (Ok true) place (with_host crew host) (with_host crew' new)
    attempts-begun number l call above holds tells = (
      item_after (Began number purpose words) new,
      (refl, refl),
      refl,
      λ moment. goes-item (Began number purpose words) moment place crew crew' host new call disk stands
          (subst (λ (a : Above). IsTied crew' a (behind moment place (item_after (Began number purpose words) new ∷ []))) (sym above)
          (tied-began crew crew' host.above moment place number purpose words _ _ l owes holds waits (tells (begun-below number l)) others-unused stands.tied)),
    )

    pub attempts-failed : IfTold host.told new.told (Brings (Some (StartFailed purpose words)) new.faults host.images new.images)
        → new.above ≡ above_after (StartFailed purpose words) host.above
        → crew'.children ≡ crew.children
        → Stands crew'.kept (item_after (StartFailed purpose words) new ∷ place.past) place.ends (obligations_but crew.unsettled place.ledger)
        → Attempts purpose words (Ok false) place (with_host crew host) (with_host crew' new)
    attempts-failed call above holds tells = (
      item_after (StartFailed purpose words) new,
      (refl, refl),
      refl,
      λ moment. goes-item (StartFailed purpose words) moment place crew crew' host new call disk stands
          (tied-same crew crew' host.above new.above moment place (item_after (StartFailed purpose words) new) (append-nil (children place.past)) (append-nil (running place.past))
          (ap (λ (a : Above). a.running) above ∙ append-nil host.above.running) (ap (λ (a : Above). a.last_child) above) owes holds waits tells
          (λ id next. rw (others-unused id next) (stands.tied.unused id next)) stands.tied),
    )

  pub attempts-none : (new : View) (words : List (List ℕ)) (error : NoMemory) → new.faults ≡ host.faults
      → IfTold host.told new.told (Brings None new.faults host.images new.images) → new.above ≡ host.above
      → Attempts purpose words (Err error) place (with_host crew host) (with_host crew new)
  attempts-none new words error disk call above =
      λ moment. goes-nothing moment place crew crew host new call disk stands (subst (λ (a : Above). IsTied crew a place) (sym above) stands.tied)
