-- Which close is started next.
use Rattle.std.proofs.Common.{◌≡◌, ℕ, ◌≤◌, Bool, true, false, not, ◌&&◌, nat_le, eqb, List, [], Some, None, Ok, Err, sym, ap, ◌∙◌, subst}
use Rattle.std.specs.Prelude.{find}
use Rattle.std.specs.List.{Contains, filter, list_any}
use Rattle.std.proofs.lemmas.Bool.{eqb-true, eqb-false, eq-eqb, and_parts, leb-true, not-true}
use Rattle.fk_base.specs.declared.memory.NoMemory.{NoMemory}
use Rattle.fk_base.specs.declared.purpose.Purpose.TheVariants.{Close}
use Rattle.fk_trace.specs.declared.change.OpenRecord.{OpenRecord}
use Rattle.fk_trace.specs.declared.change.Change.{Change}
use Rattle.fk_trace.specs.Trace.{Item, open_runs, close_runs, close_tried}
use Rattle.fk_trace.specs.Idle.{is_idle, last_close, ended_well, rests}
use Rattle.fk_trace.specs.Ledger.{live}
use Rattle.fk_trace.proofs.Lists.{Contains-filter, Contains-unmap, list_any-from}
use Rattle.fk_run.specs.Place.{Place}
use Rattle.fk_cycle.specs.Kept.{Kept, may_begin}
use Rattle.fk_cycle.specs.Stands.{Obligation, Stands, is_owed, is_due, IsNextDue}
use Rattle.fk_cycle.proofs.StandsLemmas.{close-begins}
use Rattle.fk_host.specs.Disk.{Above}
use Rattle.fk_child.specs.View.{View}
use Rattle.fk_child.specs.Crew.{CrewState, CrewHost, IsTied, StandsAt, obligation_of, obligations_but}
use Rattle.fk_child.specs.Calls.{Attempts, IsNextClose, StartsClose}
use Rattle.fk_child.proofs.Records.{find-found, find-none}
use Rattle.fk_child.proofs.Ties.{with_host}
use Rattle.fk_child.proofs.Opens.{attempts-from}

-- the parts of being due
pub due-parts : (past : List Item) (ends : List ℕ) (moment : ℕ) (owed : Obligation) → is_due past ends moment owed ≡ true → (is_idle past ends moment owed.id ≡ true) × (owed.due ≤ moment) × (close_tried past owed.id ≡ false)
due-parts past ends moment owed e =
    let outer = and_parts (is_idle past ends moment owed.id && nat_le owed.due moment) (not (close_tried past owed.id)) e in
    let inner = and_parts (is_idle past ends moment owed.id) (nat_le owed.due moment) outer.0 in
    (inner.0, leb-true owed.due moment inner.1, not-true (close_tried past owed.id) outer.1)

due-no_close : (past : List Item) (ends : List ℕ) (moment : ℕ) (owed : Obligation) → is_due past ends moment owed ≡ true → close_runs past owed.id ≡ false
due-no_close past ends moment owed e =
    let idle = (due-parts past ends moment owed e).0 in
    let no_close : Bool = not (close_runs past owed.id) in
    let no_open : Bool = not (open_runs past owed.id && ended_well (last_close past ends owed.id)) in
    let outer = and_parts (no_close && no_open) (not (rests (last_close past ends owed.id) moment)) idle in
    not-true (close_runs past owed.id) (and_parts no_close no_open outer.0).0

-- the live record whose close is due next
pub due-record : (past : List Item) (ends : List ℕ) (moment : ℕ) (ledger : List Change) (id : ℕ) → IsNextDue past ends moment (obligations_but [] ledger) (Some id)
    → (item : OpenRecord) × Contains (live ledger) item × (item.id ≡ id)
due-record past ends moment ledger id next =
    let at = Contains-unmap obligation_of (filter (λ (item : OpenRecord). true) (live ledger)) next.0 next.1 in
    (at.0, Contains-filter (λ (item : OpenRecord). true) (live ledger) at.0 at.1, ap (λ (o : Obligation). o.id) at.2 ∙ next.2)

-- it may begin
pub due-begins : (kept : List Kept) (past : List Item) (ends : List ℕ) (moment : ℕ) (owed : List Obligation) (id : ℕ) → Stands kept past ends owed → IsNextDue past ends moment owed (Some id)
    → list_any (may_begin (Close id)) kept ≡ true
due-begins kept past ends moment owed id stands next =
    let is : is_owed owed id ≡ true = list_any-from (λ (o : Obligation). eqb o.id id) owed next.0 next.1 (eq-eqb next.0.id id next.2) in
    let closes : close_runs past id ≡ false = subst (λ (n : ℕ). close_runs past n ≡ false) next.2 (due-no_close past ends moment next.0 next.3) in
    close-begins kept past ends owed stands id is closes

-- the ledger has it
pub due-found : (past : List Item) (ends : List ℕ) (moment : ℕ) (ledger : List Change) (id : ℕ) → IsNextDue past ends moment (obligations_but [] ledger) (Some id)
    → None ≡ find (λ item. eqb item.id id) (live ledger) → ⊥
due-found past ends moment ledger id next missed =
    let at = due-record past ends moment ledger id next in
    eqb-false at.0.id id (find-none (λ (item : OpenRecord). eqb item.id id) (live ledger) (sym missed) at.0 at.1) at.2

module _ (moment id : ℕ) (place : Place) (item : OpenRecord) (next : IsNextDue place.past place.ends moment (obligations_but [] place.ledger) (Some id)) (found : Some item ≡ find (λ other. eqb other.id id) (live place.ledger)) where
  same-id : item.id ≡ id
  same-id = eqb-true item.id id (find-found (λ (other : OpenRecord). eqb other.id id) (live place.ledger) item (sym found)).1

  pub is-next : IsNextClose moment place item
  is-next = record {
    lives = (find-found (λ (other : OpenRecord). eqb other.id id) (live place.ledger) item (sym found)).0;
    next = subst (λ (n : ℕ). IsNextDue place.past place.ends moment (obligations_but [] place.ledger) (Some n)) (sym same-id) next;
  }

  module _ (crew crew0 : CrewState) (host : View) (new : CrewHost) where
    -- its close is tried
    pub tries-next : (begun : Bool) → Attempts (Close id) item.close (Ok begun) place (with_host crew host) new
        → StartsClose moment (Ok (Some (record { id = id; begun = begun }))) place (with_host crew0 host) new
    tries-next begun attempts = record {
      closing = item;
      next = is-next;
      numbered = sym same-id;
      attempts = subst (λ (n : ℕ). Attempts (Close n) item.close (Ok begun) place (with_host crew0 host) new) (sym same-id)
          (attempts-from (Close id) item.close (Ok begun) place crew crew0 host new attempts);
    }

    -- memory was wanting
    pub wants-next : (error : NoMemory) → Attempts (Close id) item.close (Err error) place (with_host crew host) new → StartsClose moment (Err error) place (with_host crew0 host) new
    wants-next error attempts = ((item, is-next), attempts-from (Close id) item.close (Err error) place crew crew0 host new attempts)

-- with nothing unsettled the machine stands for all that is live
pub settled-stands : (crew : CrewState) (above : Above) (place : Place) → crew.unsettled ≡ [] → IsTied crew above place → Stands crew.kept place.past place.ends (obligations_but [] place.ledger)
settled-stands crew above place settled tied = subst (λ (ids : List ℕ). Stands crew.kept place.past place.ends (obligations_but ids place.ledger)) settled tied.stands

-- what is kept may be told by another that is the same
pub stands-kept : (crew : CrewState) (host : View) (place : Place) (kept : List Kept) → kept ≡ crew.kept → StandsAt (with_host crew host) place → StandsAt (with_host (record crew { kept = kept }) host) place
stands-kept crew host place kept e at = subst (λ (k : List Kept). StandsAt (with_host (record crew { kept = k }) host) place) (sym e) at
