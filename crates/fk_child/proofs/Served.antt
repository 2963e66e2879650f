-- What stands from one call of a served turn to the next.
use Rattle.std.proofs.Common.{◌≡◌, ℕ, false, List, [], ◌∷◌, Bool, Ok, Some, refl, sym, ap, ◌∙◌, subst}
use Rattle.fk_trace.specs.declared.change.OpenRecord.{OpenRecord}
use Rattle.fk_trace.specs.declared.change.Change.{Change}
use Rattle.fk_trace.specs.declared.change.Change.TheVariants.{Open as OpenChange, Done}
use Rattle.fk_trace.specs.Ledger.{next_id, after}
use Rattle.fk_run.specs.Place.{Place, behind, changed, entry}
use Rattle.fk_host.specs.Disk.{Above}
use Rattle.fk_ledger.specs.Book.{Book}
use Rattle.fk_ledger.specs.Holds.{KeepsLedger}
use Rattle.fk_child.specs.declared.items.Tried.{Tried}
use Rattle.fk_child.specs.View.{View}
use Rattle.fk_child.specs.Crew.{CrewState, CrewHost, IsTied, StandsSomewhere, StandsOver}
use Rattle.fk_child.specs.Calls.{AtEach, AtEachOver, MarksTurn, PollsAll, SettlesNext, StartsClose, AwaitsOpen, StartsOpen, recorded}
use Rattle.fk_child.specs.Private.{MayServe}
use Rattle.fk_child.proofs.Ties.{with_host}

pub somewhere : (ledger : List Change) (both : CrewHost) → StandsOver ledger both → StandsSomewhere both
somewhere ledger both at = (at.0, at.2)

pub marked : (number : ℕ) (ledger : List Change) (old new : CrewHost) → StandsOver ledger old → AtEach (MarksTurn number) old new → StandsOver ledger new
marked number ledger old new at marks = let turn = marks at.0 at.2 in (behind 0 at.0 (turn.item ∷ []), at.1, (turn.goes 0).stands)

pub polled : (moment : ℕ) (ledger : List Change) (old new : CrewHost) → StandsOver ledger old → AtEach (PollsAll moment) old new → StandsOver ledger new
polled moment ledger old new at polls = let all = polls at.0 at.2 in (behind moment at.0 all.items, at.1, all.goes.stands)

pub settled-one : (book book' : Book) (id : ℕ) (old new : CrewHost) → StandsOver book.changes old → AtEachOver book.changes (SettlesNext book book' (Ok (Some id))) old new
    → StandsOver book'.changes new × (book'.is_spent ≡ book.is_spent)
settled-one book book' id old new at settles =
    let one = settles at.0 at.1 at.2 in (
      (changed at.0 (Done id ∷ []), ap (λ (l : List Change). after l (Done id ∷ [])) at.1 ∙ sym (ap (λ (b : Book). b.changes) one.book), one.stands),
      ap (λ (b : Book). b.is_spent) one.book,
    )

-- with another count of room
with-room : (crew : CrewState) (above : Above) (place : Place) (room : ℕ) → IsTied crew above place → IsTied (record crew { room = room }) above place
with-room crew above place room tied = record {
  owes = tied.owes;
  runs = tied.runs;
  stands = tied.stands;
  waits = tied.waits;
  once = tied.once;
  unused = tied.unused;
  known = tied.known;
  below = tied.below;
}

pub tied-room : (crew crew' : CrewState) (above : Above) (place : Place) → crew' ≡ record crew { room = crew'.room } → IsTied crew above place → IsTied crew' above place
tied-room crew crew' above place e tied = subst (λ (s : CrewState). IsTied s above place) (sym e) (with-room crew above place crew'.room tied)

-- a record was made, and its open is to be attempted
pub awaits-open : (crew crew' : CrewState) (old new : View) (place : Place) (book made : Book) (item : OpenRecord) (id due : ℕ)
    → place.ledger ≡ book.changes → IsTied crew old.above place → crew' ≡ record crew { room = crew'.room } → id ≡ item.id → item.id ≡ next_id book.changes → item.due ≡ due
    → made.changes ≡ after book.changes (OpenChange item ∷ []) → KeepsLedger made.changes new.told new.images → new.above ≡ old.above
    → AwaitsOpen id due item place (with_host crew' new)
awaits-open crew crew' old new place book made item id due e tied room numbered next until changes keeps above = record {
  numbered = sym numbered;
  next = next ∙ ap next_id (sym e);
  until = until;
  tied = subst (λ (a : Above). IsTied crew' a place) (sym above) (tied-room crew crew' old.above place room tied);
  keeps = subst (λ (l : List Change). KeepsLedger l new.told new.images) (changes ∙ ap (λ (l : List Change). after l (OpenChange item ∷ [])) (sym e)) keeps;
}

pub opened-one : (id due : ℕ) (words : List (List ℕ)) (begun : Bool) (item : OpenRecord) (place : Place) (ledger changes : List Change) (old new : CrewHost) → place.ledger ≡ ledger
    → changes ≡ after ledger (OpenChange item ∷ []) → AwaitsOpen id due item place old → StartsOpen id due words (Ok begun) old new → StandsOver changes new
opened-one id due words begun item place ledger changes old new e made awaits starts =
    let attempt = starts item place awaits in
    (behind 0 (recorded place item) (attempt.0 ∷ []), ap (λ (l : List Change). after l (OpenChange item ∷ [])) e ∙ sym made, (attempt.3 0).stands)

pub closed-one : (moment : ℕ) (tried : Tried) (ledger : List Change) (old new : CrewHost) → StandsOver ledger old → AtEachOver ledger (StartsClose moment (Ok (Some tried))) old new → StandsOver ledger new
closed-one moment tried ledger old new at starts =
    let next = starts at.0 at.1 at.2 in
    (behind moment at.0 (next.attempts.0 ∷ []), at.1, (next.attempts.3 moment).stands)

-- a crew that has just resumed
pub resumed : (book : Book) (crew : CrewState) (host : View) → book.is_spent ≡ false → crew.unsettled ≡ [] → ((above : Above) → IsTied crew above (entry book.changes))
    → KeepsLedger book.changes host.told host.images → MayServe book (with_host crew host)
resumed book crew host unspent settled tied keeps = record {
  unspent = unspent;
  settled = settled;
  stands = (entry book.changes, refl, record { tied = tied host.above; keeps = keeps });
}
