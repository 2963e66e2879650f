-- What is made for a record, and how many calls make it.
use Rattle.std.proofs.Common.{◌≡◌, ℕ, ◌+◌, Bool, true, false, List, [], ◌∷◌, ◌++◌, map, length, Option, Some, None, inl, inr, refl, sym, ap, subst, ◌∙◌, arith}
use Rattle.std.specs.Prelude.{IfSome}
use Rattle.fk_trace.specs.declared.change.OpenRecord.{OpenRecord}
use Rattle.fk_trace.specs.declared.change.Change.{Change}
use Rattle.fk_trace.specs.declared.change.Change.TheVariants.{Open as OpenChange, Done}
use Rattle.fk_trace.specs.Ledger.{next_id, after_one, after, ends_with_floor, AreOneCall}
use Rattle.fk_trace.specs.Decision.{FeedTurn, Permit, Room, Rules, Answer, answer, floor_at, rise_at, recorded_by}
use Rattle.fk_trace.specs.Decision.Answer.{Nothing, Refuses, Opens}
use Rattle.fk_trace.proofs.Ledgers.{next_id-rise}
use Rattle.fk_trace.proofs.Grants.{AreFor, answer-for, making-made}
use Rattle.fk_run.specs.Place.{Place, changed}
use Rattle.fk_host.specs.Disk.{Above}
use Rattle.fk_ledger.specs.Book.{Book, room_of, making_record, calls_of_one, calls_of}
use Rattle.fk_child.specs.Crew.{CrewState, IsTied}
use Rattle.fk_child.proofs.Rises.{tied-rise}

-- changes that adjoin are made by the calls of both
pub calls_of-append : (ledger a b : List Change) → calls_of ledger (a ++ b) ≡ calls_of ledger a + calls_of (after ledger a) b
calls_of-append ledger [] b = omega arith
calls_of-append ledger (change ∷ a) b = let rest = calls_of-append (after_one ledger change) a b in omega arith

-- no Floor is the last of these
pub ends-joined : (a b : List Change) → ends_with_floor a ≡ false → ends_with_floor b ≡ false → ends_with_floor (a ++ b) ≡ false
ends-joined [] b first second = second
ends-joined (change ∷ []) [] first second = first
ends-joined (change ∷ []) (other ∷ b) first second = second
ends-joined (change ∷ next ∷ a) b first second = ends-joined (next ∷ a) b first second

pub ends-dones : (ids : List ℕ) → ends_with_floor (map Done ids) ≡ false
ends-dones [] = refl
ends-dones (id ∷ []) = refl
ends-dones (id ∷ other ∷ ids) = ends-dones (other ∷ ids)

for-ends : (room : Room) (moment : ℕ) (ledger : List Change) (item : OpenRecord) (changes : List Change) → AreFor room moment ledger item changes → ends_with_floor changes ≡ false
for-ends room moment ledger item changes (inl e) = ap ends_with_floor e
for-ends room moment ledger item changes (inr e) = ap ends_with_floor e

pub recorded-ends : (rules : Rules) (ledger : List Change) (turn : FeedTurn) (a : Answer) → answer rules ledger turn ≡ a → ends_with_floor (recorded_by a) ≡ false
recorded-ends rules ledger turn Nothing e = refl
recorded-ends rules ledger turn (Refuses why) e = refl
recorded-ends rules ledger turn (Opens item permit changes) e = for-ends rules.room turn.moment ledger item changes (answer-for rules ledger turn item permit changes e)

-- one call makes them
pub for-one : (room : Room) (moment : ℕ) (ledger : List Change) (item : OpenRecord) (changes : List Change) → AreFor room moment ledger item changes → AreOneCall changes
for-one room moment ledger item changes (inl e) = subst AreOneCall (sym e) refl
for-one room moment ledger item changes (inr e) = subst AreOneCall (sym e) (refl, refl)

-- What is made for a record at a place: the record behind a front, which is nothing or the Floor with which the ledger begins anew. A
-- crew that is tied to the place is tied to it behind that front, and the next number stays.
pub record Fronts (place : Place) (item : OpenRecord) (changes : List Change) : Type 0 where
  pub front : List Change
  pub placed : changes ≡ front ++ OpenChange item ∷ []
  pub next : next_id (after place.ledger front) ≡ next_id place.ledger
  pub tied : (crew : CrewState) (above : Above) → IsTied crew above place → IsTied crew above (changed place front)

pub fronts : (room : Room) (moment : ℕ) (place : Place) (item : OpenRecord) (changes : List Change) → AreFor room moment place.ledger item changes → Fronts place item changes
fronts room moment place item changes (inl e) = record { front = []; placed = e; next = refl; tied = λ crew above tied. tied }
fronts room moment place item changes (inr e) = record {
  front = rise_at room moment place.ledger ∷ [];
  placed = e;
  next = next_id-rise (floor_at room.keep moment place.ledger) place.ledger;
  tied = λ crew above tied. tied-rise crew above place (floor_at room.keep moment place.ledger) tied;
}

-- what there is where there is something
pub some-of : {X : Type 0} (m : Option X) → (m ≡ None → ⊥) → (x : X) × (m ≡ Some x)
some-of (Some x) some = (x, refl)
some-of None some = absurd (some refl)

pub if-some : {X : Type 0} (P : X → Type 0) (m : Option X) (x : X) → m ≡ Some x → IfSome m P → P x
if-some P m x e h = subst (λ (o : Option _). IfSome o P) e h

-- the same, of what a ledger makes that is the place's
pub book-fronts : (book : Book) (item : OpenRecord) (place : Place) (changes : List Change) → making_record book item ≡ Some changes → book.changes ≡ place.ledger → Fronts place item changes
book-fronts book item place changes e same =
    fronts (room_of book) item.moment place item changes
    (subst (λ (ledger : List Change). AreFor (room_of book) item.moment ledger item changes) same (making-made (room_of book) item.moment book.changes item changes e))
