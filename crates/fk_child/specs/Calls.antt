-- What each call of a crew does at the place where it stands.
use Rattle.std.specs.Prelude.{◌≡◌, ℕ, Bool, true, false, List, [], ◌∷◌, length, Option, Some, None, Result, Ok, Err, if◌then◌else◌}
use Rattle.std.specs.List.{cons_option, Contains}
use Rattle.fk_base.specs.declared.memory.Failed.{Failed}
use Rattle.fk_base.specs.declared.memory.NoMemory.{NoMemory}
use Rattle.fk_base.specs.declared.purpose.Purpose.{Purpose}
use Rattle.fk_base.specs.declared.purpose.Purpose.TheVariants.{Open, Close}
use Rattle.fk_trace.specs.declared.change.OpenRecord.{OpenRecord}
use Rattle.fk_trace.specs.declared.change.Change.{Change}
use Rattle.fk_trace.specs.declared.change.Change.TheVariants.{Open as OpenChange, Done}
use Rattle.fk_trace.specs.Trace.{Event, Item, Child, close_tried}
use Rattle.fk_trace.specs.Trace.Event.{Turn, Began, Ended, PollFailed}
use Rattle.fk_trace.specs.Idle.{child_numbered}
use Rattle.fk_trace.specs.Ledger.{live, next_id, after}
use Rattle.fk_trace.specs.Settled.{settled_in}
use Rattle.fk_trace.specs.Attempts.{PollsEachOnce, IsAttempt}
use Rattle.fk_run.specs.Place.{Place, behind, changed}
use Rattle.fk_cycle.specs.Stands.{IsNextDue}
use Rattle.fk_host.specs.Count.{counted}
use Rattle.fk_ledger.specs.Book.{Book}
use Rattle.fk_ledger.specs.Holds.{KeepsLedger}
use Rattle.fk_child.specs.declared.items.EndItem.{EndItem}
use Rattle.fk_child.specs.declared.items.PollEnd.TheVariants.{Good, Bad, Failed as FailedPoll}
use Rattle.fk_child.specs.declared.items.Tried.{Tried}
use Rattle.fk_child.specs.View.{MakesCalls, SelectsTheSame, Adds}
use Rattle.fk_child.specs.Crew.{CrewHost, IsTied, StandsAt, obligations_but}

-- At each place where the crew stood before a call, this is what the call did.
abbrev pub AtEach : (Place → CrewHost → CrewHost → Type 0) → CrewHost → CrewHost → Type 0
AtEach Does old new = (place : Place) → StandsAt old place → Does place old new

-- the same where the place's ledger is this
abbrev pub AtEachOver : List Change → (Place → CrewHost → CrewHost → Type 0) → CrewHost → CrewHost → Type 0
AtEachOver ledger Does old new = (place : Place) → place.ledger ≡ ledger → StandsAt old place → Does place old new

-- So many calls have led from the place to the one behind these items of a turn with this moment. The ledger, the area that Head selects
-- and the disk's count of faults are as before.
pub record Goes (count moment : ℕ) (place : Place) (items : List Item) (old new : CrewHost) : Type 0 where
  pub calls : MakesCalls count old.host new.host
  pub adds : Adds items place.ledger [] [] old.host new.host
  pub selects : SelectsTheSame old.host new.host
  pub disk : new.host.faults ≡ old.host.faults
  pub stands : StandsAt new (behind moment place items)

-- a turn of this number is marked
pub record MarksTurn (number : ℕ) (place : Place) (old new : CrewHost) : Type 0 where
  pub item : Item
  pub event : item.event ≡ Turn number
  pub goes : (moment : ℕ) → Goes 1 moment place (item ∷ []) old new

-- what a poll's event is told as, where its child is this
abbrev pub end_item : Event → Option Child → Option EndItem
end_item (Ended number good) (Some child) = Some (record { purpose = child.purpose; end = if good then Good else Bad })
end_item (PollFailed number) (Some child) = Some (record { purpose = child.purpose; end = FailedPoll })
end_item event child = None

-- the child that was polled
abbrev pub polled_number : Event → ℕ
polled_number (Ended number good) = number
polled_number (PollFailed number) = number
polled_number event = 0

-- the ends and the failed polls in these items, in their order
abbrev pub ends_in : List Item → List Item → List EndItem
ends_in past [] = []
ends_in past (item ∷ items) = cons_option (end_item item.event (child_numbered (polled_number item.event) past)) (ends_in (item ∷ past) items)

-- Each running child is polled once. The ends are kept for whoever tells them, and the records whose clean close ended well are yet
-- to be settled.
pub record PollsAll (moment : ℕ) (place : Place) (old new : CrewHost) : Type 0 where
  pub items : List Item
  pub polled : PollsEachOnce place.past items
  pub goes : Goes (length items) moment place items old new
  pub ends : new.crew.ends ≡ ends_in place.past items
  pub unsettled : new.crew.unsettled ≡ settled_in place.past items

-- a record was settled, the first of those that were yet to be
pub record SettlesFirst (id : ℕ) (old_book new_book : Book) (place : Place) (old new : CrewHost) : Type 0 where
  pub first : old.crew.unsettled ≡ id ∷ new.crew.unsettled
  pub book : new_book ≡ record old_book { changes = after old_book.changes (Done id ∷ []) }
  pub calls : MakesCalls 4 old.host new.host
  pub adds : Adds [] place.ledger (Done id ∷ []) [] old.host new.host
  pub selects : SelectsTheSame old.host new.host
  pub disk : new.host.faults ≡ old.host.faults
  pub stands : StandsAt new (changed place (Done id ∷ []))

-- the disk failed while the first of those records was settled: the crew still holds its obligation, and the ledger is spent
pub record FailsToSettle (old_book new_book : Book) (place : Place) (old new : CrewHost) : Type 0 where
  pub id : ℕ
  pub first : old.crew.unsettled ≡ id ∷ new.crew.unsettled
  pub crew : new.crew ≡ record old.crew { unsettled = new.crew.unsettled }
  pub book : new_book ≡ record old_book { is_spent = true }
  pub adds : Adds [] place.ledger [] (Done id ∷ []) old.host new.host
  pub disk : new.host.faults ≡ counted old.host.faults
  pub above : new.host.above ≡ old.host.above

-- the first of the records that are yet to be settled is settled, if there is one
abbrev pub SettlesNext : Book → Book → Result (Option ℕ) Failed → Place → CrewHost → CrewHost → Type 0
SettlesNext old_book new_book (Ok None) place old new = (old.crew.unsettled ≡ []) × (new.crew ≡ old.crew) × (new_book ≡ old_book)
SettlesNext old_book new_book (Ok (Some id)) place old new = SettlesFirst id old_book new_book place old new
SettlesNext old_book new_book (Err error) place old new = FailsToSettle old_book new_book place old new

abbrev pub is_begun : Event → Bool
is_begun (Began number purpose words) = true
is_begun event = false

-- By one call of the host an attempt is made to start a child for this purpose and with these words, or none for want of memory.
abbrev pub Attempts : Purpose → List (List ℕ) → Result Bool NoMemory → Place → CrewHost → CrewHost → Type 0
Attempts purpose words (Ok begun) place old new =
    (attempt : Item) × IsAttempt purpose words attempt.event × (begun ≡ is_begun attempt.event)
    × ((moment : ℕ) → Goes 1 moment place (attempt ∷ []) old new)
Attempts purpose words (Err error) place old new = (moment : ℕ) → Goes 1 moment place [] old new

-- the place with the record that was made
abbrev pub recorded : Place → OpenRecord → Place
recorded place item = changed place (OpenChange item ∷ [])

-- The crew is tied to the place, and a record of this number, which is the next one there, and of this due was made, which the disk
-- keeps: its open is yet to be attempted.
pub record AwaitsOpen (id due : ℕ) (item : OpenRecord) (place : Place) (both : CrewHost) : Type 0 where
  pub numbered : item.id ≡ id
  pub next : item.id ≡ next_id place.ledger
  pub until : item.due ≡ due
  pub tied : IsTied both.crew both.host.above place
  pub keeps : KeepsLedger (recorded place item).ledger both.host.told both.host.images

-- it is so for some record at some place
abbrev pub AwaitsSomewhere : ℕ → ℕ → CrewHost → Type 0
AwaitsSomewhere id due both = (item : OpenRecord) × (place : Place) × AwaitsOpen id due item place both

-- wherever it was so before a call, the open of the record was attempted once with these words, or not at all for want of memory
abbrev pub StartsOpen : ℕ → ℕ → List (List ℕ) → Result Bool NoMemory → CrewHost → CrewHost → Type 0
StartsOpen id due words result old new =
    (item : OpenRecord) (place : Place) → AwaitsOpen id due item place old → Attempts (Open id) words result (recorded place item) old new

-- no close has to be attempted at the moment
abbrev pub NoneIsDue : ℕ → Place → Type 0
NoneIsDue moment place = IsNextDue place.past place.ends moment (obligations_but [] place.ledger) None

-- the record is live, and its close has to be attempted first of those that are due at the moment
pub record IsNextClose (moment : ℕ) (place : Place) (closing : OpenRecord) : Type 0 where
  pub lives : Contains (live place.ledger) closing
  pub next : IsNextDue place.past place.ends moment (obligations_but [] place.ledger) (Some closing.id)

-- the close that is due next is attempted with its record's words
pub record TriesNext (moment : ℕ) (tried : Tried) (place : Place) (old new : CrewHost) : Type 0 where
  pub closing : OpenRecord
  pub next : IsNextClose moment place closing
  pub numbered : tried.id ≡ closing.id
  pub attempts : Attempts (Close closing.id) closing.close (Ok tried.begun) place old new

-- the close that is due next, if there is one, is attempted, or not for want of memory
abbrev pub StartsClose : ℕ → Result (Option Tried) NoMemory → Place → CrewHost → CrewHost → Type 0
StartsClose moment (Ok None) place old new = NoneIsDue moment place × (new.crew ≡ old.crew)
StartsClose moment (Ok (Some tried)) place old new = TriesNext moment tried place old new
StartsClose moment (Err error) place old new =
    ((closing : OpenRecord) × IsNextClose moment place closing) × ((later : ℕ) → Goes 1 later place [] old new)

-- no close was attempted since the last turn began
abbrev pub NoneTried : List Item → Type 0
NoneTried past = (id : ℕ) → close_tried past id ≡ false

-- From the place the items are attempts of the closes that are due next, one after another, until none is.
abbrev pub AttemptsInTurn : ℕ → Place → List Item → Type 0
AttemptsInTurn moment place [] = NoneIsDue moment place
AttemptsInTurn moment place (item ∷ items) =
    ((closing : OpenRecord) × IsNextClose moment place closing × IsAttempt (Close closing.id) closing.close item.event)
    × AttemptsInTurn moment (behind moment place (item ∷ [])) items
