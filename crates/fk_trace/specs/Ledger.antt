-- The ledger: a list of changes, the first of them first. A datagram that was granted is recorded by an Open; a Done says that the record
-- of that number is closed for good. A journal that would fill up begins anew with a Floor. Behind it stand the live records, and a
-- Settled for each other one whose stamp isn't below the floor. A packet below it is refused, so that what was left out is not missed.
use Rattle.std.specs.Prelude.{◌≡◌, ◌⊎◌, ℕ, max, Bool, true, false, not, ◌+◌, ◌<◌, ◌≤◌, ◌==◌, nat_eq, nat_le, List, [], ◌∷◌, ◌++◌, map, Option, Some, None, if◌then◌else◌}
use Rattle.std.specs.List.{filter, filter_map, list_any, All, AllByRecursion, Contains}
use Rattle.std.specs.Cmp.Lexicographic.{pointwise}
use Rattle.fk_trace.specs.declared.change.OpenRecord.{OpenRecord}
use Rattle.fk_trace.specs.declared.change.Change.{Change}
use Rattle.fk_trace.specs.declared.change.Change.TheVariants.{Open, Done, Settled, Floor}

abbrev pub opened_by : Change → Option OpenRecord
opened_by (Open item) = Some item
opened_by (Done id) = None
opened_by (Settled id stamp digest) = None
opened_by (Floor floor next) = None

abbrev pub closed_by : Change → Option ℕ
closed_by (Open item) = None
closed_by (Done id) = Some id
closed_by (Settled id stamp digest) = None
closed_by (Floor floor next) = None

-- the records that stand in the ledger whole, by rising number
abbrev pub opens : List Change → List OpenRecord
opens ledger = filter_map opened_by ledger

-- the numbers of the records that a Done closes for good
abbrev pub dones : List Change → List ℕ
dones ledger = filter_map closed_by ledger

-- the record isn't closed for good
abbrev pub is_open : List Change → OpenRecord → Bool
is_open ledger item = not (list_any (λ id. id == item.id) (dones ledger))

-- the records that are not closed for good, by rising number
abbrev pub live : List Change → List OpenRecord
live ledger = filter (is_open ledger) (opens ledger)

-- What tells records apart: the bytes of the digest, and the stamp under which the datagram was granted. (Two keys might read two
-- stamps from one datagram.)
pub record Key : Type 0 where
  pub digest : List ℕ
  pub stamp : ℕ

abbrev pub key_of : OpenRecord → Key
key_of item = record { digest = item.digest.0; stamp = item.stamp }

abbrev pub key_by : Change → Option Key
key_by (Open item) = Some (key_of item)
key_by (Done id) = None
key_by (Settled id stamp digest) = Some (record { digest = digest.0; stamp = stamp })
key_by (Floor floor next) = None

-- the keys that the ledger has kept
abbrev pub seen : List Change → List Key
seen ledger = filter_map key_by ledger

-- the digest is among them, with any stamp
abbrev pub is_seen : List ℕ → List Change → Bool
is_seen digest ledger = list_any (λ key. pointwise nat_eq key.digest digest) (seen ledger)

abbrev pub IsSeen : List ℕ → List Change → Type 0
IsSeen digest ledger = Contains (map (λ key. key.digest) (seen ledger)) digest

-- the floor below which packets are refused: that of the Floor, and 0 without one
abbrev pub floor_by : Change → ℕ → ℕ
floor_by (Open item) lower = lower
floor_by (Done id) lower = lower
floor_by (Settled id stamp digest) lower = lower
floor_by (Floor floor next) lower = floor

abbrev pub floor_from : ℕ → List Change → ℕ
floor_from lower [] = lower
floor_from lower (change ∷ changes) = floor_from (floor_by change lower) changes

abbrev pub floor_of : List Change → ℕ
floor_of ledger = floor_from 0 ledger

-- the number of the next record: above each number that the ledger has, and not below the one that its Floor says
abbrev pub next_by : Change → ℕ → ℕ
next_by (Open item) next = max next (item.id + 1)
next_by (Done id) next = next
next_by (Settled id stamp digest) next = max next (id + 1)
next_by (Floor floor first) next = max next first

abbrev pub next_from : ℕ → List Change → ℕ
next_from next [] = next
next_from next (change ∷ changes) = next_from (next_by change next) changes

abbrev pub next_id : List Change → ℕ
next_id ledger = next_from 1 ledger

-- what stays of a change where the ledger begins anew with this floor: a live record, and the key of each other one that isn't below it
abbrev pub kept_by : ℕ → List Change → Change → Option Change
kept_by floor ledger (Open item) =
    if is_open ledger item then Some (Open item) else (if nat_le floor item.stamp then Some (Settled item.id item.stamp item.digest) else None)
kept_by floor ledger (Done id) = None
kept_by floor ledger (Settled id stamp digest) = if nat_le floor stamp then Some (Settled id stamp digest) else None
kept_by floor ledger (Floor lower next) = None

abbrev pub kept : ℕ → List Change → List Change
kept floor ledger = filter_map (kept_by floor ledger) ledger

-- The ledger after a change: it stands behind the others, but for a Floor, with which the ledger begins anew.
abbrev pub after_one : List Change → Change → List Change
after_one ledger (Open item) = ledger ++ Open item ∷ []
after_one ledger (Done id) = ledger ++ Done id ∷ []
after_one ledger (Settled id stamp digest) = ledger ++ Settled id stamp digest ∷ []
after_one ledger (Floor floor next) = Floor floor next ∷ kept floor ledger

-- The ledger after these changes, the first of them first. Whatever adds a change to a ledger says so by this function.
abbrev pub after : List Change → List Change → List Change
after ledger [] = ledger
after ledger (change ∷ changes) = after (after_one ledger change) changes

-- the change with which the ledger begins anew with this floor, and what it is then
abbrev pub rise : ℕ → List Change → Change
rise floor ledger = Floor floor (next_id ledger)

abbrev pub compacted : ℕ → List Change → List Change
compacted floor ledger = after_one ledger (rise floor ledger)

-- the change begins the ledger anew
abbrev pub is_floor : Change → Bool
is_floor (Open item) = false
is_floor (Done id) = false
is_floor (Settled id stamp digest) = false
is_floor (Floor floor next) = true

-- none of these changes begins the ledger anew
abbrev pub AreNoFloors : List Change → Type 0
AreNoFloors changes = AllByRecursion (λ change. is_floor change ≡ false) changes

-- the last of the changes is a Floor
abbrev pub ends_with_floor : List Change → Bool
ends_with_floor [] = false
ends_with_floor (change ∷ []) = is_floor change
ends_with_floor (change ∷ other ∷ changes) = ends_with_floor (other ∷ changes)

-- The changes of one call: one that is no Floor, or a Floor and behind it the one for which it makes room.
abbrev pub AreOneCall : List Change → Type 0
AreOneCall [] = ⊥
AreOneCall (change ∷ []) = is_floor change ≡ false
AreOneCall (change ∷ other ∷ []) = (is_floor change ≡ true) × (is_floor other ≡ false)
AreOneCall (change ∷ other ∷ more ∷ changes) = ⊥

-- What two ledgers have to agree in so that nothing above them can tell them apart.
pub record State : Type 0 where
  -- the keys that it has kept
  pub seen : List Key
  -- the records that are not closed for good, by rising number
  pub live : List OpenRecord
  -- the number of the next record
  pub next : ℕ
  -- the stamp below which packets are refused
  pub floor : ℕ

abbrev pub state_of : List Change → State
state_of ledger = record { seen = seen ledger; live = live ledger; next = next_id ledger; floor = floor_of ledger }

-- A ledger with this State bars the key: it has kept the digest with this stamp or a later one, or the stamp is below the floor. So no
-- record with this key is made any more.
abbrev pub Bars : State → Key → Type 0
Bars state key =
    ((other : Key) × Contains state.seen other × (other.digest ≡ key.digest) × (key.stamp ≤ other.stamp)) ⊎ (key.stamp < state.floor)

-- of two keys that were recorded one after the other: where they have one digest, the stamp has risen
abbrev pub IsLater : Key → Key → Type 0
IsLater earlier later = earlier.digest ≡ later.digest → earlier.stamp < later.stamp

-- the numbers of the records of which the ledger has kept anything, in their order
abbrev pub numbered_by : Change → Option ℕ
numbered_by (Open item) = Some item.id
numbered_by (Done id) = None
numbered_by (Settled id stamp digest) = Some id
numbered_by (Floor floor next) = None

abbrev pub numbers : List Change → List ℕ
numbers ledger = filter_map numbered_by ledger

-- the first number that was free where the ledger began: that of the Floor that stands first, and 1 without one
abbrev pub free_by : Change → ℕ
free_by (Open item) = 1
free_by (Done id) = 1
free_by (Settled id stamp digest) = 1
free_by (Floor floor next) = next

abbrev pub first_free : List Change → ℕ
first_free [] = 1
first_free (change ∷ changes) = free_by change

-- the number may be that of the next record of the ledger: it is above the others, and from the first that was free no number is left out
pub record IsNumber (ledger : List Change) (id : ℕ) : Type 0 where
  pub above : All (λ other. other < id) (numbers ledger)
  pub next : (id < first_free ledger) ⊎ (id ≡ next_id ledger)

-- the change may stand behind the ledger: a record's number is above the others and its digest is new, a Done names a live record, and a
-- Floor stands first
abbrev pub MayFollow : List Change → Change → Type 0
MayFollow ledger (Open item) = IsNumber ledger item.id × (IsSeen item.digest.0 ledger → ⊥)
MayFollow ledger (Done id) = Contains (map (λ item. item.id) (live ledger)) id
MayFollow ledger (Settled id stamp digest) = IsNumber ledger id × (IsSeen digest.0 ledger → ⊥)
MayFollow ledger (Floor floor next) = ledger ≡ []

-- each change may stand behind those before it
abbrev pub IsLedgerFrom : List Change → List Change → Type 0
IsLedgerFrom before [] = Unit {0}
IsLedgerFrom before (change ∷ changes) = MayFollow before change × IsLedgerFrom (before ++ change ∷ []) changes

abbrev pub IsLedger : List Change → Type 0
IsLedger ledger = IsLedgerFrom [] ledger

-- a run may make the change over the ledger: a record has the next number and a new digest, a Done names a live record, and a Floor
-- keeps the next number and is not below the one before it
abbrev pub MayMake : List Change → Change → Type 0
MayMake ledger (Open item) = (item.id ≡ next_id ledger) × (IsSeen item.digest.0 ledger → ⊥)
MayMake ledger (Done id) = Contains (map (λ item. item.id) (live ledger)) id
MayMake ledger (Settled id stamp digest) = ⊥
MayMake ledger (Floor floor next) = (next ≡ next_id ledger) × (floor_of ledger ≤ floor)
