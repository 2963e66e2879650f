-- What a turn's datagram is answered: nothing where there is none, a refusal, or a record whose open is started. What is
-- granted is an argument, so that one definition serves every stage of the rules.
use Rattle.std.specs.Prelude.{◌≡◌, ℕ, max, Bool, ◌+◌, ◌-◌, ◌≤◌, ◌&&◌, nat_lt, List, [], ◌∷◌, length, Option, Some, None, if◌then◌else◌}
use Rattle.fk_base.specs.declared.address.Ip4.{Ip4}
use Rattle.fk_base.specs.declared.pair.Pair.{Pair}
use Rattle.fk_trace.specs.declared.change.OpenRecord.{OpenRecord}
use Rattle.fk_trace.specs.declared.change.Change.{Change}
use Rattle.fk_trace.specs.declared.change.Change.TheVariants.{Open as OpenChange}
use Rattle.fk_trace.specs.declared.refusal.LogWhy.{LogWhy}
use Rattle.fk_trace.specs.declared.refusal.LogWhy.TheVariants.{Replay, Stale, Full}
use Rattle.fk_trace.specs.Ledger.{live, is_seen, IsSeen, floor_of, next_id, rise, after_one, after}

-- what a turn was taken for: nothing but the time, or a datagram with its source
pub data Input : Type 0 where
  Quiet : Input
  Datagram : Ip4 → List ℕ → Input

-- a turn as it was handed in
pub record FeedTurn : Type 0 where
  pub moment : ℕ
  pub input : Input

-- what the rules grant: by which stanza, under which stamp of the packet, for how many seconds, to whom and for which port first, and
-- with which words the open and the close are started
pub record Permit : Type 0 where
  pub stanza : ℕ
  pub stamp : ℕ
  pub seconds : ℕ
  pub ip : Ip4
  pub pair : Pair
  pub opening : List (List ℕ)
  pub closing : List (List ℕ)

pub data Verdict : Type 0 where
  Granted : Permit → Verdict
  Refused : LogWhy → Verdict

-- how much a run may record
pub record Room : Type 0 where
  -- how many records may be live
  pub limit : ℕ
  -- for how many seconds a digest is kept at least
  pub keep : ℕ
  -- the journal has room for this ledger, and for the Done that each live record of it is owed
  pub fits : List Change → Bool

-- the rules of a run
pub record Rules : Type 0 where
  -- the refusal of a datagram that isn't formed as one, whatever it says
  pub misshapen : List ℕ → Option LogWhy
  -- the digest by which a datagram is known again
  pub digest : List ℕ → List ℕ
  -- what is granted at a moment to a source for a datagram
  pub admit : ℕ → Ip4 → List ℕ → Verdict
  pub room : Room

-- the record of a granted datagram
abbrev pub record_of : Rules → List Change → ℕ → List ℕ → Permit → OpenRecord
record_of rules ledger moment datagram permit = record {
  id = next_id ledger;
  digest = record { 0 = rules.digest datagram };
  stamp = permit.stamp;
  moment = moment;
  due = moment + permit.seconds;
  ip = permit.ip;
  pair = permit.pair;
  close = permit.closing;
}

-- whatever the room in the journal, a change has its place: for a record not too many are live, and its number is one of 63 bits
abbrev pub has_place : Room → List Change → Change → Bool
has_place room ledger (OpenChange item) = nat_lt (length (live ledger)) room.limit && nat_lt (next_id ledger) 9223372036854775808
has_place room ledger _ = nat_lt (next_id ledger) 9223372036854775808

-- the floor with which a ledger begins anew at a moment: the moment less the seconds for which a digest is kept, but it never falls
abbrev pub floor_at : ℕ → ℕ → List Change → ℕ
floor_at keep moment ledger = max (floor_of ledger) (moment - keep)

-- the Floor with which it then begins
abbrev pub rise_at : Room → ℕ → List Change → Change
rise_at room moment ledger = rise (floor_at room.keep moment ledger) ledger

-- What is made at a moment so that the ledger has this change, which has its place: the change alone where the ledger then fits, else
-- first the Floor with which the ledger begins anew, where it then fits, and else nothing.
abbrev pub making_placed : Room → ℕ → List Change → Change → Option (List Change)
making_placed room moment ledger change =
    if room.fits (after ledger (change ∷ []))
    then Some (change ∷ [])
    else (if room.fits (after ledger (rise_at room moment ledger ∷ change ∷ []))
    then Some (rise_at room moment ledger ∷ change ∷ [])
    else None)

abbrev pub making : Room → ℕ → List Change → Change → Option (List Change)
making room moment ledger change = if has_place room ledger change then making_placed room moment ledger change else None

pub data Answer : Type 0 where
  -- there was no datagram
  Nothing : Answer
  Refuses : LogWhy → Answer
  -- this record is made, by these changes, and the open is started as this permit says
  Opens : OpenRecord → Permit → List Change → Answer

abbrev pub answer_made : OpenRecord → Permit → Option (List Change) → Answer
answer_made item permit None = Refuses Full
answer_made item permit (Some changes) = Opens item permit changes

abbrev pub answer_granted : Rules → List Change → ℕ → List ℕ → Permit → Answer
answer_granted rules ledger moment datagram permit =
    if nat_lt permit.stamp (floor_of ledger)
    then Refuses Stale
    else answer_made (record_of rules ledger moment datagram permit) permit
    (making rules.room moment ledger (OpenChange (record_of rules ledger moment datagram permit)))

abbrev pub answer_by : Rules → List Change → ℕ → List ℕ → Verdict → Answer
answer_by rules ledger moment datagram (Granted permit) = answer_granted rules ledger moment datagram permit
answer_by rules ledger moment datagram (Refused why) = Refuses why

abbrev pub answer_formed : Rules → List Change → ℕ → Ip4 → List ℕ → Option LogWhy → Answer
answer_formed rules ledger moment source datagram (Some why) = Refuses why
answer_formed rules ledger moment source datagram None =
    if is_seen (rules.digest datagram) ledger
    then Refuses Replay
    else answer_by rules ledger moment datagram (rules.admit moment source datagram)

abbrev pub answer_to : Rules → List Change → ℕ → Input → Answer
answer_to rules ledger moment Quiet = Nothing
answer_to rules ledger moment (Datagram source datagram) =
    answer_formed rules ledger moment source datagram (rules.misshapen datagram)

-- what the turn is answered, over the ledger as it then stands: the shape is tested first, then a replay, then what the
-- rules admit, then the floor, and last the room
abbrev pub answer : Rules → List Change → FeedTurn → Answer
answer rules ledger turn = answer_to rules ledger turn.moment turn.input

-- the changes that an answer makes
abbrev pub recorded_by : Answer → List Change
recorded_by Nothing = []
recorded_by (Refuses why) = []
recorded_by (Opens item permit changes) = changes

-- The turn has a datagram of the right shape that the rules grant, whose digest the ledger has not seen, whose stamp isn't below the floor,
-- and for whose record there is room; this is the record, these changes make it, and these are the words of its open.
pub record IsGranted (rules : Rules) (ledger : List Change) (turn : FeedTurn) (item : OpenRecord) (changes : List Change) (words : List (List ℕ))
    : Type 0 where
  pub source : Ip4
  pub datagram : List ℕ
  pub permit : Permit
  pub brought : turn.input ≡ Datagram source datagram
  pub formed : rules.misshapen datagram ≡ None
  pub fresh : IsSeen (rules.digest datagram) ledger → ⊥
  pub granted : rules.admit turn.moment source datagram ≡ Granted permit
  pub current : floor_of ledger ≤ permit.stamp
  pub recorded : item ≡ record_of rules ledger turn.moment datagram permit
  pub room : making rules.room turn.moment ledger (OpenChange item) ≡ Some changes
  pub opening : words ≡ permit.opening
