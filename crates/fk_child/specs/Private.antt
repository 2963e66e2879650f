-- What the contracts of this crate's private functions alone speak of. No public contract cites it, so no caller has to believe it.
use Rattle.std.specs.Prelude.{◌≡◌, ℕ, ◌+◌, ◌*◌, ◌<◌, ◌≤◌, true, List, [], ◌∷◌, ◌++◌, false, length, vec_len, vec_capacity}
use Rattle.std.specs.List.{AllZip}
use Rattle.std.specs.VecDeque.{deque_capacity}
use Rattle.fk_trace.specs.Trace.{Child, Item, running}
use Rattle.fk_trace.specs.Settled.{settled_in}
use Rattle.fk_trace.specs.Attempts.{IsPollOf}
use Rattle.fk_run.specs.Place.{Place, behind}
use Rattle.fk_cycle.specs.declared.act.Act.{Act}
use Rattle.fk_cycle.specs.declared.act.Act.TheVariants.{Nothing, Wait, Settle}
use Rattle.fk_ledger.specs.Book.{Book}
use Rattle.fk_child.specs.declared.crew.Crew.TheInside.{Inside}
use Rattle.fk_child.specs.View.{MakesCalls, SelectsTheSame, Adds}
use Rattle.fk_child.specs.Crew.{CrewState, CrewHost, StandsAt, StandsOver}
use Rattle.fk_child.specs.Calls.{ends_in}

abbrev pub state_of : Inside → CrewState
state_of crew = record {
  owed = crew.owed.items;
  children = crew.children.items;
  kept = crew.machine.kept;
  ends = crew.ends.items;
  unsettled = crew.settles.items;
  room = crew.room;
}

-- There is room for two children and an end of each, for each record that is owed or that there is room for.
pub record HasRoom (crew : Inside) : Type 0 where
  pub owed : vec_len crew.owed + crew.room ≤ vec_capacity crew.owed
  pub children : 2 * (vec_len crew.owed + crew.room) ≤ deque_capacity crew.children
  pub ends : 2 * (vec_len crew.owed + crew.room) ≤ vec_capacity crew.ends
  pub settles : vec_len crew.owed + crew.room ≤ deque_capacity crew.settles
  pub machine : crew.room ≤ crew.machine.room

-- the record that an end settles, if there is one
abbrev pub settled_of : Act → List ℕ
settled_of Nothing = []
settled_of Wait = []
settled_of (Settle id) = id ∷ []

-- the crew with these children
abbrev pub with_children : List Child → CrewHost → CrewHost
with_children children both = record both { crew = record both.crew { children = children } }

-- In the midst of a polling the crew keeps first the children that are yet to be polled, and then those that were found to run. But
-- for this order it stands at the place.
pub record StandsPolling (rest found : List Child) (both : CrewHost) (place : Place) : Type 0 where
  pub queue : both.crew.children ≡ rest ++ found
  pub stands : StandsAt (with_children (found ++ rest) both) place

-- the child was polled, and behind it stand those that are yet to be
pub record PollsOne (moment : ℕ) (child : Child) (rest : List Child) (place : Place) (old new : CrewHost) : Type 0 where
  pub item : Item
  pub polled : IsPollOf child item.event
  pub calls : MakesCalls 1 old.host new.host
  pub adds : Adds (item ∷ []) place.ledger [] [] old.host new.host
  pub selects : SelectsTheSame old.host new.host
  pub disk : new.host.faults ≡ old.host.faults
  pub found : List Child
  pub stands : StandsPolling rest found new (behind moment place (item ∷ []))
  pub ends : new.crew.ends ≡ old.crew.ends ++ ends_in place.past (item ∷ [])
  pub unsettled : new.crew.unsettled ≡ old.crew.unsettled ++ settled_in place.past (item ∷ [])

-- where a child is yet to be polled, it was polled
abbrev pub PollsNext : ℕ → CrewHost → CrewHost → Type 0
PollsNext moment old new =
    (place : Place) (child : Child) (rest found : List Child)
    → StandsPolling (child ∷ rest) found old place → PollsOne moment child rest place old new

-- a child is yet to be polled, and there is room for what may come of it
pub record MayPoll (both : CrewHost) : Type 0 where
  pub place : Place
  pub child : Child
  pub rest : List Child
  pub found : List Child
  pub stands : StandsPolling (child ∷ rest) found both place
  pub room : length both.crew.ends < 2 * length both.crew.owed

-- so many of the children that ran at the place were polled
pub record PartlyPolled (moment count : ℕ) (place : Place) (old new : CrewHost) : Type 0 where
  pub polled : List Child
  pub rest : List Child
  pub found : List Child
  pub items : List Item
  pub ran : running place.past ≡ polled ++ rest
  pub counted : length polled ≡ count
  pub answered : AllZip (λ child item. IsPollOf child item.event) polled items
  pub calls : MakesCalls (length items) old.host new.host
  pub adds : Adds items place.ledger [] [] old.host new.host
  pub selects : SelectsTheSame old.host new.host
  pub disk : new.host.faults ≡ old.host.faults
  pub stands : StandsPolling rest found new (behind moment place items)
  pub ends : new.crew.ends ≡ ends_in place.past items
  pub few : length new.crew.ends ≤ count
  pub unsettled : new.crew.unsettled ≡ settled_in place.past items

-- a crew and its ledger may serve a turn: nothing is left over of the one before
pub record MayServe (book : Book) (both : CrewHost) : Type 0 where
  pub unspent : book.is_spent ≡ false
  pub settled : both.crew.unsettled ≡ []
  pub stands : StandsOver book.changes both
