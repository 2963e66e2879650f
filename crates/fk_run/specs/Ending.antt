-- What a run ends with: its limits, and what lets it end for want of memory.
use Rattle.std.specs.Prelude.{◌≡◌, ◌⊎◌, ℕ, ◌≤◌, Bool, true, false, List, ◌∷◌, ◌++◌, length, None, IsSomeAnd}
use Rattle.std.specs.Option.{option_map_or}
use Rattle.std.specs.List.{count_by, Contains}
use Rattle.fk_base.specs.declared.address.Ip4.{Ip4}
use Rattle.fk_trace.specs.declared.change.OpenRecord.{OpenRecord}
use Rattle.fk_trace.specs.Trace.{Item, Child, running, close_attempted}
use Rattle.fk_trace.specs.Ledger.{IsSeen}
use Rattle.fk_trace.specs.Decision.{Input, Rules}
use Rattle.fk_trace.specs.Decision.Input.{Quiet, Datagram}
use Rattle.fk_trace.specs.Attempts.{IsPollOf}
use Rattle.fk_run.specs.declared.limits.Limits.{Limits}
use Rattle.fk_run.specs.Place.{Place}
use Rattle.fk_run.specs.Turn.{TakenTurn, IsDueIdle, after_turn}
use Rattle.fk_run.specs.Planned.{planned_turn}
use Rattle.fk_run.specs.Run.{Run, Ending}
use Rattle.fk_run.specs.Run.Ending.{AtLimit, AtDiskFault, AtWantOfMemory}

abbrev pub is_datagram : Input → Bool
is_datagram Quiet = false
is_datagram (Datagram source datagram) = true

-- how many datagrams these turns brought, refused ones counted
abbrev pub packets_in : List TakenTurn → ℕ
packets_in turns = count_by (λ taken. is_datagram taken.turn.input) turns

-- the limit on turns, where none is given the greatest number of 63 bits
abbrev pub turn_limit : Limits → ℕ
turn_limit limits = option_map_or (λ most. most) limits.turns 9223372036854775807

-- these turns have reached a limit
abbrev pub ReachesLimit : Limits → List TakenTurn → Type 0
ReachesLimit limits turns = IsSomeAnd limits.packets (λ most. most ≤ packets_in turns) ⊎ (turn_limit limits ≤ length turns)

-- the ending fits the limits: it is at a limit exactly where one is reached, save where it may come in the midst of a turn
abbrev pub FitsLimits : Limits → List TakenTurn → Ending → Type 0
FitsLimits limits turns AtLimit = ReachesLimit limits turns
FitsLimits limits turns AtDiskFault = Unit {0}
FitsLimits limits turns AtWantOfMemory = Unit {0}
FitsLimits limits turns _ = ReachesLimit limits turns → ⊥

-- a run under these limits: no turn is taken once a limit is reached
pub record KeepsLimits (limits : Limits) (run : Run) : Type 0 where
  pub fits : FitsLimits limits run.turns run.ending
  pub before : (front : List TakenTurn) (taken : TakenTurn) (later : List TakenTurn) → run.turns ≡ front ++ taken ∷ later
      → ReachesLimit limits front → ⊥

-- A turn at the place may want memory for its datagram: that has the right shape, and its digest was not seen before the turn.
pub record WantsAtDatagram (rules : Rules) (place : Place) (taken : TakenTurn) : Type 0 where
  pub source : Ip4
  pub datagram : List ℕ
  pub brought : taken.turn.input ≡ Datagram source datagram
  pub formed : rules.misshapen datagram ≡ None
  pub fresh : IsSeen (rules.digest datagram) place.ledger → ⊥

-- It may want memory in the host's start of a close: each child that ran before it was polled, all its changes are made, and a
-- record that is due and idle at its end had no close attempted in it.
pub record WantsAtClose (rules : Rules) (place : Place) (taken : TakenTurn) : Type 0 where
  pub polled : (child : Child) → Contains (running place.past) child → (item : Item) × Contains taken.items item × IsPollOf child item.event
  pub made : taken.changes ≡ planned_turn rules place taken
  pub item : OpenRecord
  pub owed : IsDueIdle (after_turn place taken) taken.turn.moment item
  pub untried : close_attempted taken.items item.id ≡ false
