-- What serving a turn does, whole or in part.
use Rattle.std.specs.Prelude.{◌≡◌, ◌<◌, ℕ, ◌+◌, length, map, false, List, [], ◌∷◌, ◌++◌, Result, Ok, Err}
use Rattle.std.specs.List.{AllPairs}
use Rattle.fk_trace.specs.declared.change.Change.{Change}
use Rattle.fk_trace.specs.Trace.{Item, children, past_after}
use Rattle.fk_trace.specs.declared.change.Change.TheVariants.{Done}
use Rattle.fk_trace.specs.Ledger.{after, dones, ends_with_floor, AreOneCall}
use Rattle.fk_trace.specs.Settled.{settlements}
use Rattle.fk_trace.specs.Decision.{FeedTurn}
use Rattle.fk_run.specs.Place.{Place}
use Rattle.fk_run.specs.Turn.{TakenTurn, WholeTurn, CutTurn, after_turn}
use Rattle.fk_run.specs.Planned.{planned_turn}
use Rattle.fk_run.specs.Run.Ending.{AtWantOfMemory}
use Rattle.fk_host.specs.Count.{counted}
use Rattle.fk_host.specs.Disk.{IfTold}
use Rattle.fk_log.specs.Log.{RefusalLine, turn_lines, MayTellAt}
use Rattle.fk_log.specs.Log.RefusalLine.{Told, Untold}
use Rattle.fk_log.specs.Writing.{Logs}
use Rattle.fk_ledger.specs.Book.{calls_of, live_ids}
use Rattle.fk_child.specs.View.{MakesCalls, Adds}
use Rattle.fk_turn.specs.declared.feed_turn.FeedTurn.{FeedTurn as GivenTurn}
use Rattle.fk_turn.specs.declared.policy.Policy.{Policy}
use Rattle.fk_turn.specs.declared.turn_err.TurnErr.{TurnErr}
use Rattle.fk_turn.specs.declared.turn_err.TurnErr.TheVariants.{Disk, NoMemory}
use Rattle.fk_turn.specs.Daemon.{DaemonState, Scene, AtRest}
use Rattle.fk_turn.specs.Rules.{rules_by, turn_of}
use Rattle.fk_turn.specs.Wanting.{WantsMemoryAt}

-- how many calls of the host bring these items and make these changes over the ledger: one for each item, and those of the changes
abbrev pub calls_for : List Item → List Change → List Change → ℕ
calls_for items ledger changes = length items + calls_of ledger changes

-- the first of these items stands at the moment
abbrev pub BeginsAt : ℕ → List Item → Type 0
BeginsAt moment [] = ⊥
BeginsAt moment (start ∷ items) = start.moments ≡ moment

-- the daemon holds one obligation for each live record of its ledger, so that it can be parked
abbrev pub OwesItsLive : DaemonState → Type 0
OwesItsLive daemon = daemon.crew.owed ≡ live_ids daemon.book.changes

-- the turn was served whole
pub record ServesWhole (policy : Policy) (place : Place) (turn : FeedTurn) (old new : Scene) : Type 0 where
  pub taken : TakenTurn
  pub of_turn : taken.turn ≡ turn
  pub whole : WholeTurn (rules_by policy) place taken
  -- the host was not called for anything else
  pub calls : MakesCalls (calls_for taken.items place.ledger taken.changes) old.host new.host
  pub adds : Adds taken.items place.ledger taken.changes [] old.host new.host
  pub disk : new.host.faults ≡ old.host.faults
  pub logs : Logs (turn_lines (rules_by policy) place Told taken) old.output new.output
  pub rests : AtRest policy.conf.now new (after_turn place taken)

-- The disk failed in the turn, which is cut there: the trace and the log have what was served before. The changes of the call that
-- failed are the next of the planned ones.
pub record FailsAtDisk (policy : Policy) (place : Place) (turn : FeedTurn) (old new : Scene) : Type 0 where
  pub taken : TakenTurn
  pub of_turn : taken.turn ≡ turn
  pub cut : CutTurn (rules_by policy) place taken
  -- what was made before does not end with a Floor
  pub whole : ends_with_floor taken.changes ≡ false
  pub failing : List Change
  pub one : AreOneCall failing
  pub later : List Change
  pub planned : taken.changes ++ failing ++ later ≡ planned_turn (rules_by policy) place taken
  -- with them, too, the turn is cut
  pub meant : CutTurn (rules_by policy) place (record taken { changes = taken.changes ++ failing })
  -- the host still numbers its children by rising numbers
  pub numbered : AllPairs (λ a b. a.number < b.number) (children (past_after place.past taken.items))
  pub adds : Adds taken.items place.ledger taken.changes failing old.host new.host
  pub disk : new.host.faults ≡ counted old.host.faults
  pub logs : Logs (turn_lines (rules_by policy) place Untold taken) old.output new.output
  pub book : new.daemon.book.changes ≡ after place.ledger taken.changes
  pub parks : OwesItsLive new.daemon

-- Memory was wanting in the turn, and the turn is cut there: the trace, the ledger and the log have what was served before, all
-- settlements among it.
pub record WantsMemory (policy : Policy) (place : Place) (turn : FeedTurn) (old new : Scene) : Type 0 where
  pub taken : TakenTurn
  pub of_turn : taken.turn ≡ turn
  pub cut : CutTurn (rules_by policy) place taken
  pub wants : WantsMemoryAt policy place taken (λ more. MakesCalls (calls_for taken.items place.ledger taken.changes + more) old.host new.host)
  -- what was made does not end with a Floor
  pub whole : ends_with_floor taken.changes ≡ false
  pub settled : map Done (dones taken.changes) ≡ settlements place.past taken.items
  -- the turn began with the next call of the host
  pub begun : IfTold old.host.told new.host.told (λ before later. BeginsAt (before.moments + 1) taken.items)
  -- the host still numbers its children by rising numbers
  pub numbered : AllPairs (λ a b. a.number < b.number) (children (past_after place.past taken.items))
  pub adds : Adds taken.items place.ledger taken.changes [] old.host new.host
  pub disk : new.host.faults ≡ old.host.faults
  pub told : RefusalLine
  pub may : MayTellAt AtWantOfMemory taken.items told
  pub logs : Logs (turn_lines (rules_by policy) place told taken) old.output new.output
  pub book : new.daemon.book.changes ≡ after place.ledger taken.changes
  pub parks : OwesItsLive new.daemon

-- what serving a turn from the place does, by its answer
abbrev pub ServesTurn : {T : Type 0} → Policy → Place → FeedTurn → Scene → Scene → Result T TurnErr → Type 0
ServesTurn policy place turn old new (Ok _) = ServesWhole policy place turn old new
ServesTurn policy place turn old new (Err Disk) = FailsAtDisk policy place turn old new
ServesTurn policy place turn old new (Err NoMemory) = WantsMemory policy place turn old new

-- from each place where the daemon was at rest, the turn was served so
abbrev pub TakesTurn : {T : Type 0} → Policy → GivenTurn → Result T TurnErr → Scene → Scene → Type 0
TakesTurn policy turn result old new = (place : Place) → AtRest policy.conf.now old place → ServesTurn policy place (turn_of turn) old new result
