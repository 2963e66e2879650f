-- The changes that a run owes, computed from its turns and the items of each, since no object tells them.
use Rattle.std.specs.Prelude.{◌≡◌, false, List, [], ◌∷◌, ◌++◌}
use Rattle.std.specs.List.{flat_map}
use Rattle.fk_trace.specs.declared.change.Change.{Change}
use Rattle.fk_trace.specs.Ledger.{after}
use Rattle.fk_trace.specs.Decision.{Rules, answer, recorded_by}
use Rattle.fk_trace.specs.Settled.{settlements}
use Rattle.fk_run.specs.Place.{Place, entry}
use Rattle.fk_run.specs.Turn.{TakenTurn, after_turn}
use Rattle.fk_run.specs.Run.{Run, changes_of, changes_by_turn, cuts_turn}

-- the changes that a turn at this place owes: the settlements that its items show, and then the record of what is granted
abbrev pub planned_turn : Rules → Place → TakenTurn → List Change
planned_turn rules place taken =
    settlements place.past taken.items
    ++ recorded_by (answer rules (after place.ledger (settlements place.past taken.items)) taken.turn)

-- the changes that the turns owe, turn by turn, each over the ledger as the planned ones before it leave it
abbrev pub planned_turns : Rules → Place → List TakenTurn → List (List Change)
planned_turns rules place [] = []
planned_turns rules place (taken ∷ later) =
    planned_turn rules place taken
    ∷ planned_turns rules (after_turn place (record taken { changes = planned_turn rules place taken })) later

-- all changes that the run owes
abbrev pub planned : Run → List Change
planned run = flat_map (λ changes. changes) (planned_turns run.rules (entry run.ledger) run.turns)

-- The changes of a run are the planned ones: all of them, or, where its ending may come in the midst of a turn, a front of them
-- that has every change of the turns before the last.
pub record MakesWhatIsPlanned (run : Run) : Type 0 where
  pub unmade : List Change
  pub made : changes_of run ++ unmade ≡ planned run
  pub whole : cuts_turn run.ending ≡ false → unmade ≡ []
  pub before_last : (front : List TakenTurn) (last : TakenTurn) → run.turns ≡ front ++ last ∷ []
      → changes_by_turn front ≡ planned_turns run.rules (entry run.ledger) front
