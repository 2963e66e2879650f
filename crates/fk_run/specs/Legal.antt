-- Which runs the daemon and the trial may have.
use Rattle.std.specs.Prelude.{◌≡◌, ◌⊎◌, ℕ, ◌<◌, not, IsTrue, List, [], ◌∷◌, ◌++◌, Some}
use Rattle.std.specs.List.{AllPairs, AllByRecursion}
use Rattle.fk_trace.specs.Trace.{Item, Child, children, open_runs, past_after}
use Rattle.fk_trace.specs.Trace.Event.{Began}
use Rattle.fk_trace.specs.Idle.{child_numbered, is_clean}
use Rattle.fk_trace.specs.Decision.{Rules}
use Rattle.fk_run.specs.Place.{Place, entry}
use Rattle.fk_run.specs.Turn.{TakenTurn, WholeTurn, CutTurn, after_turn}
use Rattle.fk_run.specs.Run.{Run, Ending, cuts_turn, trace_of}

-- whole turns, one after another, of which the last may be cut short where the ending may come in its midst
abbrev pub LegalTurns : Rules → Place → Ending → List TakenTurn → Type 0
LegalTurns rules place ending [] = Unit {0}
LegalTurns rules place ending (taken ∷ later) =
    (WholeTurn rules place taken × LegalTurns rules (after_turn place taken) ending later)
    ⊎ (IsTrue (cuts_turn ending) × (later ≡ []) × CutTurn rules place taken)

-- a run is legal by its turns, by the counts of faults that its items carry, and by the numbers of its children
pub record Legal (run : Run) : Type 0 where
  pub turns : LegalTurns run.rules (entry run.ledger) run.ending run.turns
  -- nothing follows a fault of the disk
  pub no_fault_before : AllByRecursion (λ item. item.faults ≡ run.faults) (trace_of run)
  -- the host numbers its children by rising numbers, so that a number means one child
  pub numbered : AllPairs (λ a b. a.number < b.number) (children (past_after [] (trace_of run)))

-- the child began in the run behind these items, and this is the past of a place behind its Began
pub record BeganBehind (run : Run) (before : List Item) (child : Child) (past : List Item) : Type 0 where
  pub item : Item
  pub words : List (List ℕ)
  pub between : List Item
  pub later : List Item
  pub placed : trace_of run ≡ before ++ item ∷ (between ++ later)
  pub began : item.event ≡ Began child.number child.purpose words
  pub since : past ≡ past_after [] (before ++ item ∷ between)

-- Looking back with this past at a child that began behind these items: it is the child that is found by its number, and clean asks
-- what ran where it began.
pub record MeansChild (before : List Item) (child : Child) (past : List Item) : Type 0 where
  pub found : child_numbered child.number past ≡ Some child
  pub clean : (id : ℕ) → is_clean past child.number id ≡ not (open_runs (past_after [] before) id)
