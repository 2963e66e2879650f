-- What a crash at a moment leaves of a turn and of a run.
use Rattle.std.specs.Prelude.{◌≡◌, ◌⊎◌, ℕ, ◌≤◌, nat_lt, nat_le, Bool, true, false, List, [], ◌∷◌, ◌++◌, length, map, take, is_some}
use Rattle.std.specs.List.{filter, flat_map, list_any, AllByRecursion, Contains}
use Rattle.fk_trace.specs.declared.change.Change.{Change}
use Rattle.fk_trace.specs.Trace.{Event, Item, attempt_of, is_turn}
use Rattle.fk_trace.specs.Ledger.{opens, dones}
use Rattle.fk_trace.specs.Decision.{FeedTurn}
use Rattle.fk_trace.specs.Settled.{EndedCleanly}
use Rattle.fk_run.specs.Turn.{TakenTurn}
use Rattle.fk_run.specs.Run.{Run, turns_of, trace_of, changes_of}
use Rattle.fk_run.specs.Run.Ending.{AtDiskFault}
use Rattle.fk_run.specs.Legal.{Legal}
use Rattle.fk_run.specs.Headline.{opens_attempted}

-- the items that stand at or before a moment, and those that stand behind it
abbrev pub items_by : ℕ → List Item → List Item
items_by moment items = filter (λ item. nat_le item.moments moment) items

abbrev pub items_behind : ℕ → List Item → List Item
items_behind moment items = filter (λ item. nat_lt moment item.moments) items

abbrev pub is_attempt : Event → Bool
is_attempt event = is_some (attempt_of event)

-- A crash at the moment, in a turn or a part of one with these items and changes, leaves the first `count` changes. The changes
-- stand between the items that attempt nothing and the attempts: where an attempt stands at or before the moment all of them are
-- left, and where another item stands behind it none is.
pub record IsCutAt (moment : ℕ) (items : List Item) (changes : List Change) (count : ℕ) : Type 0 where
  pub changes_before_attempts : (length changes ≤ count) ⊎ AllByRecursion (λ item. is_attempt item.event ≡ false) (items_by moment items)
  pub others_before_changes : (count ≡ 0) ⊎ AllByRecursion (λ item. is_attempt item.event ≡ true) (items_behind moment items)

-- One part of a turn may stand before another: no attempt of it stands before a change of the other, and no change of it before an
-- item of the other that attempts nothing.
pub record MayStandBefore (items : List Item) (changes : List Change) (later_items : List Item) (later_changes : List Change) : Type 0 where
  pub attempts : (later_changes ≡ []) ⊎ AllByRecursion (λ item. is_attempt item.event ≡ false) items
  pub others : (changes ≡ []) ⊎ AllByRecursion (λ item. is_attempt item.event ≡ true) later_items

-- the run with these turns alone, as a crash cuts it, in the midst of a turn too
abbrev pub crashed : Run → List TakenTurn → Run
crashed run turns = record run { turns = turns; ending = AtDiskFault }

-- A crash at the moment leaves of the run the first `count` of the changes that it tried.
pub record IsLeft (run : Run) (tried : List Change) (moment count : ℕ) : Type 0 where
  -- each change of a turn that was over when the last turn at or before the moment began
  pub over : (front : List TakenTurn) (next : TakenTurn) (later : List TakenTurn) → run.turns ≡ front ++ next ∷ later
      → list_any (λ item. is_turn item.event) (items_by moment next.items) ≡ true → length (flat_map (λ taken. taken.changes) front) ≤ count
  -- the record of each open whose attempt stands at or before it
  pub opened : (id : ℕ) → Contains (opens_attempted (items_by moment (trace_of run))) id → Contains (map (λ item. item.id) (opens (take count tried))) id
  -- a Done only of a record of which a clean close had ended well at or before it
  pub settled : (id : ℕ) → Contains (dones (take count tried)) id → EndedCleanly [] (items_by moment (trace_of run)) id
  -- with these changes, the items up to the moment are those of a legal run that is cut there
  pub turns : List TakenTurn
  -- whose turns are the first of those that the feed gave to the run
  pub untaken : List FeedTurn
  pub of_feed : turns_of (crashed run turns) ++ untaken ≡ turns_of run
  pub items : trace_of (crashed run turns) ≡ items_by moment (trace_of run)
  pub changes : changes_of (crashed run turns) ≡ take count tried
  pub legal : Legal (crashed run turns)
