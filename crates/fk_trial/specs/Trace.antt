-- The trace of a trial: what the host in memory answers.
use Rattle.std.specs.Prelude.{◌≡◌, ℕ, IsTrue, List, [], length, map}
use Rattle.std.specs.List.{range_with_len, AllByRecursion}
use Rattle.fk_trace.specs.Trace.{Event, Item, children, past_after}
use Rattle.fk_trace.specs.Trace.Event.{Turn, Began, StartFailed, Ended, Runs, PollFailed}

-- every start begins a child, and every poll finds that the child has ended well
abbrev pub GoesWell : Event → Type 0
GoesWell (Turn number) = Unit {0}
GoesWell (Began number purpose words) = Unit {0}
GoesWell (StartFailed purpose words) = ⊥
GoesWell (Ended number good) = IsTrue good
GoesWell (Runs number) = ⊥
GoesWell (PollFailed number) = ⊥

-- the numbers of the children that began in these items, in their order
abbrev pub child_numbers : List Item → List ℕ
child_numbers trace = map (λ child. child.number) (children (past_after [] trace))

-- the children are numbered 1, 2, 3 and so on
pub record IsTrialTrace (trace : List Item) : Type 0 where
  pub well : AllByRecursion (λ item. GoesWell item.event) trace
  pub numbers : child_numbers trace ≡ range_with_len 1 (length (child_numbers trace))
