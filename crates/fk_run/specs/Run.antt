-- A whole run: the turns that it took, one after another, and how it ended.
use Rattle.std.specs.Prelude.{ℕ, Bool, true, false, List, map}
use Rattle.std.specs.List.{flat_map}
use Rattle.fk_trace.specs.declared.change.Change.{Change}
use Rattle.fk_trace.specs.Trace.{Item}
use Rattle.fk_trace.specs.Decision.{FeedTurn, Rules}
use Rattle.fk_run.specs.Turn.{TakenTurn}

-- how a run ended
pub data Ending : Type 0 where
  -- it reached the limit on its datagrams or its turns
  AtLimit : Ending
  -- the feed, or the input of a trial, was at its end
  AtEnd : Ending
  -- the feed failed
  AtFeedFault : Ending
  -- a call of the disk failed
  AtDiskFault : Ending
  AtWantOfMemory : Ending
  -- in a trial: the line of this number is none of the grammar, or the input's limit is passed in it, or the input failed
  AtBadLine : ℕ → Ending
  AtLongInput : ℕ → Ending
  AtReadFault : Ending

-- the endings that may come in the midst of a turn
abbrev pub cuts_turn : Ending → Bool
cuts_turn AtDiskFault = true
cuts_turn AtWantOfMemory = true
cuts_turn _ = false

pub record Run : Type 0 where
  pub rules : Rules
  -- the ledger that it found
  pub ledger : List Change
  -- the disk's count of faults when it began
  pub faults : ℕ
  pub turns : List TakenTurn
  pub ending : Ending

-- what the feed gave
abbrev pub turns_of : Run → List FeedTurn
turns_of run = map (λ taken. taken.turn) run.turns

-- what the host's calls brought
abbrev pub trace_of : Run → List Item
trace_of run = flat_map (λ taken. taken.items) run.turns

-- the changes of the run, turn by turn
abbrev pub changes_by_turn : List TakenTurn → List (List Change)
changes_by_turn turns = map (λ taken. taken.changes) turns

abbrev pub changes_of : Run → List Change
changes_of run = flat_map (λ taken. taken.changes) run.turns
