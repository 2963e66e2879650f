-- The attempts to start a child, as a trace tells them.
use Rattle.std.specs.Prelude.{ℕ, Bool, List, Option, Some, None}
use Rattle.std.specs.List.{filter_map}
use Rattle.fk_base.specs.declared.purpose.Purpose.{Purpose}
use Rattle.fk_trace.specs.Trace.{Item, Attempt, attempt_of}

-- an attempt as it is told: the host's count of moments behind it, what it was for, and whether the child began
abbrev pub start_by_attempt : ℕ → Option Attempt → Option (ℕ × Purpose × Bool)
start_by_attempt moments None = None
start_by_attempt moments (Some attempt) = Some (moments, attempt.purpose, attempt.begun)

abbrev pub start_of : Item → Option (ℕ × Purpose × Bool)
start_of item = start_by_attempt item.moments (attempt_of item.event)

-- the attempts of a trace, in its order
abbrev pub starts_of : List Item → List (ℕ × Purpose × Bool)
starts_of items = filter_map start_of items
