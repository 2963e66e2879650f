-- A sink in memory.
use Rattle.std.specs.Prelude.{◌≡◌, ◌⊎◌, ℕ, ◌+◌, ◌-◌, ◌<◌, List, length, min, Bool, true, Option, Some, None}
use Rattle.fk_host.specs.Count.{counted}

-- where a sink in memory stands
pub record SinkState : Type 0 where
  -- the bytes that it has taken
  pub written : List ℕ
  -- how many bytes it has memory for in all, before it has to grow
  pub room : ℕ
  -- how many bytes it takes in all, where there is a limit
  pub limit : Option ℕ
  -- whether a write has failed because the sink couldn't grow
  pub is_short : Bool
  -- how often it has failed
  pub faults : ℕ

-- how many bytes of a piece of this length are within a limit, where this many were taken
abbrev pub within : Option ℕ → ℕ → ℕ → ℕ
within None taken len = len
within (Some limit) taken len = min len (limit - taken)

-- how many bytes of a piece of this length fit the sink
abbrev pub fitting_count : SinkState → ℕ → ℕ
fitting_count sink len = within sink.limit (length sink.written) len

-- a write of a piece of this length finds the sink at its limit, and counts a fault
abbrev pub IsFull : SinkState → SinkState → ℕ → Type 0
IsFull old new len = (fitting_count old len ≡ 0) × (new ≡ record old { faults = counted old.faults })

-- the bytes that fit need more room than there is, the sink couldn't grow, and it tells this and counts a fault
abbrev pub FindsNoRoom : SinkState → SinkState → ℕ → Type 0
FindsNoRoom old new len =
    (old.room < length old.written + fitting_count old len) × (new ≡ record old { is_short = true; faults = counted old.faults; room = new.room })

-- what a failed write says
abbrev pub FailsToTake : SinkState → SinkState → ℕ → Type 0
FailsToTake old new len = IsFull old new len ⊎ FindsNoRoom old new len
