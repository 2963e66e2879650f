-- Random bytes in memory.
use Rattle.std.specs.Prelude.{ℕ, List}

-- where entropy in memory stands
pub record EntropyState : Type 0 where
  -- the bytes that it has left
  pub left : List ℕ
  -- how often it has failed
  pub faults : ℕ
