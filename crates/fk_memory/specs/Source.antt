-- A source in memory.
use Rattle.std.specs.Prelude.{ℕ, List, length, min}

-- where a source in memory stands
pub record SourceState : Type 0 where
  -- the bytes that it has left
  pub left : List ℕ
  -- how many bytes a read gives at most
  pub most : ℕ
  -- the read that will fail, counted from the next one as 1; at 0 none will
  pub fails_in : ℕ
  -- how often it has failed
  pub faults : ℕ

-- how many bytes a read gives: as many as there are, as fit the buffer and as go into one read
abbrev pub given_count : SourceState → ℕ → ℕ
given_count source room = min (min room source.most) (length source.left)
