-- The kinds of entries that a journal has.
use Rattle.std.specs.Prelude.{ℕ, ◌≤◌}

abbrev pub IsKind : ℕ → Type 0
IsKind kind = (1 ≤ kind) × (kind ≤ 4)
