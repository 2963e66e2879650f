-- Streams of bytes: what a source has left and what a sink was given, where the object tells.
use Rattle.std.specs.Prelude.{◌≡◌, ℕ, List, ◌++◌, Option, Some, IfSome, IsSomeAnd}

-- The piece was taken from the front of what was left. An object that doesn't tell claims nothing.
abbrev pub Takes : List ℕ → Option (List ℕ) → Option (List ℕ) → Type 0
Takes piece old new = IfSome old (λ bytes. IsSomeAnd new (λ rest. bytes ≡ piece ++ rest))

-- The piece was added at the end of what was given. An object that doesn't tell claims nothing.
abbrev pub Gives : List ℕ → Option (List ℕ) → Option (List ℕ) → Type 0
Gives piece old new = IfSome old (λ bytes. new ≡ Some (bytes ++ piece))
