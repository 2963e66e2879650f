-- Where a text stops being the front of a right one.
use Rattle.std.specs.Prelude.{ℕ, ◌≤◌, List, ◌++◌, length, take}

-- some right text begins with this front
abbrev pub CanBegin : (List ℕ → Type 0) → List ℕ → Type 0
CanBegin IsRight front = (rest : List ℕ) × IsRight (front ++ rest)

-- the longest front of the text with which some right text begins has this length
pub record IsLongestFront (IsRight : List ℕ → Type 0) (text : List ℕ) (len : ℕ) : Type 0 where
  pub inside : len ≤ length text
  pub begins : CanBegin IsRight (take len text)
  pub longest : (more : ℕ) → more ≤ length text → CanBegin IsRight (take more text) → more ≤ len
