-- Which of the records that may be closed is closed first: the one with the least due, and then the least number.
use Rattle.std.specs.Prelude.{◌≡◌, ℕ, true, false, List, Option, Some, None}
use Rattle.std.specs.List.{All, Contains}
use Rattle.fk_timer.specs.Schedule.{precedes}
use Rattle.fk_cycle.specs.Kept.{Kept, is_ready}
use Rattle.fk_cycle.specs.Private.{entry_of}

-- the answer is the number of that record which may be closed and which no other that may be closed precedes
abbrev pub IsFirstReady : ℕ → List Kept → Option ℕ → Type 0
IsFirstReady moment machine None = All (λ kept. is_ready moment kept ≡ false) machine
IsFirstReady moment machine (Some id) =
    (kept : Kept) × Contains machine kept × (kept.id ≡ id) × (is_ready moment kept ≡ true) × All (λ other. is_ready moment other ≡ true → precedes (entry_of other) (entry_of kept) ≡ false) machine
