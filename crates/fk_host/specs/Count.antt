-- Counts of faults, and what an answer says of them.
use Rattle.std.specs.Prelude.{◌≡◌, ◌⊎◌, ℕ, ◌+◌, ◌<◌, ◌≤◌, min, max, Bool, true, if◌then◌else◌, Result, Ok, Err}
use Rattle.fk_base.specs.declared.memory.Failed.{Failed}

-- The count with one fault more: min (count + 1) of the greatest number of 64 bits, in which the code keeps it. A count
-- that is there stands still, and none ever falls.
abbrev pub counted : ℕ → ℕ
counted count = max count (min (count + 1) 18446744073709551615)

-- What an answer says of its object's count: an error that is a fault counts as one, and any other answer leaves the
-- count as it is.
abbrev pub HasCauseBy : {T E : Type 0} → (E → Bool) → ℕ → ℕ → Result T E → Type 0
HasCauseBy is_fault old new (Ok _) = new ≡ old
HasCauseBy is_fault old new (Err error) = new ≡ (if is_fault error then counted old else old)

-- the same where the only error is a fault
abbrev pub HasCause : {T : Type 0} → ℕ → ℕ → Result T Failed → Type 0
HasCause old new result = HasCauseBy (λ _. true) old new result

-- A count rose over some calls. From the greatest number of 64 bits on it counts as risen.
abbrev pub Rose : ℕ → ℕ → Type 0
Rose old new = (old ≤ new) × ((old < new) ⊎ (18446744073709551615 ≤ new))
