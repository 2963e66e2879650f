-- Tests in the order in which they are made, each with the fault that it finds.
use Rattle.std.specs.Prelude.{Bool, List, [], ◌∷◌, Option, Some, None, if◌then◌else◌}

-- the fault of the first test that does not hold
abbrev pub first_failed : {E : Type 0} → List (Bool × E) → Option E
first_failed [] = None
first_failed ((holds, fault) ∷ tests) = if holds then first_failed tests else Some fault
