-- Lists of tests, of which the first that fails gives the fault.
use Rattle.std.proofs.Common.{◌≡◌, Bool, true, false, List, [], ◌∷◌, ◌++◌, Option, Some, None, refl}
use Rattle.std.specs.List.{AllByRecursion}
use Rattle.fk_base.specs.FirstFailed.{first_failed}

-- where no test fails each holds
pub all_hold : {E : Type 0} (tests : List (Bool × E)) → first_failed tests ≡ None → AllByRecursion (λ t. t.0 ≡ true) tests
all_hold [] none = tt
all_hold ((true, fault) ∷ tests) none = (refl, all_hold tests none)
all_hold ((false, fault) ∷ tests) none = cc

-- where none fails of two lists, none fails of either
pub none_of_both : {E : Type 0} (front back : List (Bool × E)) → first_failed (front ++ back) ≡ None
    → (first_failed front ≡ None) × (first_failed back ≡ None)
none_of_both [] back none = (refl, none)
none_of_both ((true, fault) ∷ front) back none = none_of_both front back none
none_of_both ((false, fault) ∷ front) back none = cc

-- what fails of the front fails of both
pub front_fails : {E : Type 0} (front back : List (Bool × E)) (fault : E) → first_failed front ≡ Some fault → first_failed (front ++ back) ≡ Some fault
front_fails [] back fault some = cc
front_fails ((true, other) ∷ front) back fault some = front_fails front back fault some
front_fails ((false, other) ∷ front) back fault some = some

-- what fails of the back, where none fails of the front
pub back_fails : {E : Type 0} (front back : List (Bool × E)) (o : Option E) → first_failed front ≡ None → first_failed back ≡ o
    → first_failed (front ++ back) ≡ o
back_fails [] back o none is = is
back_fails ((true, other) ∷ front) back o none is = back_fails front back o none is
back_fails ((false, other) ∷ front) back o none is = cc
