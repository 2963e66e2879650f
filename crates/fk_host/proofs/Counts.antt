-- How the counts of one call go on over the next.
use Rattle.std.proofs.Common.{◌≡◌, ◌⊎◌, ℕ, ◌<◌, ◌≤◌, inl, inr, Bool, true, false, if◌then◌else◌, Result, Ok, Err, le_of_eq, sym, subst, arith}
use Rattle.std.proofs.lemmas.Bool.{cases_lt}
use Rattle.fk_base.specs.declared.memory.Failed.{Failed}
use Rattle.fk_host.specs.Count.{counted, HasCauseBy, HasCause, Rose}

-- a fault raises its count
pub counted-Rose : (count : ℕ) → Rose count (counted count)
counted-Rose count = rose (cases_lt count 18446744073709551615)
  where
    rose : (count < 18446744073709551615) ⊎ (18446744073709551615 ≤ count) → Rose count (counted count)
    rose (inl below) = (omega arith, inl (omega arith))
    rose (inr above) = (omega arith, inr (omega arith))

-- no fault lowers its count
pub counted-le : (count : ℕ) → count ≤ counted count
counted-le count = omega arith

-- over a call that failed its object's count rose
pub HasCause-Rose : (T : Type 0) (old new : ℕ) (error : Failed) → HasCause {T = T} old new (Err error) → Rose old new
HasCause-Rose T old new error cause = subst (λ (n : ℕ). Rose old n) (sym cause) (counted-Rose old)

-- what rose once and once more has risen
pub Rose-trans : (a b c : ℕ) → Rose a b → Rose b c → Rose a c
Rose-trans a b c first (le, inl above) = (omega arith, inl (omega arith))
Rose-trans a b c first (le, inr stopped) = (omega arith, inr (omega arith))

-- what rose has risen later too
pub Rose-then-le : (a b c : ℕ) → Rose a b → b ≤ c → Rose a c
Rose-then-le a b c (le, inl above) later = (omega arith, inl (omega arith))
Rose-then-le a b c (le, inr stopped) later = (omega arith, inr (omega arith))

-- what rises later has risen
pub le-then-Rose : (a b c : ℕ) → a ≤ b → Rose b c → Rose a c
le-then-Rose a b c later (le, inl above) = (omega arith, inl (omega arith))
le-then-Rose a b c later (le, inr stopped) = (omega arith, inr (omega arith))

-- no call lowers its count
pub HasCauseBy-le : {T E : Type 0} (is_fault : E → Bool) (old new : ℕ) (result : Result T E) → HasCauseBy is_fault old new result → old ≤ new
HasCauseBy-le is_fault old new (Ok _) same = le_of_eq (sym same)
HasCauseBy-le is_fault old new (Err error) cause = le_after (is_fault error) cause
  where
    le_after : (fault : Bool) → new ≡ (if fault then counted old else old) → old ≤ new
    le_after true is = subst (λ (n : ℕ). old ≤ n) (sym is) (counted-le old)
    le_after false is = le_of_eq (sym is)

-- a call that went well leaves the cause of the next one's answer
pub HasCauseBy-after : {T E : Type 0} (is_fault : E → Bool) (a b c : ℕ) (result : Result T E) → b ≡ a → HasCauseBy is_fault b c result → HasCauseBy is_fault a c result
HasCauseBy-after is_fault a b c result same cause = subst (λ (n : ℕ). HasCauseBy is_fault n c result) same cause
