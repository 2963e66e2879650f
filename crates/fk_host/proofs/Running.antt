-- Which children run after a call of the host.
use Rattle.std.proofs.Common.{◌≡◌, ℕ, ◌==◌, ◌||◌, Bool, true, false, List, [], ◌∷◌, ◌++◌, refl, ap, sym, subst, IsTrue, Option, Some, None, Result, Ok, Err}
use Rattle.std.specs.List.{list_any}
use Rattle.std.proofs.lemmas.Bool.{eq-eqb}
use Rattle.fk_base.specs.declared.memory.Failed.{Failed}
use Rattle.fk_base.specs.declared.purpose.Purpose.{Purpose}
use Rattle.fk_trace.specs.Trace.Event.{Turn, Began}
use Rattle.fk_host.specs.Disk.{Above}
use Rattle.fk_host.specs.Host.{above_after, above_by, brought_by_poll, is_running}

any_front : {X : Type 0} (test : X → Bool) (xs ys : List X) → list_any test xs ≡ true → list_any test (xs ++ ys) ≡ true
any_front test [] ys some = cc
any_front test (x ∷ xs) ys some =
    elim (test x) as (λ b. (b || list_any test xs) ≡ true → (b || list_any test (xs ++ ys)) ≡ true) [ true ↦ λ some. refl | false ↦ λ some. any_front test xs ys some ] some

any_last : {X : Type 0} (test : X → Bool) (xs : List X) (x : X) → test x ≡ true → list_any test (xs ++ x ∷ []) ≡ true
any_last test [] x is = ap (λ b. b || false) is
any_last test (y ∷ xs) x is = elim (test y) as (λ b. (b || list_any test (xs ++ x ∷ [])) ≡ true) [ true ↦ refl | false ↦ any_last test xs x is ]

same_number : (n : ℕ) → (n == n) ≡ true
same_number n = eq-eqb n n refl

-- a child that began runs
pub begun_runs : (number : ℕ) (purpose : Purpose) (words : List (List ℕ)) (old new : Above) → new ≡ above_after (Began number purpose words) old → IsTrue (is_running number new)
begun_runs number purpose words old new is =
    subst (λ (above : Above). IsTrue (is_running number above)) (sym is) (any_last (λ child. child.number == number) old.running (record { number = number; purpose = purpose }) (same_number number))

-- a turn leaves a child running
pub turn_runs : (number turn : ℕ) (old new : Above) → new ≡ above_after (Turn turn) old → IsTrue (is_running number old) → IsTrue (is_running number new)
turn_runs number turn old new is runs = subst (λ (above : Above). IsTrue (is_running number above)) (sym is) (any_front (λ child. child.number == number) old.running [] runs)

-- so does a poll that does not say that it has ended
pub poll_runs : (number : ℕ) (result : Result (Option Bool) Failed) (old new : Above) → new ≡ above_by (brought_by_poll number result) old → ((good : Bool) → result ≡ Ok (Some good) → ⊥) → IsTrue (is_running number old) → IsTrue (is_running number new)
poll_runs number (Ok None) old new is none runs = subst (λ (above : Above). IsTrue (is_running number above)) (sym is) (any_front (λ child. child.number == number) old.running [] runs)
poll_runs number (Ok (Some good)) old new is none runs = absurd (none good refl)
poll_runs number (Err error) old new is none runs = subst (λ (above : Above). IsTrue (is_running number above)) (sym is) (any_front (λ child. child.number == number) old.running [] runs)
