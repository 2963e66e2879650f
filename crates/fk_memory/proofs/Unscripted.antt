-- The children of a host in memory where nothing is scripted.
use Rattle.std.proofs.Common.{◌≡◌, ℕ, ◌+◌, ◌-◌, ◌<◌, ◌≤◌, ◌==◌, Bool, true, false, List, [], ◌∷◌, ◌++◌, map, find, ap, ◌∙◌, arith, if◌then◌else◌, Some, None, Ok, Err, nat_le, IsTrue, ◌||◌, drop}
use Rattle.std.specs.List.{filter, list_any, AllByRecursion}
use Rattle.std.proofs.lemmas.Bool.Decides.{nat_tests}
use Rattle.fk_trace.specs.Trace.{Event}
use Rattle.fk_trace.specs.Trace.Event.{Turn, Began, StartFailed, Ended, Runs, PollFailed}
use Rattle.fk_memory.specs.declared.children.HeldChild.{HeldChild}
use Rattle.fk_host.specs.Host.{is_running}
use Rattle.fk_memory.specs.Children.{Children, child_of, above_children, next_script, start_by, start_answer, end_by, end_of, poll_answer, children_after, EndsWell, IsUnscripted, BeganEarlier}

pub starts : (children : Children) → IsUnscripted children → start_answer false children ≡ Ok (record { 0 = children.begun + 1 })
starts children plain = ap (λ scripts. start_by (next_script scripts) (children.begun + 1)) plain.scripts

le_true : (a b : ℕ) → a ≤ b → nat_le a b ≡ true
le_true a b le = grind (arith, nat_tests)

-- a child of an earlier turn has ended well
ended : (turns : ℕ) (held : HeldChild) → EndsWell turns held → held.turn < turns → end_by held.script (turns - held.turn) ≡ Some true
ended turns held well earlier =
    ap (λ script. end_by script (turns - held.turn)) well.0
    ∙ ap (λ (b : Bool). if b then Some true else None) (le_true 1 (turns - held.turn) (omega (arith, earlier)))

found : (turns number : ℕ) (running : List HeldChild) → AllByRecursion (EndsWell turns) running → AllByRecursion (λ held. held.turn < turns) running
    → list_any (λ child. child.number == number) (map child_of running) ≡ true → end_of turns (find (λ held. held.number == number) running) ≡ Some true
found turns number [] well earlier runs = cc
found turns number (held ∷ running) well earlier runs =
    elim (held.number == number) as (λ b. (b || list_any (λ child. child.number == number) (map child_of running)) ≡ true
    → end_of turns (if b then Some held else find (λ held. held.number == number) running) ≡ Some true) [
      | true ↦ λ runs. ended turns held well.0 earlier.0
      | false ↦ λ runs. found turns number running well.1 earlier.1 runs
    ] runs

pub polls : (children : Children) (number : ℕ) → IsUnscripted children → BeganEarlier children → IsTrue (is_running number (above_children children)) → poll_answer false number children ≡ Ok (Some true)
polls children number plain earlier runs =
    ap (λ failing. if false || list_any (λ poll. poll == children.polls + 1) failing then Err (record {}) else Ok (end_of children.turns (find (λ held. held.number == number) children.running))) plain.failing
    ∙ ap Ok (found children.turns number children.running plain.running earlier runs)

later : (turns : ℕ) (running : List HeldChild) → AllByRecursion (EndsWell turns) running → AllByRecursion (EndsWell (turns + 1)) running
later turns [] well = tt
later turns (held ∷ running) well = ((well.0.0, omega (arith, well.0.1)), later turns running well.1)

kept : {X : Type 0} (P : X → Type 0) (test : X → Bool) (xs : List X) → AllByRecursion P xs → AllByRecursion P (filter test xs)
kept P test [] all = tt
kept P test (x ∷ xs) all =
    elim (test x) as (λ b. AllByRecursion P (if b then x ∷ filter test xs else filter test xs)) [ true ↦ (all.0, kept P test xs all.1) | false ↦ kept P test xs all.1 ]

added : {X : Type 0} (P : X → Type 0) (xs : List X) (x : X) → AllByRecursion P xs → P x → AllByRecursion P (xs ++ x ∷ [])
added P [] x all p = (p, tt)
added P (y ∷ xs) x all p = (all.0, added P xs x all.1 p)

pub stays : (event : Event) (children : Children) → IsUnscripted children → IsUnscripted (children_after event children)
stays (Turn number) children plain = record { scripts = plain.scripts; failing = plain.failing; running = later children.turns children.running plain.running }
stays (Began number purpose words) children plain = record {
  scripts = ap (drop 1) plain.scripts;
  failing = plain.failing;
  running = added (EndsWell children.turns) children.running _ plain.running (ap next_script plain.scripts, omega arith);
}
stays (StartFailed purpose words) children plain = record { scripts = ap (drop 1) plain.scripts; failing = plain.failing; running = plain.running }
stays (Ended number good) children plain = record { scripts = plain.scripts; failing = plain.failing; running = kept (EndsWell children.turns) _ children.running plain.running }
stays (Runs number) children plain = record { scripts = plain.scripts; failing = plain.failing; running = plain.running }
stays (PollFailed number) children plain = record { scripts = plain.scripts; failing = plain.failing; running = plain.running }

pub turns : (number : ℕ) (children : Children) → IsUnscripted children → BeganEarlier (children_after (Turn number) children)
turns number children plain = below children.running plain.running
  where
    below : (running : List HeldChild) → AllByRecursion (EndsWell children.turns) running → AllByRecursion (λ held. held.turn < children.turns + 1) running
    below [] well = tt
    below (held ∷ running) well = (omega (arith, well.0.1), below running well.1)

pub ends : (number : ℕ) (good : Bool) (children : Children) → BeganEarlier children → BeganEarlier (children_after (Ended number good) children)
ends number good children earlier = kept (λ held. held.turn < children.turns) _ children.running earlier
