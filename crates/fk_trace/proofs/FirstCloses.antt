-- A record of which no close was attempted is idle.
use Rattle.std.proofs.Common.{◌≡◌, ℕ, Bool, true, false, not, ◌==◌, ◌||◌, ◌&&◌, cond, List, [], ◌∷◌, Option, Some, None, refl, sym, ap, ◌∙◌, arith, inl, inr}
use Rattle.std.specs.Prelude.{IsTrue}
use Rattle.std.specs.List.{find, Contains}
use Rattle.std.proofs.lemmas.List.Elements.{Contains-append_cases}
use Rattle.std.proofs.lemmas.Bool.{false_from_ne_true}
use Rattle.std.proofs.Math.Bool.{and-false}
use Rattle.fk_trace.specs.Trace.{Event, Item, Child, children, begun_by, running, open_runs, close_runs, is_close_of, is_close_attempt_of, close_attempted, past_after}
use Rattle.fk_trace.specs.Trace.Event.{Turn, Began, StartFailed, Ended, Runs, PollFailed}
use Rattle.fk_trace.specs.Idle.{End, child_numbered, is_close_child, moments_before, close_end, or_else, last_close, ended_well, rests, is_idle}
use Rattle.fk_trace.proofs.Lists.{Contains-head, Contains-tail, Contains-cases, list_any-at}
use Rattle.fk_trace.proofs.Running.{running-children}

or_parts : (a b : Bool) → (a || b) ≡ false → (a ≡ false) × (b ≡ false)
or_parts true b e = absurd cc
or_parts false b e = (refl, e)

-- none in the past and none in the items behind it
pub close_attempted-past : (past items : List Item) (id : ℕ) → close_attempted past id ≡ false → close_attempted items id ≡ false → close_attempted (past_after past items) id ≡ false
close_attempted-past past [] id p h = p
close_attempted-past past (item ∷ items) id p h =
    let both = or_parts (is_close_attempt_of id item.event) (close_attempted items id) h in
    let more : close_attempted (item ∷ past) id ≡ false = rw (both.0) p in
    close_attempted-past (item ∷ past) items id more both.1

-- the event that began a child for a close was the attempt of it
begun-no_close : (id : ℕ) (event : Event) (child : Child) → is_close_attempt_of id event ≡ false → Contains (begun_by event) child → is_close_of id child.purpose ≡ false
begun-no_close id (Turn number) child h m = absurd (omega (arith, m.1))
begun-no_close id (Began number purpose words) child h m =
    elim (Contains-cases (record { number = number; purpose = purpose }) [] child m) [
      | inl e ↦ sym (ap (λ (c : Child). is_close_of id c.purpose) e) ∙ h
      | inr n ↦ absurd (omega (arith, n.1))
    ]
begun-no_close id (StartFailed purpose words) child h m = absurd (omega (arith, m.1))
begun-no_close id (Ended number good) child h m = absurd (omega (arith, m.1))
begun-no_close id (Runs number) child h m = absurd (omega (arith, m.1))
begun-no_close id (PollFailed number) child h m = absurd (omega (arith, m.1))

children-no_close : (id : ℕ) (past : List Item) (child : Child) → close_attempted past id ≡ false → Contains (children past) child → is_close_of id child.purpose ≡ false
children-no_close id [] child h m = absurd (omega (arith, m.1))
children-no_close id (item ∷ past) child h m =
    let both = or_parts (is_close_attempt_of id item.event) (close_attempted past id) h in
    elim (Contains-append_cases (children past) (begun_by item.event) child m) [
      | inl before ↦ children-no_close id past child both.1 before
      | inr here ↦ begun-no_close id item.event child both.0 here
    ]

close_runs-none : (id : ℕ) (past : List Item) → close_attempted past id ≡ false → close_runs past id ≡ false
close_runs-none id past h =
    false_from_ne_true (close_runs past id) (λ t.
    let at = list_any-at (λ (child : Child). is_close_of id child.purpose) (running past) t in
    let none = children-no_close id past at.0 h (running-children past at.0 at.1) in
    let some = at.2 in
    absurd cc)

find-Contains : {X : Type 0} (p : X → Bool) (xs : List X) (x : X) → find p xs ≡ Some x → Contains xs x
find-Contains p [] x e = absurd cc
find-Contains p (y ∷ xs) x e =
    (elim (p y) as (λ b. cond b (Some y) (find p xs) ≡ Some x → Contains (y ∷ xs) x) [
      | true ↦ λ f. let same : y ≡ x = cc in rw (← same) (Contains-head y xs)
      | false ↦ λ f. Contains-tail y xs x (find-Contains p xs x f)
    ]) e

found-no_close : (id number : ℕ) (past : List Item) (found : Option Child) → close_attempted past id ≡ false → child_numbered number past ≡ found → is_close_child id found ≡ false
found-no_close id number past None h e = refl
found-no_close id number past (Some child) h e = children-no_close id past child h (find-Contains (λ (c : Child). c.number == number) (children past) child e)

close_end-none : (id : ℕ) (event : Event) (past : List Item) (ends : List ℕ) → close_attempted past id ≡ false → close_end id event past ends ≡ None
close_end-none id (Turn number) past ends h = refl
close_end-none id (Began number purpose words) past ends h = refl
close_end-none id (StartFailed purpose words) past ends h = refl
close_end-none id (Ended number good) past ends h = rw (found-no_close id number past (child_numbered number past) h refl) refl
close_end-none id (Runs number) past ends h = refl
close_end-none id (PollFailed number) past ends h = refl

last_close-none : (id : ℕ) (past : List Item) (ends : List ℕ) → close_attempted past id ≡ false → last_close past ends id ≡ None
last_close-none id [] ends h = refl
last_close-none id (item ∷ past) ends h =
    let both = or_parts (is_close_attempt_of id item.event) (close_attempted past id) h in
    ap (λ (o : Option End). or_else o (last_close past (moments_before item.event ends) id)) (close_end-none id item.event past ends both.1)
    ∙ last_close-none id past (moments_before item.event ends) both.1

idle_by : (closes open_is : Bool) (last : Option End) (moment : ℕ) → closes ≡ false → last ≡ None → IsTrue (not closes && not (open_is && ended_well last) && not (rests last moment))
idle_by closes open_is last moment c l = rw (c, l, and-false open_is) refl

-- no close was attempted, so none runs and none has ended
pub idle-first : (id : ℕ) (past : List Item) (ends : List ℕ) (moment : ℕ) → close_attempted past id ≡ false → IsTrue (is_idle past ends moment id)
idle-first id past ends moment h = idle_by (close_runs past id) (open_runs past id) (last_close past ends id) moment (close_runs-none id past h) (last_close-none id past ends h)
