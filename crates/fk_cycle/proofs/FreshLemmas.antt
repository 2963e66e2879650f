-- Of a record that was never attempted the trace says nothing.
use Rattle.std.proofs.Common.{◌≡◌, ℕ, Bool, true, false, ◌==◌, cond, List, [], ◌∷◌, Option, Some, None, refl, ap, ◌∙◌}
use Rattle.std.specs.Prelude.{is_some}
use Rattle.std.specs.List.{find, list_any, Contains}
use Rattle.std.specs.Option.{option_map}
use Rattle.std.proofs.lemmas.List.Folds.{list_any-append}
use Rattle.std.proofs.lemmas.Bool.{or_parts, or_from, false_from_ne_true}
use Rattle.fk_trace.specs.Trace.{Event, Item, Child, attempt_of, begun_by, children, running, open_runs, close_tried, is_open_of, is_close_of}
use Rattle.fk_trace.specs.Trace.Event.{Turn, Began, StartFailed, Ended, Runs, PollFailed}
use Rattle.fk_trace.specs.Idle.{is_close_child, is_clean, close_end, last_close, moments_before}
use Rattle.fk_trace.specs.Orderly.{is_of_record, is_attempt_for, is_attempted}
use Rattle.fk_trace.proofs.Lists.{Contains-head, Contains-tail, list_any-at, list_any-find, list_any-none}
use Rattle.fk_trace.proofs.Running.{running-children}
use Rattle.fk_cycle.specs.Kept.{fresh}
use Rattle.fk_cycle.specs.Stands.{kept_of}

begun_by-untried : (id : ℕ) (event : Event) → is_attempt_for id (attempt_of event) ≡ false → list_any (λ child. is_of_record id child.purpose) (begun_by event) ≡ false
begun_by-untried id (Turn number) e = refl
begun_by-untried id (Began number purpose words) e = or_from (is_of_record id purpose) false e refl
begun_by-untried id (StartFailed purpose words) e = refl
begun_by-untried id (Ended number good) e = refl
begun_by-untried id (Runs number) e = refl
begun_by-untried id (PollFailed number) e = refl

-- no child of it began
children-untried : (id : ℕ) (past : List Item) → is_attempted past id ≡ false → list_any (λ child. is_of_record id child.purpose) (children past) ≡ false
children-untried id [] e = refl
children-untried id (item ∷ past) e =
    let parts = or_parts (is_attempt_for id (attempt_of item.event)) (is_attempted past id) e in
    list_any-append (λ (child : Child). is_of_record id child.purpose) (children past) (begun_by item.event)
    ∙ or_from (list_any (λ (child : Child). is_of_record id child.purpose) (children past)) (list_any (λ (child : Child). is_of_record id child.purpose) (begun_by item.event))
    (children-untried id past parts.1) (begun_by-untried id item.event parts.0)

child-other : (id : ℕ) (past : List Item) → is_attempted past id ≡ false → (child : Child) → Contains (children past) child → (is_open_of id child.purpose ≡ false) × (is_close_of id child.purpose ≡ false)
child-other id past e child m =
    or_parts (is_open_of id child.purpose) (is_close_of id child.purpose) (list_any-none (λ (c : Child). is_of_record id c.purpose) (children past) (children-untried id past e) child m)

open-untried : (id : ℕ) (past : List Item) → is_attempted past id ≡ false → open_runs past id ≡ false
open-untried id past e =
    false_from_ne_true (open_runs past id) (λ runs.
    let some = list_any-at (λ (child : Child). is_open_of id child.purpose) (running past) runs in
    let other = child-other id past e some.0 (running-children past some.0 some.1) in
    absurd (let no = other.0 in let yes = some.2 in cc))

found-none : {X : Type 0} (o : Option X) → (is_some o ≡ true → ⊥) → o ≡ None
found-none None h = refl
found-none (Some x) h = absurd (h refl)

close-untried : (id : ℕ) (past : List Item) → is_attempted past id ≡ false → find (λ child. is_close_of id child.purpose) (running past) ≡ None
close-untried id past e =
    found-none (find (λ child. is_close_of id child.purpose) (running past)) (λ found.
    let some = list_any-at (λ (child : Child). is_close_of id child.purpose) (running past) (list_any-find (λ (child : Child). is_close_of id child.purpose) (running past) ∙ found) in
    let other = child-other id past e some.0 (running-children past some.0 some.1) in
    absurd (let no = other.1 in let yes = some.2 in cc))

is_close_child-found : (id : ℕ) (q : Child → Bool) (cs : List Child) → ((child : Child) → Contains cs child → is_close_of id child.purpose ≡ false) → is_close_child id (find q cs) ≡ false
is_close_child-found id q [] h = refl
is_close_child-found id q (c ∷ cs) h =
    let ih = is_close_child-found id q cs (λ child m. h child (Contains-tail c cs child m)) in
    let here = h c (Contains-head c cs) in
    elim (q c) as (λ b. is_close_child id (cond b (Some c) (find q cs)) ≡ false) [ true ↦ here | false ↦ ih ]

close_end-untried : (id : ℕ) (event : Event) (past : List Item) (ends : List ℕ) → is_attempted past id ≡ false → close_end id event past ends ≡ None
close_end-untried id (Turn number) past ends e = refl
close_end-untried id (Began number purpose words) past ends e = refl
close_end-untried id (StartFailed purpose words) past ends e = refl
close_end-untried id (Ended number good) past ends e =
    let other = is_close_child-found id (λ child. child.number == number) (children past) (λ child m. (child-other id past e child m).1) in
    rw other refl
close_end-untried id (Runs number) past ends e = refl
close_end-untried id (PollFailed number) past ends e = refl

last-untried : (id : ℕ) (past : List Item) (ends : List ℕ) → is_attempted past id ≡ false → last_close past ends id ≡ None
last-untried id [] ends e = refl
last-untried id (item ∷ past) ends e =
    let parts = or_parts (is_attempt_for id (attempt_of item.event)) (is_attempted past id) e in
    rw (close_end-untried id item.event past ends parts.1) (last-untried id past (moments_before item.event ends) parts.1)

tried-after : (id : ℕ) (event : Event) (past : List Item) (moments faults : ℕ) → is_attempt_for id (attempt_of event) ≡ false → close_tried past id ≡ false → close_tried (record { event = event; moments = moments; faults = faults } ∷ past) id ≡ false
tried-after id (Turn number) past moments faults e h = refl
tried-after id (Began number purpose words) past moments faults e h = or_from (is_close_of id purpose) (close_tried past id) (or_parts (is_open_of id purpose) (is_close_of id purpose) e).1 h
tried-after id (StartFailed purpose words) past moments faults e h = or_from (is_close_of id purpose) (close_tried past id) (or_parts (is_open_of id purpose) (is_close_of id purpose) e).1 h
tried-after id (Ended number good) past moments faults e h = h
tried-after id (Runs number) past moments faults e h = h
tried-after id (PollFailed number) past moments faults e h = h

tried-untried : (id : ℕ) (past : List Item) → is_attempted past id ≡ false → close_tried past id ≡ false
tried-untried id [] e = refl
tried-untried id (item ∷ past) e =
    let parts = or_parts (is_attempt_for id (attempt_of item.event)) (is_attempted past id) e in
    tried-after id item.event past item.moments item.faults parts.0 (tried-untried id past parts.1)

pub kept_of-opened : (past : List Item) (ends : List ℕ) (id due : ℕ) → is_attempted past id ≡ false → kept_of past ends (record { id = id; due = due }) ≡ fresh id due
kept_of-opened past ends id due e =
    let opens = open-untried id past e in
    let closes = ap (λ o. option_map (λ (child : Child). is_clean past child.number id) o) (close-untried id past e) in
    let last = last-untried id past ends e in
    let tried = tried-untried id past e in
    cc
