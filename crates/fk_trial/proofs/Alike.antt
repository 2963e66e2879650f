-- What is read off the past of a place depends on the events of its items alone, and not on the counts that they carry.
use Rattle.std.proofs.Common.{◌≡◌, ℕ, ◌==◌, if◌then◌else◌, find, Bool, not, List, [], ◌∷◌, ◌++◌, map, Option, Some, None, refl, ap, ◌∙◌}
use Rattle.std.specs.List.{AllZip, cons_option, list_any}
use Rattle.fk_base.specs.declared.purpose.Purpose.{Purpose}
use Rattle.fk_base.specs.declared.purpose.Purpose.TheVariants.{Open, Close}
use Rattle.fk_trace.specs.declared.change.Change.TheVariants.{Done}
use Rattle.fk_trace.specs.Trace.{Event, Item, Child, begun_by, children, running, still_running, past_after, attempt_of, open_runs, close_runs, is_open_of, is_close_of}
use Rattle.fk_trace.specs.Trace.Event.{Turn, Began, StartFailed, Ended, Runs, PollFailed}
use Rattle.fk_trace.specs.Idle.{End, child_numbered, is_clean, is_idle, close_end, last_close, moments_before, or_else, begins, first_moment, is_close_child, moments_with, ends_after}
use Rattle.fk_trace.specs.Settled.{settled_by, settled_by_child, settled_at, settled_in, settlements}
use Rattle.fk_log.specs.Line.{Line}
use Rattle.fk_log.specs.Line.Line.{EndedLine, PollFailedLine}
use Rattle.fk_log.specs.Log.{child_line, poll_line, poll_lines, attempt_line, attempt_lines}

-- the same events, one after another
abbrev pub Alike : List Item → List Item → Type 0
Alike xs ys = AllZip (λ x y. x.event ≡ y.event) xs ys

pub alike-append : (a b c d : List Item) → Alike a b → Alike c d → Alike (a ++ c) (b ++ d)
alike-append [] [] c d first later = later
alike-append [] (y ∷ b) c d first later = absurd first
alike-append (x ∷ a) [] c d first later = absurd first
alike-append (x ∷ a) (y ∷ b) c d first later = (first.0, alike-append a b c d first.1 later)

pub alike-past : (p q a b : List Item) → Alike p q → Alike a b → Alike (past_after p a) (past_after q b)
alike-past p q [] [] past items = past
alike-past p q [] (y ∷ b) past items = absurd items
alike-past p q (x ∷ a) [] past items = absurd items
alike-past p q (x ∷ a) (y ∷ b) past items = alike-past (x ∷ p) (y ∷ q) a b (items.0, past) items.1

pub same-children : (p q : List Item) → Alike p q → children p ≡ children q
same-children [] [] alike = refl
same-children [] (y ∷ q) alike = absurd alike
same-children (x ∷ p) [] alike = absurd alike
same-children (x ∷ p) (y ∷ q) alike =
    ap (λ (event : Event). children p ++ begun_by event) alike.0 ∙ ap (λ (cs : List Child). cs ++ begun_by y.event) (same-children p q alike.1)

pub same-running : (p q : List Item) → Alike p q → running p ≡ running q
same-running [] [] alike = refl
same-running [] (y ∷ q) alike = absurd alike
same-running (x ∷ p) [] alike = absurd alike
same-running (x ∷ p) (y ∷ q) alike =
    ap (λ (event : Event). still_running event (running p) ++ begun_by event) alike.0
    ∙ ap (λ (cs : List Child). still_running y.event cs ++ begun_by y.event) (same-running p q alike.1)

same-numbered : (number : ℕ) (p q : List Item) → Alike p q → child_numbered number p ≡ child_numbered number q
same-numbered number p q alike = ap (λ (cs : List Child). find (λ child. child.number == number) cs) (same-children p q alike)

same-open_runs : (id : ℕ) (p q : List Item) → Alike p q → open_runs p id ≡ open_runs q id
same-open_runs id p q alike = ap (λ (cs : List Child). list_any (λ child. is_open_of id child.purpose) cs) (same-running p q alike)

same-close_runs : (id : ℕ) (p q : List Item) → Alike p q → close_runs p id ≡ close_runs q id
same-close_runs id p q alike = ap (λ (cs : List Child). list_any (λ child. is_close_of id child.purpose) cs) (same-running p q alike)

same-clean : (number id : ℕ) (p q : List Item) → Alike p q → is_clean p number id ≡ is_clean q number id
same-clean number id [] [] alike = refl
same-clean number id [] (y ∷ q) alike = absurd alike
same-clean number id (x ∷ p) [] alike = absurd alike
same-clean number id (x ∷ p) (y ∷ q) alike =
    ap (λ (event : Event). if begins number event then not (open_runs p id) else is_clean p number id) alike.0
    ∙ ap (λ (runs : Bool). if begins number y.event then not runs else is_clean p number id) (same-open_runs id p q alike.1)
    ∙ ap (λ (clean : Bool). if begins number y.event then not (open_runs q id) else clean) (same-clean number id p q alike.1)

same-settled_by : (p q : List Item) (number : ℕ) (child : Option Child) → Alike p q → settled_by_child p number child ≡ settled_by_child q number child
same-settled_by p q number None alike = refl
same-settled_by p q number (Some child) alike = by_purpose child.purpose
  where
    by_purpose : (purpose : Purpose) → settled_by p number purpose ≡ settled_by q number purpose
    by_purpose (Open id) = refl
    by_purpose (Close id) = ap (λ (clean : Bool). if clean then Some id else None) (same-clean number id p q alike)

same-settled_at : (event : Event) (p q : List Item) → Alike p q → settled_at p event ≡ settled_at q event
same-settled_at (Turn number) p q alike = refl
same-settled_at (Began number purpose words) p q alike = refl
same-settled_at (StartFailed purpose words) p q alike = refl
same-settled_at (Ended number good) p q alike =
    ap (λ (settled : Option ℕ). if good then settled else None)
    (ap (λ (child : Option Child). settled_by_child p number child) (same-numbered number p q alike) ∙ same-settled_by p q number (child_numbered number q) alike)
same-settled_at (Runs number) p q alike = refl
same-settled_at (PollFailed number) p q alike = refl

same-settled_in : (p q a b : List Item) → Alike p q → Alike a b → settled_in p a ≡ settled_in q b
same-settled_in p q [] [] past items = refl
same-settled_in p q [] (y ∷ b) past items = absurd items
same-settled_in p q (x ∷ a) [] past items = absurd items
same-settled_in p q (x ∷ a) (y ∷ b) past items =
    ap (λ (event : Event). cons_option (settled_at p event) (settled_in (x ∷ p) a)) items.0
    ∙ ap (λ (settled : Option ℕ). cons_option settled (settled_in (x ∷ p) a)) (same-settled_at y.event p q past)
    ∙ ap (cons_option (settled_at q y.event)) (same-settled_in (x ∷ p) (y ∷ q) a b (items.0, past) items.1)

pub same-settlements : (p q a b : List Item) → Alike p q → Alike a b → settlements p a ≡ settlements q b
same-settlements p q a b past items = ap (map Done) (same-settled_in p q a b past items)

same-close_end : (id : ℕ) (event : Event) (p q : List Item) (ends : List ℕ) → Alike p q → close_end id event p ends ≡ close_end id event q ends
same-close_end id (Turn number) p q ends alike = refl
same-close_end id (Began number purpose words) p q ends alike = refl
same-close_end id (StartFailed purpose words) p q ends alike = refl
same-close_end id (Ended number good) p q ends alike =
    ap (λ (child : Option Child). if is_close_child id child then Some (record { good = good; moment = first_moment ends }) else None) (same-numbered number p q alike)
same-close_end id (Runs number) p q ends alike = refl
same-close_end id (PollFailed number) p q ends alike = refl

same-last_close : (id : ℕ) (p q : List Item) (ends : List ℕ) → Alike p q → last_close p ends id ≡ last_close q ends id
same-last_close id [] [] ends alike = refl
same-last_close id [] (y ∷ q) ends alike = absurd alike
same-last_close id (x ∷ p) [] ends alike = absurd alike
same-last_close id (x ∷ p) (y ∷ q) ends alike =
    ap (λ (event : Event). or_else (close_end id event p ends) (last_close p (moments_before event ends) id)) alike.0
    ∙ ap (λ (end : Option End). or_else end (last_close p (moments_before y.event ends) id)) (same-close_end id y.event p q ends alike.1)
    ∙ ap (or_else (close_end id y.event q ends)) (same-last_close id p q (moments_before y.event ends) alike.1)

pub same-idle : (p q : List Item) (ends : List ℕ) (moment id : ℕ) → Alike p q → is_idle p ends moment id ≡ is_idle q ends moment id
same-idle p q ends moment id alike =
    let closes = same-close_runs id p q alike in
    let opens = same-open_runs id p q alike in
    let last = same-last_close id p q ends alike in
    cc

pub same-ends : (moment : ℕ) (ends : List ℕ) (a b : List Item) → Alike a b → ends_after moment ends a ≡ ends_after moment ends b
same-ends moment ends [] [] alike = refl
same-ends moment ends [] (y ∷ b) alike = absurd alike
same-ends moment ends (x ∷ a) [] alike = absurd alike
same-ends moment ends (x ∷ a) (y ∷ b) alike =
    ap (λ (event : Event). ends_after moment (moments_with moment event ends) a) alike.0 ∙ same-ends moment (moments_with moment y.event ends) a b alike.1

same-poll_line : (moment : ℕ) (event : Event) (p q : List Item) → Alike p q → poll_line moment p event ≡ poll_line moment q event
same-poll_line moment (Turn number) p q alike = refl
same-poll_line moment (Began number purpose words) p q alike = refl
same-poll_line moment (StartFailed purpose words) p q alike = refl
same-poll_line moment (Ended number good) p q alike = ap (child_line (λ purpose. EndedLine moment purpose good)) (same-numbered number p q alike)
same-poll_line moment (Runs number) p q alike = refl
same-poll_line moment (PollFailed number) p q alike = ap (child_line (λ purpose. PollFailedLine moment purpose)) (same-numbered number p q alike)

pub same-poll_lines : (moment : ℕ) (p q a b : List Item) → Alike p q → Alike a b → poll_lines moment p a ≡ poll_lines moment q b
same-poll_lines moment p q [] [] past items = refl
same-poll_lines moment p q [] (y ∷ b) past items = absurd items
same-poll_lines moment p q (x ∷ a) [] past items = absurd items
same-poll_lines moment p q (x ∷ a) (y ∷ b) past items =
    ap (λ (event : Event). cons_option (poll_line moment p event) (poll_lines moment (x ∷ p) a)) items.0
    ∙ ap (λ (line : Option Line). cons_option line (poll_lines moment (x ∷ p) a)) (same-poll_line moment y.event p q past)
    ∙ ap (cons_option (poll_line moment q y.event)) (same-poll_lines moment (x ∷ p) (y ∷ q) a b (items.0, past) items.1)

pub same-attempt_lines : (moment : ℕ) (a b : List Item) → Alike a b → attempt_lines moment a ≡ attempt_lines moment b
same-attempt_lines moment [] [] alike = refl
same-attempt_lines moment [] (y ∷ b) alike = absurd alike
same-attempt_lines moment (x ∷ a) [] alike = absurd alike
same-attempt_lines moment (x ∷ a) (y ∷ b) alike =
    ap (λ (event : Event). cons_option (attempt_line moment (attempt_of event)) (attempt_lines moment a)) alike.0
    ∙ ap (cons_option (attempt_line moment (attempt_of y.event))) (same-attempt_lines moment a b alike.1)

pub same-events : (a b : List Item) → Alike a b → map (λ item. item.event) a ≡ map (λ item. item.event) b
same-events [] [] alike = refl
same-events [] (y ∷ b) alike = absurd alike
same-events (x ∷ a) [] alike = absurd alike
same-events (x ∷ a) (y ∷ b) alike =
    ap (λ (event : Event). event ∷ map (λ (item : Item). item.event) a) alike.0 ∙ ap (λ (events : List Event). y.event ∷ events) (same-events a b alike.1)
