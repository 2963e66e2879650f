-- What polls and attempts are, and are not.
use Rattle.std.proofs.Common.{◌≡◌, ℕ, Bool, true, false, ◌||◌, List, [], ◌∷◌, ◌++◌, Option, Some, None, refl, sym, ap, ◌∙◌}
use Rattle.std.specs.Prelude.{is_some}
use Rattle.std.specs.List.{AllByRecursion, AllZip, cons_option}
use Rattle.fk_base.specs.declared.purpose.Purpose.{Purpose}
use Rattle.fk_base.specs.declared.purpose.Purpose.TheVariants.{Open}
use Rattle.fk_trace.specs.Trace.{Event, Item, Child, attempt_of, is_turn, is_close_attempt_of, close_tried, past_after, close_attempted}
use Rattle.fk_trace.specs.Trace.Event.{Turn, Began, StartFailed, Ended, Runs, PollFailed}
use Rattle.fk_trace.specs.Decision.{Answer}
use Rattle.fk_trace.specs.Decision.Answer.{Nothing, Refuses, Opens}
use Rattle.fk_trace.specs.Settled.{settled_at, settled_in}
use Rattle.fk_trace.specs.Attempts.{IsPollOf, IsAttempt, AttemptsThatOpen, IsNoAttempt, IsNoPoll}
use Rattle.fk_trace.specs.Idle.{moments_with, ends_after}
use Rattle.fk_run.specs.Left.{is_attempt}
use Rattle.fk_log.specs.Log.{poll_line, poll_lines, attempt_lines}

is-attempt : (purpose : Purpose) (words : List (List ℕ)) (event : Event) → IsAttempt purpose words event → is_attempt event ≡ true
is-attempt purpose words (Turn number) h = absurd h
is-attempt purpose words (Began number other others) h = refl
is-attempt purpose words (StartFailed other others) h = refl
is-attempt purpose words (Ended number good) h = absurd h
is-attempt purpose words (Runs number) h = absurd h
is-attempt purpose words (PollFailed number) h = absurd h

-- the item is an attempt
abbrev pub Tries : Item → Type 0
Tries item = (purpose : Purpose) × (words : List (List ℕ)) × IsAttempt purpose words item.event

-- the item is a poll
abbrev pub Polls : Item → Type 0
Polls item = (child : Child) × IsPollOf child item.event

attempt-settles : (purpose : Purpose) (words : List (List ℕ)) (event : Event) (past : List Item) → IsAttempt purpose words event → settled_at past event ≡ None
attempt-settles purpose words (Turn number) past h = absurd h
attempt-settles purpose words (Began number other others) past h = refl
attempt-settles purpose words (StartFailed other others) past h = refl
attempt-settles purpose words (Ended number good) past h = absurd h
attempt-settles purpose words (Runs number) past h = absurd h
attempt-settles purpose words (PollFailed number) past h = absurd h

attempt-no_poll : (purpose : Purpose) (words : List (List ℕ)) (event : Event) → IsAttempt purpose words event → IsNoPoll event
attempt-no_poll purpose words (Turn number) h = absurd h
attempt-no_poll purpose words (Began number other others) h = tt
attempt-no_poll purpose words (StartFailed other others) h = tt
attempt-no_poll purpose words (Ended number good) h = absurd h
attempt-no_poll purpose words (Runs number) h = absurd h
attempt-no_poll purpose words (PollFailed number) h = absurd h

attempt-line : (purpose : Purpose) (words : List (List ℕ)) (event : Event) (moment : ℕ) (past : List Item) → IsAttempt purpose words event → poll_line moment past event ≡ None
attempt-line purpose words (Turn number) moment past h = absurd h
attempt-line purpose words (Began number other others) moment past h = refl
attempt-line purpose words (StartFailed other others) moment past h = refl
attempt-line purpose words (Ended number good) moment past h = absurd h
attempt-line purpose words (Runs number) moment past h = absurd h
attempt-line purpose words (PollFailed number) moment past h = absurd h

attempt-ends : (purpose : Purpose) (words : List (List ℕ)) (event : Event) (moment : ℕ) (ends : List ℕ) → IsAttempt purpose words event → moments_with moment event ends ≡ ends
attempt-ends purpose words (Turn number) moment ends h = absurd h
attempt-ends purpose words (Began number other others) moment ends h = refl
attempt-ends purpose words (StartFailed other others) moment ends h = refl
attempt-ends purpose words (Ended number good) moment ends h = absurd h
attempt-ends purpose words (Runs number) moment ends h = absurd h
attempt-ends purpose words (PollFailed number) moment ends h = absurd h

attempt-no_turn : (purpose : Purpose) (words : List (List ℕ)) (event : Event) → IsAttempt purpose words event → is_turn event ≡ false
attempt-no_turn purpose words (Turn number) h = absurd h
attempt-no_turn purpose words (Began number other others) h = refl
attempt-no_turn purpose words (StartFailed other others) h = refl
attempt-no_turn purpose words (Ended number good) h = absurd h
attempt-no_turn purpose words (Runs number) h = absurd h
attempt-no_turn purpose words (PollFailed number) h = absurd h

open-no_close : (id other : ℕ) (words : List (List ℕ)) (event : Event) → IsAttempt (Open other) words event → is_close_attempt_of id event ≡ false
open-no_close id other words (Turn number) h = absurd h
open-no_close id other words (Began number purpose others) h = ap (λ (p : Purpose). is_close_attempt_of id (Began number p others)) h.0
open-no_close id other words (StartFailed purpose others) h = ap (λ (p : Purpose). is_close_attempt_of id (StartFailed p others)) h.0
open-no_close id other words (Ended number good) h = absurd h
open-no_close id other words (Runs number) h = absurd h
open-no_close id other words (PollFailed number) h = absurd h

poll-none : (child : Child) (event : Event) → IsPollOf child event → attempt_of event ≡ None
poll-none child (Turn number) h = absurd h
poll-none child (Began number purpose words) h = absurd h
poll-none child (StartFailed purpose words) h = absurd h
poll-none child (Ended number good) h = refl
poll-none child (Runs number) h = refl
poll-none child (PollFailed number) h = refl

poll-no_close : (child : Child) (event : Event) (id : ℕ) → IsPollOf child event → is_close_attempt_of id event ≡ false
poll-no_close child (Turn number) id h = absurd h
poll-no_close child (Began number purpose words) id h = absurd h
poll-no_close child (StartFailed purpose words) id h = absurd h
poll-no_close child (Ended number good) id h = refl
poll-no_close child (Runs number) id h = refl
poll-no_close child (PollFailed number) id h = refl

poll-no_turn : (child : Child) (event : Event) → IsPollOf child event → is_turn event ≡ false
poll-no_turn child (Turn number) h = absurd h
poll-no_turn child (Began number purpose words) h = absurd h
poll-no_turn child (StartFailed purpose words) h = absurd h
poll-no_turn child (Ended number good) h = refl
poll-no_turn child (Runs number) h = refl
poll-no_turn child (PollFailed number) h = refl

poll-no_attempt : (child : Child) (event : Event) → IsPollOf child event → IsNoAttempt event
poll-no_attempt child (Turn number) h = absurd h
poll-no_attempt child (Began number purpose words) h = absurd h
poll-no_attempt child (StartFailed purpose words) h = absurd h
poll-no_attempt child (Ended number good) h = tt
poll-no_attempt child (Runs number) h = tt
poll-no_attempt child (PollFailed number) h = tt

-- the same of lists
pub tries-settle : (past items : List Item) → AllByRecursion Tries items → settled_in past items ≡ []
tries-settle past [] h = refl
tries-settle past (item ∷ items) h = rw (attempt-settles h.0.0 h.0.1 item.event past h.0.2) (tries-settle (item ∷ past) items h.1)

pub tries-lines : (moment : ℕ) (past items : List Item) → AllByRecursion Tries items → poll_lines moment past items ≡ []
tries-lines moment past [] h = refl
tries-lines moment past (item ∷ items) h = rw (attempt-line h.0.0 h.0.1 item.event moment past h.0.2) (tries-lines moment (item ∷ past) items h.1)

pub tries-ends : (moment : ℕ) (ends : List ℕ) (items : List Item) → AllByRecursion Tries items → ends_after moment ends items ≡ ends
tries-ends moment ends [] h = refl
tries-ends moment ends (item ∷ items) h = rw (attempt-ends h.0.0 h.0.1 item.event moment ends h.0.2) (tries-ends moment ends items h.1)

pub tries-no_polls : (items : List Item) → AllByRecursion Tries items → AllByRecursion (λ item. IsNoPoll item.event) items
tries-no_polls [] h = tt
tries-no_polls (item ∷ items) h = (attempt-no_poll h.0.0 h.0.1 item.event h.0.2, tries-no_polls items h.1)

pub tries-no_turns : (items : List Item) → AllByRecursion Tries items → AllByRecursion (λ item. is_turn item.event ≡ false) items
tries-no_turns [] h = tt
tries-no_turns (item ∷ items) h = (attempt-no_turn h.0.0 h.0.1 item.event h.0.2, tries-no_turns items h.1)

pub polls-lines : (moment : ℕ) (items : List Item) → AllByRecursion Polls items → attempt_lines moment items ≡ []
polls-lines moment [] h = refl
polls-lines moment (item ∷ items) h = rw (poll-none h.0.0 item.event h.0.1) (polls-lines moment items h.1)

pub polls-no_attempts : (items : List Item) → AllByRecursion Polls items → AllByRecursion (λ item. IsNoAttempt item.event) items
polls-no_attempts [] h = tt
polls-no_attempts (item ∷ items) h = (poll-no_attempt h.0.0 item.event h.0.1, polls-no_attempts items h.1)

pub polls-no_turns : (items : List Item) → AllByRecursion Polls items → AllByRecursion (λ item. is_turn item.event ≡ false) items
polls-no_turns [] h = tt
polls-no_turns (item ∷ items) h = (poll-no_turn h.0.0 item.event h.0.1, polls-no_turns items h.1)

pub polls-close_none : (id : ℕ) (items : List Item) → AllByRecursion Polls items → close_attempted items id ≡ false
polls-close_none id [] h = refl
polls-close_none id (item ∷ items) h = rw (poll-no_close h.0.0 item.event id h.0.1) (polls-close_none id items h.1)

pub polled-polls : (order : List Child) (items : List Item) → AllZip (λ child item. IsPollOf child item.event) order items → AllByRecursion Polls items
polled-polls [] [] h = tt
polled-polls [] (item ∷ items) h = absurd h
polled-polls (child ∷ order) [] h = absurd h
polled-polls (child ∷ order) (item ∷ items) h = ((child, h.0), polled-polls order items h.1)

pub opened-tries : (given : Answer) (items : List Item) → AttemptsThatOpen given items → AllByRecursion Tries items
opened-tries Nothing items h = rw h tt
opened-tries (Refuses why) items h = rw h tt
opened-tries (Opens item permit changes) [] h = absurd h
opened-tries (Opens item permit changes) (x ∷ []) h = ((Open item.id, permit.opening, h), tt)
opened-tries (Opens item permit changes) (x ∷ y ∷ items) h = absurd h

pub opened-close_none : (id : ℕ) (given : Answer) (items : List Item) → AttemptsThatOpen given items → close_attempted items id ≡ false
opened-close_none id Nothing items h = rw h refl
opened-close_none id (Refuses why) items h = rw h refl
opened-close_none id (Opens item permit changes) [] h = absurd h
opened-close_none id (Opens item permit changes) (x ∷ []) h = rw (open-no_close id item.id permit.opening x.event h) refl
opened-close_none id (Opens item permit changes) (x ∷ y ∷ items) h = absurd h

-- lists that are joined
pub all-joined : (P : Item → Type 0) (a b : List Item) → AllByRecursion P a → AllByRecursion P b → AllByRecursion P (a ++ b)
all-joined P [] b h k = k
all-joined P (x ∷ a) b h k = (h.0, all-joined P a b h.1 k)

cons_option-append : {X : Type 0} (o : Option X) (xs ys : List X) → cons_option o (xs ++ ys) ≡ cons_option o xs ++ ys
cons_option-append None xs ys = refl
cons_option-append (Some x) xs ys = refl

pub poll_lines-append : (moment : ℕ) (past a b : List Item) → poll_lines moment past (a ++ b) ≡ poll_lines moment past a ++ poll_lines moment (past_after past a) b
poll_lines-append moment past [] b = refl
poll_lines-append moment past (x ∷ a) b =
    ap (cons_option (poll_line moment past x.event)) (poll_lines-append moment (x ∷ past) a b)
    ∙ cons_option-append (poll_line moment past x.event) (poll_lines moment (x ∷ past) a) (poll_lines moment (past_after (x ∷ past) a) b)

pub ends_after-append : (moment : ℕ) (ends : List ℕ) (a b : List Item) → ends_after moment ends (a ++ b) ≡ ends_after moment (ends_after moment ends a) b
ends_after-append moment ends [] b = refl
ends_after-append moment ends (item ∷ a) b = ends_after-append moment (moments_with moment item.event ends) a b

-- what was tried since the last turn is what is found among the items behind it
pub tried-after : (id : ℕ) (items past : List Item) → AllByRecursion (λ item. is_turn item.event ≡ false) items
    → close_tried (past_after past items) id ≡ close_attempted items id || close_tried past id
tried-after id [] past h = refl
tried-after id (item ∷ items) past h =
    tried-after id items (item ∷ past) h.1
    ∙ rw h.0 (turned (is_close_attempt_of id item.event) (close_attempted items id) (close_tried past id))
  where
    turned : (a b c : Bool) → b || (a || c) ≡ (a || b) || c
    turned true true c = refl
    turned true false c = refl
    turned false true c = refl
    turned false false c = refl

-- a close of which none is tried since the last turn is not among the items behind it
pub tried-none : (id : ℕ) (items past : List Item) → AllByRecursion (λ item. is_turn item.event ≡ false) items
    → close_tried (past_after past items) id ≡ false → close_attempted items id ≡ false
tried-none id items past h none = first (close_attempted items id) (close_tried past id) (sym (tried-after id items past h) ∙ none)
  where
    first : (a b : Bool) → a || b ≡ false → a ≡ false
    first true b e = e
    first false b e = refl

-- polls are no attempts, and attempts are
pub polls-others : (items : List Item) → AllByRecursion Polls items → AllByRecursion (λ item. is_attempt item.event ≡ false) items
polls-others [] h = tt
polls-others (item ∷ items) h = (ap is_some (poll-none h.0.0 item.event h.0.1), polls-others items h.1)

pub tries-attempts : (items : List Item) → AllByRecursion Tries items → AllByRecursion (λ item. is_attempt item.event ≡ true) items
tries-attempts [] h = tt
tries-attempts (item ∷ items) h = (is-attempt h.0.0 h.0.1 item.event h.0.2, tries-attempts items h.1)
