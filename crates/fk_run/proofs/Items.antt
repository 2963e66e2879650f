-- What polls and attempts are, and are not: which of them begin a turn, attempt an open or a close, settle or end anything.
use Rattle.std.proofs.Common.{◌≡◌, ◌≢◌, ℕ, ◌+◌, suc, Bool, true, false, not, ◌||◌, ◌&&◌, List, [], ◌∷◌, ◌++◌, Option, None, refl, sym, ap, ◌∙◌, subst, arith, append-nil}
use Rattle.std.specs.Prelude.{cond, IsTrue}
use Rattle.std.specs.List.{list_any, AllByRecursion, AllZip, Contains}
use Rattle.std.proofs.lemmas.List.Elements.{filter_map-append}
use Rattle.std.proofs.lemmas.List.Folds.{list_any-append}
use Rattle.std.proofs.lemmas.List.Sums.{sum_by-append}
use Rattle.std.proofs.lemmas.Bool.{ne_eqb}
use Rattle.fk_base.specs.declared.purpose.Purpose.{Purpose}
use Rattle.fk_base.specs.declared.purpose.Purpose.TheVariants.{Open, Close}
use Rattle.fk_trace.specs.declared.change.OpenRecord.{OpenRecord}
use Rattle.fk_trace.specs.Trace.{Event, Item, Child, attempt_of, is_turn, is_open_of, is_close_of, is_close_attempt_of, close_attempted, past_after, running, open_runs, close_runs}
use Rattle.fk_trace.specs.Trace.Event.{Turn, Began, StartFailed, Ended, Runs, PollFailed}
use Rattle.fk_trace.specs.Idle.{End, moments_with, ends_after, last_close, ended_well, rests, is_idle}
use Rattle.fk_trace.specs.Settled.{settled_at}
use Rattle.fk_trace.specs.Attempts.{IsPollOf, IsAttempt, IsNoAttempt, IsNoPoll}
use Rattle.fk_trace.proofs.Lists.{Contains-head, Contains-tail}
use Rattle.fk_trace.proofs.Settled.{SettlesNothing}
use Rattle.fk_run.specs.Headline.{turns_begun, opened_for, opened_by_attempt, opens_attempted}

-- the item is an attempt
abbrev pub Tries : Item → Type 0
Tries item = (purpose : Purpose) × (words : List (List ℕ)) × IsAttempt purpose words item.event

-- the item is a poll
abbrev pub Polls : Item → Type 0
Polls item = (child : Child) × IsPollOf child item.event

pub poll-no_turn : (child : Child) (event : Event) → IsPollOf child event → is_turn event ≡ false
poll-no_turn child (Turn number) h = absurd h
poll-no_turn child (Began number purpose words) h = absurd h
poll-no_turn child (StartFailed purpose words) h = absurd h
poll-no_turn child (Ended number good) h = refl
poll-no_turn child (Runs number) h = refl
poll-no_turn child (PollFailed number) h = refl

poll-none : (child : Child) (event : Event) → IsPollOf child event → attempt_of event ≡ None
poll-none child (Turn number) h = absurd h
poll-none child (Began number purpose words) h = absurd h
poll-none child (StartFailed purpose words) h = absurd h
poll-none child (Ended number good) h = refl
poll-none child (Runs number) h = refl
poll-none child (PollFailed number) h = refl

poll-no_close : (id : ℕ) (child : Child) (event : Event) → IsPollOf child event → is_close_attempt_of id event ≡ false
poll-no_close id child (Turn number) h = refl
poll-no_close id child (Began number purpose words) h = absurd h
poll-no_close id child (StartFailed purpose words) h = absurd h
poll-no_close id child (Ended number good) h = refl
poll-no_close id child (Runs number) h = refl
poll-no_close id child (PollFailed number) h = refl

pub attempt-no_turn : (purpose : Purpose) (words : List (List ℕ)) (event : Event) → IsAttempt purpose words event → is_turn event ≡ false
attempt-no_turn purpose words (Turn number) h = absurd h
attempt-no_turn purpose words (Began number other others) h = refl
attempt-no_turn purpose words (StartFailed other others) h = refl
attempt-no_turn purpose words (Ended number good) h = absurd h
attempt-no_turn purpose words (Runs number) h = absurd h
attempt-no_turn purpose words (PollFailed number) h = absurd h

-- an attempt is no poll, and what starts nothing is no attempt
pub attempt-no_poll : (child : Child) (purpose : Purpose) (words : List (List ℕ)) (event : Event) → IsAttempt purpose words event → IsPollOf child event → ⊥
attempt-no_poll child purpose words (Turn number) h p = h
attempt-no_poll child purpose words (Began number other others) h p = p
attempt-no_poll child purpose words (StartFailed other others) h p = p
attempt-no_poll child purpose words (Ended number good) h p = h
attempt-no_poll child purpose words (Runs number) h p = h
attempt-no_poll child purpose words (PollFailed number) h p = h

pub no_attempt : (purpose : Purpose) (words : List (List ℕ)) (event : Event) → IsAttempt purpose words event → IsNoAttempt event → ⊥
no_attempt purpose words (Turn number) h n = h
no_attempt purpose words (Began number other others) h n = n
no_attempt purpose words (StartFailed other others) h n = n
no_attempt purpose words (Ended number good) h n = h
no_attempt purpose words (Runs number) h n = h
no_attempt purpose words (PollFailed number) h n = h

-- it attempts what it is for, and one thing alone
pub attempt-opens : (purpose : Purpose) (words : List (List ℕ)) (event : Event) → IsAttempt purpose words event → opened_by_attempt (attempt_of event) ≡ opened_for purpose
attempt-opens purpose words (Turn number) h = absurd h
attempt-opens purpose words (Began number other others) h = ap opened_for h.0
attempt-opens purpose words (StartFailed other others) h = ap opened_for h.0
attempt-opens purpose words (Ended number good) h = absurd h
attempt-opens purpose words (Runs number) h = absurd h
attempt-opens purpose words (PollFailed number) h = absurd h

pub attempts-same : (purpose other : Purpose) (words others : List (List ℕ)) (event : Event) → IsAttempt purpose words event → IsAttempt other others event → (purpose ≡ other) × (words ≡ others)
attempts-same purpose other words others (Turn number) h g = absurd h
attempts-same purpose other words others (Began number p w) h g = (sym h.0 ∙ g.0, sym h.1 ∙ g.1)
attempts-same purpose other words others (StartFailed p w) h g = (sym h.0 ∙ g.0, sym h.1 ∙ g.1)
attempts-same purpose other words others (Ended number good) h g = absurd h
attempts-same purpose other words others (Runs number) h g = absurd h
attempts-same purpose other words others (PollFailed number) h g = absurd h

open-no_close : (id opened : ℕ) (words : List (List ℕ)) (event : Event) → IsAttempt (Open opened) words event → is_close_attempt_of id event ≡ false
open-no_close id opened words (Turn number) h = refl
open-no_close id opened words (Began number other others) h = ap (is_close_of id) h.0
open-no_close id opened words (StartFailed other others) h = ap (is_close_of id) h.0
open-no_close id opened words (Ended number good) h = refl
open-no_close id opened words (Runs number) h = refl
open-no_close id opened words (PollFailed number) h = refl

-- it settles and ends nothing
attempt-settles_none : (purpose : Purpose) (words : List (List ℕ)) (event : Event) → IsAttempt purpose words event → (past : List Item) → settled_at past event ≡ None
attempt-settles_none purpose words (Turn number) h past = absurd h
attempt-settles_none purpose words (Began number other others) h past = refl
attempt-settles_none purpose words (StartFailed other others) h past = refl
attempt-settles_none purpose words (Ended number good) h past = absurd h
attempt-settles_none purpose words (Runs number) h past = absurd h
attempt-settles_none purpose words (PollFailed number) h past = absurd h

attempt-ends : (purpose : Purpose) (words : List (List ℕ)) (event : Event) (moment : ℕ) (ends : List ℕ) → IsAttempt purpose words event → moments_with moment event ends ≡ ends
attempt-ends purpose words (Turn number) moment ends h = absurd h
attempt-ends purpose words (Began number other others) moment ends h = refl
attempt-ends purpose words (StartFailed other others) moment ends h = refl
attempt-ends purpose words (Ended number good) moment ends h = absurd h
attempt-ends purpose words (Runs number) moment ends h = absurd h
attempt-ends purpose words (PollFailed number) moment ends h = absurd h

-- the same of lists
pub tries-settle_none : (items : List Item) → AllByRecursion Tries items → AllByRecursion SettlesNothing items
tries-settle_none [] h = tt
tries-settle_none (item ∷ items) h = (attempt-settles_none h.0.0 h.0.1 item.event h.0.2, tries-settle_none items h.1)

pub tries-ends : (moment : ℕ) (ends : List ℕ) (items : List Item) → AllByRecursion Tries items → ends_after moment ends items ≡ ends
tries-ends moment ends [] h = refl
tries-ends moment ends (item ∷ items) h = rw (attempt-ends h.0.0 h.0.1 item.event moment ends h.0.2) (tries-ends moment ends items h.1)

pub tries-no_turns : (items : List Item) → AllByRecursion Tries items → turns_begun items ≡ 0
tries-no_turns [] h = refl
tries-no_turns (item ∷ items) h = rw (attempt-no_turn h.0.0 h.0.1 item.event h.0.2) (tries-no_turns items h.1)

pub polls-no_turns : (items : List Item) → AllByRecursion Polls items → turns_begun items ≡ 0
polls-no_turns [] h = refl
polls-no_turns (item ∷ items) h = rw (poll-no_turn h.0.0 item.event h.0.1) (polls-no_turns items h.1)

pub polls-no_opens : (items : List Item) → AllByRecursion Polls items → opens_attempted items ≡ []
polls-no_opens [] h = refl
polls-no_opens (item ∷ items) h = rw (poll-none h.0.0 item.event h.0.1) (polls-no_opens items h.1)

pub polls-no_closes : (id : ℕ) (items : List Item) → AllByRecursion Polls items → close_attempted items id ≡ false
polls-no_closes id [] h = refl
polls-no_closes id (item ∷ items) h = rw (poll-no_close id h.0.0 item.event h.0.1) (polls-no_closes id items h.1)

pub turns_begun-append : (a b : List Item) → turns_begun (a ++ b) ≡ turns_begun a + turns_begun b
turns_begun-append a b = sum_by-append (λ (item : Item). cond (is_turn item.event) 1 0) a b

pub turns_begun-turn : (item : Item) (items : List Item) → is_turn item.event ≡ true → turns_begun (item ∷ items) ≡ suc (turns_begun items)
turns_begun-turn item items h =
    let one : turns_begun (item ∷ []) ≡ 1 = rw h refl in
    let joined = turns_begun-append (item ∷ []) items in
    omega arith

pub opens_attempted-append : (a b : List Item) → opens_attempted (a ++ b) ≡ opens_attempted a ++ opens_attempted b
opens_attempted-append a b = filter_map-append (λ (item : Item). opened_by_attempt (attempt_of item.event)) a b

pub opens_attempted-none : (items : List Item) → AllByRecursion (λ item. opened_by_attempt (attempt_of item.event) ≡ None) items → opens_attempted items ≡ []
opens_attempted-none [] h = refl
opens_attempted-none (item ∷ items) h = rw h.0 (opens_attempted-none items h.1)

none_opened : (event : Event) → IsNoAttempt event → opened_by_attempt (attempt_of event) ≡ None
none_opened (Turn number) n = refl
none_opened (Began number other others) n = absurd n
none_opened (StartFailed other others) n = absurd n
none_opened (Ended number good) n = refl
none_opened (Runs number) n = refl
none_opened (PollFailed number) n = refl

pub none-opened : (items : List Item) → AllByRecursion (λ item. IsNoAttempt item.event) items → opens_attempted items ≡ []
none-opened [] h = refl
none-opened (item ∷ items) h = rw (none_opened item.event h.0) (none-opened items h.1)

no_poll-settles_none : (event : Event) → IsNoPoll event → (past : List Item) → settled_at past event ≡ None
no_poll-settles_none (Turn number) h past = refl
no_poll-settles_none (Began number purpose words) h past = refl
no_poll-settles_none (StartFailed purpose words) h past = refl
no_poll-settles_none (Ended number good) h past = absurd h
no_poll-settles_none (Runs number) h past = refl
no_poll-settles_none (PollFailed number) h past = refl

pub no_polls : (items : List Item) → AllByRecursion (λ item. IsNoPoll item.event) items → AllByRecursion SettlesNothing items
no_polls [] h = tt
no_polls (item ∷ items) h = (no_poll-settles_none item.event h.0, no_polls items h.1)

pub ended_polled : (event : Event) (number : ℕ) (good : Bool) → event ≡ Ended number good → IsNoPoll event → ⊥
ended_polled event number good e n = subst IsNoPoll e n

pub open-no_closes : (id opened : ℕ) (words : List (List ℕ)) (item : Item) → IsAttempt (Open opened) words item.event → close_attempted (item ∷ []) id ≡ false
open-no_closes id opened words item h = rw (open-no_close id opened words item.event h) refl

pub ends_after-append : (moment : ℕ) (ends : List ℕ) (a b : List Item) → ends_after moment ends (a ++ b) ≡ ends_after moment (ends_after moment ends a) b
ends_after-append moment ends [] b = refl
ends_after-append moment ends (item ∷ a) b = ends_after-append moment (moments_with moment item.event ends) a b

-- whether a record is idle is said by what runs of it and by its last close
abbrev idle_by : Bool → Bool → Option End → ℕ → Bool
idle_by closes opens last moment = not closes && not (opens && ended_well last) && not (rests last moment)

idle_less : (closes opens more others waits rest : Bool) → IsTrue (not (closes || more) && not ((opens || others) && waits) && not rest) → IsTrue (not closes && not (opens && waits) && not rest)
idle_less true opens more others waits rest h = absurd (let n = h in cc)
idle_less false opens true others waits rest h = absurd (let n = h in cc)
idle_less false true false others waits rest h = h
idle_less false false false true true rest h = absurd (let n = h in cc)
idle_less false false false true false rest h = h
idle_less false false false false waits rest h = h

-- behind an attempt no record is idle that was not before it
attempt-idle : (purpose : Purpose) (words : List (List ℕ)) (event : Event) (moments faults : ℕ) (past : List Item) (ends : List ℕ) (moment id : ℕ) → IsAttempt purpose words event
    → IsTrue (is_idle (record { event = event; moments = moments; faults = faults } ∷ past) ends moment id) → IsTrue (is_idle past ends moment id)
attempt-idle purpose words (Turn number) moments faults past ends moment id h idle = absurd h
attempt-idle purpose words (Began number other others) moments faults past ends moment id h idle =
    let begun : Child = record { number = number; purpose = other } in
    let closes : close_runs (record { event = Began number other others; moments = moments; faults = faults } ∷ past) id ≡ (close_runs past id || (is_close_of id other || false)) =
    list_any-append (λ (child : Child). is_close_of id child.purpose) (running past) (begun ∷ []) in
    let opens : open_runs (record { event = Began number other others; moments = moments; faults = faults } ∷ past) id ≡ (open_runs past id || (is_open_of id other || false)) =
    list_any-append (λ (child : Child). is_open_of id child.purpose) (running past) (begun ∷ []) in
    let last : Option End = last_close past ends id in
    idle_less (close_runs past id) (open_runs past id) (is_close_of id other || false) (is_open_of id other || false) (ended_well last) (rests last moment)
    (subst (λ (b : Bool). IsTrue (idle_by b (open_runs past id || (is_open_of id other || false)) last moment)) closes
    (subst (λ (b : Bool). IsTrue (idle_by (close_runs (record { event = Began number other others; moments = moments; faults = faults } ∷ past) id) b last moment)) opens idle))
attempt-idle purpose words (StartFailed other others) moments faults past ends moment id h idle =
    let last : Option End = last_close past ends id in
    subst (λ (cs : List Child). IsTrue (idle_by (list_any (λ (child : Child). is_close_of id child.purpose) cs) (list_any (λ (child : Child). is_open_of id child.purpose) cs) last moment)) (append-nil (running past)) idle
attempt-idle purpose words (Ended number good) moments faults past ends moment id h idle = absurd h
attempt-idle purpose words (Runs number) moments faults past ends moment id h idle = absurd h
attempt-idle purpose words (PollFailed number) moments faults past ends moment id h idle = absurd h

pub tries-idle : (items past : List Item) (ends : List ℕ) (moment id : ℕ) → AllByRecursion Tries items → IsTrue (is_idle (past_after past items) ends moment id) → IsTrue (is_idle past ends moment id)
tries-idle [] past ends moment id h idle = idle
tries-idle (item ∷ items) past ends moment id h idle =
    attempt-idle h.0.0 h.0.1 item.event item.moments item.faults past ends moment id h.0.2 (tries-idle items (item ∷ past) ends moment id h.1 idle)

or_none : (a b : Bool) → b ≡ false → (a || (b || false)) ≡ a
or_none true b e = refl
or_none false b e = rw e refl

-- the attempt of another record's close leaves it idle
close-leaves_idle : (closed : ℕ) (words : List (List ℕ)) (event : Event) (moments faults : ℕ) (past : List Item) (ends : List ℕ) (moment id : ℕ) → IsAttempt (Close closed) words event → closed ≢ id
    → IsTrue (is_idle past ends moment id) → IsTrue (is_idle (record { event = event; moments = moments; faults = faults } ∷ past) ends moment id)
close-leaves_idle closed words (Turn number) moments faults past ends moment id h differs idle = absurd h
close-leaves_idle closed words (Began number other others) moments faults past ends moment id h differs idle =
    let begun : Child = record { number = number; purpose = other } in
    let closes : close_runs (record { event = Began number other others; moments = moments; faults = faults } ∷ past) id ≡ close_runs past id =
    list_any-append (λ (child : Child). is_close_of id child.purpose) (running past) (begun ∷ []) ∙ or_none (close_runs past id) (is_close_of id other) (ap (is_close_of id) h.0 ∙ ne_eqb closed id differs) in
    let opens : open_runs (record { event = Began number other others; moments = moments; faults = faults } ∷ past) id ≡ open_runs past id =
    list_any-append (λ (child : Child). is_open_of id child.purpose) (running past) (begun ∷ []) ∙ or_none (open_runs past id) (is_open_of id other) (ap (is_open_of id) h.0) in
    let last : Option End = last_close past ends id in
    subst (λ (b : Bool). IsTrue (idle_by b (open_runs (record { event = Began number other others; moments = moments; faults = faults } ∷ past) id) last moment)) (sym closes)
    (subst (λ (b : Bool). IsTrue (idle_by (close_runs past id) b last moment)) (sym opens) idle)
close-leaves_idle closed words (StartFailed other others) moments faults past ends moment id h differs idle =
    let last : Option End = last_close past ends id in
    subst (λ (cs : List Child). IsTrue (idle_by (list_any (λ (child : Child). is_close_of id child.purpose) cs) (list_any (λ (child : Child). is_open_of id child.purpose) cs) last moment)) (sym (append-nil (running past))) idle
close-leaves_idle closed words (Ended number good) moments faults past ends moment id h differs idle = absurd h
close-leaves_idle closed words (Runs number) moments faults past ends moment id h differs idle = absurd h
close-leaves_idle closed words (PollFailed number) moments faults past ends moment id h differs idle = absurd h

pub closes-leave_idle : (order : List OpenRecord) (items past : List Item) (ends : List ℕ) (moment id : ℕ) → AllZip (λ closing item. IsAttempt (Close closing.id) closing.close item.event) order items
    → ((closing : OpenRecord) → Contains order closing → closing.id ≢ id) → IsTrue (is_idle past ends moment id) → IsTrue (is_idle (past_after past items) ends moment id)
closes-leave_idle [] [] past ends moment id h differs idle = idle
closes-leave_idle [] (item ∷ items) past ends moment id h differs idle = absurd h
closes-leave_idle (closing ∷ order) [] past ends moment id h differs idle = absurd h
closes-leave_idle (closing ∷ order) (item ∷ items) past ends moment id h differs idle =
    closes-leave_idle order items (item ∷ past) ends moment id h.1 (λ other m. differs other (Contains-tail closing order other m))
    (close-leaves_idle closing.id closing.close item.event item.moments item.faults past ends moment id h.0 (differs closing (Contains-head closing order)) idle)
