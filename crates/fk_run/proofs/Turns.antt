-- What one whole turn holds: it begins with its Turn, its attempts are those of its open and of its closes, and its changes
-- are Dones and then the one record that is opened.
use Rattle.std.proofs.Common.{◌≡◌, ℕ, ◌≤◌, true, List, [], ◌∷◌, ◌++◌, length, map, Option, None, refl, sym, ap, ◌∙◌, subst, arith, inl, inr, append_assoc, append-nil}
use Rattle.std.specs.List.{cons_option, AllByRecursion, Contains}
use Rattle.std.proofs.lemmas.List.Elements.{Contains-append_cases}
use Rattle.fk_base.specs.declared.purpose.Purpose.{Purpose}
use Rattle.fk_base.specs.declared.purpose.Purpose.TheVariants.{Open, Close}
use Rattle.fk_trace.specs.declared.change.OpenRecord.{OpenRecord}
use Rattle.fk_trace.specs.declared.change.Change.{Change}
use Rattle.fk_trace.specs.declared.change.Change.TheVariants.{Done}
use Rattle.fk_trace.specs.Trace.{Event, Item, Child, attempt_of, is_turn, past_after}
use Rattle.fk_trace.specs.Ledger.{opens, dones, after}
use Rattle.fk_trace.specs.Decision.{Permit, Rules, Answer, IsGranted, recorded_by, answer}
use Rattle.fk_trace.specs.Decision.Answer.{Nothing, Refuses, Opens}
use Rattle.fk_trace.specs.Settled.{settled_in, settled_at, settlements, EndedCleanly}
use Rattle.fk_trace.specs.Attempts.{IsPollOf, IsAttempt, AttemptsThatOpen}
use Rattle.fk_trace.proofs.Lists.{Contains-cases}
use Rattle.fk_trace.proofs.Splits.{cases_joined, recursion-behind, recursion-joined, Contains-place, Contains-recursion, second_of_zip, first_of_zip}
use Rattle.fk_trace.proofs.Ledgers.{opens-dones, dones-dones, opens-append, dones-append}
use Rattle.fk_trace.proofs.Made.{AreMade, Whatever, made-dones, made-joined}
use Rattle.fk_trace.proofs.Grants.{granted-opens, answer-made, opens-answer, dones-answer}
use Rattle.fk_trace.proofs.Settled.{settled_in-append, settled_in-none, ends-settled, ends-longer, ends-later}
use Rattle.fk_run.specs.Place.{Place}
use Rattle.fk_run.specs.Turn.{TakenTurn, WholeTurn}
use Rattle.fk_run.specs.Headline.{turns_begun, opened_by_attempt, opens_attempted}
use Rattle.fk_run.proofs.Items.{Tries, Polls, attempt-no_turn, attempt-no_poll, attempt-opens, attempts-same, tries-settle_none, tries-no_turns, polls-no_turns, polls-no_opens, turns_begun-append, turns_begun-turn, opens_attempted-append, opens_attempted-none}

-- what opens a record attempts that open alone
pub opened-tries : (a : Answer) (opened : List Item) → AttemptsThatOpen a opened → AllByRecursion Tries opened
opened-tries Nothing opened h = rw h tt
opened-tries (Refuses why) opened h = rw h tt
opened-tries (Opens item permit making) [] h = absurd h
opened-tries (Opens item permit making) (x ∷ []) h = ((Open item.id, permit.opening, h), tt)
opened-tries (Opens item permit making) (x ∷ y ∷ opened) h = absurd h

-- the answer makes the one record that it opens
abbrev MakesIt : Answer → Type 0
MakesIt a = (item : OpenRecord) (permit : Permit) (making : List Change) → a ≡ Opens item permit making → opens making ≡ item ∷ []

opened-ids : (a : Answer) (opened : List Item) → MakesIt a → AttemptsThatOpen a opened → opens_attempted opened ≡ map (λ item. item.id) (opens (recorded_by a))
opened-ids Nothing opened makes h = rw h refl
opened-ids (Refuses why) opened makes h = rw h refl
opened-ids (Opens item permit making) [] makes h = absurd h
opened-ids (Opens item permit making) (x ∷ []) makes h =
    ap (λ (o : Option ℕ). cons_option o []) (attempt-opens (Open item.id) permit.opening x.event h) ∙ sym (ap (map (λ (r : OpenRecord). r.id)) (makes item permit making refl))
opened-ids (Opens item permit making) (x ∷ y ∷ opened) makes h = absurd h

opened-by : (a : Answer) (opened : List Item) (x : Item) → AttemptsThatOpen a opened → Contains opened x
    → (item : OpenRecord) × (permit : Permit) × (making : List Change) × (a ≡ Opens item permit making) × IsAttempt (Open item.id) permit.opening x.event
opened-by Nothing opened x h m = let some = rw h at m in absurd (omega (arith, some.1))
opened-by (Refuses why) opened x h m = let some = rw h at m in absurd (omega (arith, some.1))
opened-by (Opens item permit making) [] x h m = absurd h
opened-by (Opens item permit making) (y ∷ []) x h m =
    elim (Contains-cases y [] x m) [
      | inl e ↦ (item, permit, making, refl, subst (λ (z : Item). IsAttempt (Open item.id) permit.opening z.event) e h)
      | inr n ↦ absurd (omega (arith, n.1))
    ]
opened-by (Opens item permit making) (y ∷ z ∷ opened) x h m = absurd h

module _ {rules : Rules} {place : Place} {taken : TakenTurn} (whole : WholeTurn rules place taken) where
  begins-turn : is_turn whole.start.event ≡ true
  begins-turn = ap is_turn whole.nothing_else.0

  pub whole-polls : AllByRecursion Polls whole.polled
  whole-polls =
      second_of_zip (λ (child : Child) (item : Item). IsPollOf child item.event) Polls (λ child item h. (child, h))
      whole.polls_each_running_child_once.order whole.polled whole.polls_each_running_child_once.answered

  pub whole-opened : AllByRecursion Tries whole.opened
  whole-opened = opened-tries (answer rules (after place.ledger whole.settled) taken.turn) whole.opened whole.attempts_that_open_once

  each-close : (P : Item → Type 0) → ((closing : OpenRecord) (item : Item) → IsAttempt (Close closing.id) closing.close item.event → P item) → AllByRecursion P whole.closed
  each-close P h =
      second_of_zip (λ (closing : OpenRecord) (item : Item). IsAttempt (Close closing.id) closing.close item.event) P h
      whole.attempts_each_due_idle_close_once.order whole.closed whole.attempts_each_due_idle_close_once.attempted

  pub whole-closed : AllByRecursion Tries whole.closed
  whole-closed = each-close Tries (λ closing item h. (Close closing.id, closing.close, h))

  close-opens_none : AllByRecursion (λ item. opened_by_attempt (attempt_of item.event) ≡ None) whole.closed
  close-opens_none = each-close (λ (item : Item). opened_by_attempt (attempt_of item.event) ≡ None) (λ closing item h. attempt-opens (Close closing.id) closing.close item.event h)

  -- a turn begins once
  pub turns_begun-whole : turns_begun taken.items ≡ 1
  turns_begun-whole =
      let polls = polls-no_turns whole.polled whole-polls in
      let opened = tries-no_turns whole.opened whole-opened in
      let closed = tries-no_turns whole.closed whole-closed in
      let joined = turns_begun-append (whole.polled ++ whole.opened) whole.closed in
      let begun = turns_begun-append whole.polled whole.opened in
      let first = turns_begun-turn whole.start ((whole.polled ++ whole.opened) ++ whole.closed) begins-turn in
      ap turns_begun whole.nothing_else.1 ∙ omega arith

  -- it has begun before each of its attempts
  pub turns_begun-front : (front : List Item) (item : Item) (rest : List Item) (purpose : Purpose) (words : List (List ℕ)) → taken.items ≡ front ++ item ∷ rest → IsAttempt purpose words item.event → turns_begun front ≡ 1
  turns_begun-front [] item rest purpose words e h =
      let first : whole.start ≡ item = let f = whole.nothing_else.1 in cc in
      let none = attempt-no_turn purpose words item.event h in
      let one = begins-turn in
      absurd (let same = ap (λ (x : Item). is_turn x.event) first in cc)
  turns_begun-front (start ∷ front) item rest purpose words e h =
      let first : whole.start ≡ start = let f = whole.nothing_else.1 in cc in
      let begun = turns_begun-turn start front (sym (ap (λ (x : Item). is_turn x.event) first) ∙ begins-turn) in
      let all : turns_begun ((start ∷ front) ++ item ∷ rest) ≡ 1 = sym (ap turns_begun e) ∙ turns_begun-whole in
      let joined = turns_begun-append (start ∷ front) (item ∷ rest) in
      omega arith

  -- no attempt is the Turn or a poll
  not_polled : (item : Item) (purpose : Purpose) (words : List (List ℕ)) → Contains (whole.start ∷ whole.polled) item → IsAttempt purpose words item.event → ⊥
  not_polled item purpose words m h =
      elim (Contains-cases whole.start whole.polled item m) [
        | inl same ↦ let one = begins-turn in let e = ap (λ (x : Item). is_turn x.event) same in let none = attempt-no_turn purpose words item.event h in absurd cc
        | inr poll ↦ let is = Contains-recursion Polls whole.polled item whole-polls poll in attempt-no_poll is.0 purpose words item.event h is.1
      ]

  -- where an attempt stands, behind the polls
  pub attempt-place : (front : List Item) (item : Item) (rest : List Item) (purpose : Purpose) (words : List (List ℕ)) → taken.items ≡ front ++ item ∷ rest → IsAttempt purpose words item.event
      → (behind : List Item) × (front ≡ (whole.start ∷ whole.polled) ++ behind) × (whole.opened ++ whole.closed ≡ behind ++ item ∷ rest)
  attempt-place front item rest purpose words e h =
      elim (cases_joined (whole.start ∷ whole.polled) (whole.opened ++ whole.closed) front item rest (sym (append_assoc (whole.start ∷ whole.polled) whole.opened whole.closed) ∙ sym whole.nothing_else.1 ∙ e)) [
        | inl s ↦ absurd (not_polled item purpose words (Contains-place (whole.start ∷ whole.polled) front item s.0 s.1) h)
        | inr s ↦ s
      ]

  pub settled-opens : opens whole.settled ≡ []
  settled-opens = ap opens whole.settles_clean_good_ends ∙ opens-dones (settled_in (whole.start ∷ place.past) whole.polled)

  changes-opens : opens taken.changes ≡ opens whole.recorded
  changes-opens = ap opens whole.nothing_else.2 ∙ opens-append whole.settled whole.recorded ∙ ap (λ xs. xs ++ opens whole.recorded) settled-opens

  close-at : (item : Item) → Contains whole.closed item
      → (closing : OpenRecord) × Contains whole.attempts_each_due_idle_close_once.order closing × IsAttempt (Close closing.id) closing.close item.event
  close-at item m =
      first_of_zip (λ (closing : OpenRecord) (x : Item). IsAttempt (Close closing.id) closing.close x.event) whole.attempts_each_due_idle_close_once.order whole.closed item
      whole.attempts_each_due_idle_close_once.attempted m

  -- an open is attempted for the record that is made of what was granted
  pub opens-in_turn : (front : List Item) (item : Item) (rest : List Item) (id : ℕ) (words : List (List ℕ)) → taken.items ≡ front ++ item ∷ rest → IsAttempt (Open id) words item.event
      → (granted : OpenRecord) × (making : List Change) × (taken.changes ≡ whole.settled ++ making) × IsGranted rules (after place.ledger whole.settled) taken.turn granted making words × (granted.id ≡ id)
  opens-in_turn front item rest id words e h =
      let stands = attempt-place front item rest (Open id) words e h in
      let stood : List Change = after place.ledger whole.settled in
      elim (Contains-append_cases whole.opened whole.closed item (Contains-place (whole.opened ++ whole.closed) stands.0 item rest stands.2)) [
        | inl among ↦
            let by = opened-by (answer rules stood taken.turn) whole.opened item whole.attempts_that_open_once among in
            let same = attempts-same (Open id) (Open by.0.id) words by.1.opening item.event h by.4 in
            let made : whole.recorded ≡ by.2 = whole.records_what_is_granted ∙ ap recorded_by by.3 in
            let alike : by.0.id ≡ id = let f = same.0 in cc in (
              by.0,
              by.2,
              whole.nothing_else.2 ∙ ap (λ xs. whole.settled ++ xs) made,
              subst (λ (ws : List (List ℕ)). IsGranted rules stood taken.turn by.0 by.2 ws) (sym same.1) (granted-opens by.0 by.1 by.2 rules stood taken.turn by.3),
              alike,
            )
        | inr among ↦
            let at = close-at item among in
            absurd (let same = (attempts-same (Open id) (Close at.0.id) words at.0.close item.event h at.2).0 in cc)
      ]

  -- where a close stands, behind the open and other closes
  pub close-place : (front : List Item) (item : Item) (rest : List Item) (id : ℕ) (words : List (List ℕ)) → taken.items ≡ front ++ item ∷ rest → IsAttempt (Close id) words item.event
      → (behind : List Item) × (front ≡ (whole.start ∷ whole.polled ++ whole.opened) ++ behind) × (whole.closed ≡ behind ++ item ∷ rest)
  close-place front item rest id words e h =
      let stands = attempt-place front item rest (Close id) words e h in
      elim (cases_joined whole.opened whole.closed stands.0 item rest stands.2) [
        | inl s ↦
            let by = opened-by (answer rules (after place.ledger whole.settled) taken.turn) whole.opened item whole.attempts_that_open_once (Contains-place whole.opened stands.0 item s.0 s.1) in
            absurd (let same = (attempts-same (Close id) (Open by.0.id) words by.1.opening item.event h by.4).0 in cc)
        | inr s ↦ (
          s.0,
          stands.1 ∙ ap (λ xs. (whole.start ∷ whole.polled) ++ xs) s.1 ∙ sym (append_assoc (whole.start ∷ whole.polled) whole.opened s.0),
          s.2,
        )
      ]

  -- what is recorded settles nothing
  settled-dones : dones taken.changes ≡ dones whole.settled
  settled-dones =
      ap dones whole.nothing_else.2 ∙ dones-append whole.settled whole.recorded
      ∙ ap (λ xs. dones whole.settled ++ xs) (ap dones whole.records_what_is_granted ∙ dones-answer rules (after place.ledger whole.settled) taken.turn (answer rules (after place.ledger whole.settled) taken.turn) refl)
      ∙ append-nil (dones whole.settled)

  changes-dones : dones taken.changes ≡ settled_in (whole.start ∷ place.past) whole.polled
  changes-dones = settled-dones ∙ ap dones whole.settles_clean_good_ends ∙ dones-dones (settled_in (whole.start ∷ place.past) whole.polled)

  -- a record is settled by a clean close that ended well
  pub settles-in_turn : (id : ℕ) → Contains (dones taken.changes) id → EndedCleanly place.past taken.items id
  settles-in_turn id m =
      let ends_there = ends-settled (whole.start ∷ place.past) whole.polled id (subst (λ (xs : List ℕ). Contains xs id) changes-dones m) in
      let longer : EndedCleanly place.past (whole.start ∷ ((whole.polled ++ whole.opened) ++ whole.closed)) id =
      ends-later place.past (whole.start ∷ []) ((whole.polled ++ whole.opened) ++ whole.closed) id
      (ends-longer (whole.start ∷ place.past) (whole.polled ++ whole.opened) whole.closed id (ends-longer (whole.start ∷ place.past) whole.polled whole.opened id ends_there)) in
      subst (λ (xs : List Item). EndedCleanly place.past xs id) (sym whole.nothing_else.1) longer

  -- the Dones of a turn are what its items settle
  pub settled_in-whole : settled_in place.past taken.items ≡ dones taken.changes
  settled_in-whole =
      let begun : List Item = whole.start ∷ place.past in
      let none : settled_at place.past whole.start.event ≡ None = ap (settled_at place.past) whole.nothing_else.0 in
      ap (settled_in place.past) whole.nothing_else.1
      ∙ ap (λ (o : Option ℕ). cons_option o (settled_in begun ((whole.polled ++ whole.opened) ++ whole.closed))) none
      ∙ settled_in-append begun (whole.polled ++ whole.opened) whole.closed
      ∙ ap (λ xs. settled_in begun (whole.polled ++ whole.opened) ++ xs) (settled_in-none (past_after begun (whole.polled ++ whole.opened)) whole.closed (tries-settle_none whole.closed whole-closed))
      ∙ append-nil (settled_in begun (whole.polled ++ whole.opened))
      ∙ settled_in-append begun whole.polled whole.opened
      ∙ ap (λ xs. settled_in begun whole.polled ++ xs) (settled_in-none (past_after begun whole.polled) whole.opened (tries-settle_none whole.opened whole-opened))
      ∙ append-nil (settled_in begun whole.polled) ∙ sym changes-dones

  -- what the items of a whole turn settle is settled
  pub settlements-whole : settlements place.past taken.items ≡ whole.settled
  settlements-whole = ap (map Done) (settled_in-whole ∙ changes-dones) ∙ sym whole.settles_clean_good_ends

  -- it is settled before each of its attempts
  pub settled_in-front : (front : List Item) (item : Item) (rest : List Item) (purpose : Purpose) (words : List (List ℕ)) → taken.items ≡ front ++ item ∷ rest → IsAttempt purpose words item.event
      → settled_in place.past front ≡ dones taken.changes
  settled_in-front front item rest purpose words e h =
      let stands = attempt-place front item rest purpose words e h in
      let tries : AllByRecursion Tries (whole.opened ++ whole.closed) = recursion-joined Tries whole.opened whole.closed whole-opened whole-closed in
      let behind : AllByRecursion Tries (item ∷ rest) = recursion-behind Tries stands.0 (item ∷ rest) (subst (AllByRecursion Tries) stands.2 tries) in
      let none = settled_in-none (past_after place.past front) (item ∷ rest) (tries-settle_none (item ∷ rest) behind) in
      sym (append-nil (settled_in place.past front)) ∙ ap (λ xs. settled_in place.past front ++ xs) (sym none) ∙ sym (settled_in-append place.past front (item ∷ rest))
      ∙ ap (settled_in place.past) (sym e) ∙ settled_in-whole

  pub settlements-front : (front : List Item) (item : Item) (rest : List Item) (purpose : Purpose) (words : List (List ℕ)) → taken.items ≡ front ++ item ∷ rest → IsAttempt purpose words item.event
      → settlements place.past front ≡ whole.settled
  settlements-front front item rest purpose words e h = ap (map Done) (settled_in-front front item rest purpose words e h ∙ changes-dones) ∙ sym whole.settles_clean_good_ends

  -- the opens that are attempted are those of the records that are made
  pub opens_attempted-whole : opens_attempted taken.items ≡ map (λ item. item.id) (opens taken.changes)
  opens_attempted-whole =
      let a : Answer = answer rules (after place.ledger whole.settled) taken.turn in
      let first : opened_by_attempt (attempt_of whole.start.event) ≡ None = ap (λ (event : Event). opened_by_attempt (attempt_of event)) whole.nothing_else.0 in
      ap opens_attempted whole.nothing_else.1
      ∙ ap (λ (o : Option ℕ). cons_option o (opens_attempted ((whole.polled ++ whole.opened) ++ whole.closed))) first
      ∙ opens_attempted-append (whole.polled ++ whole.opened) whole.closed
      ∙ ap (λ xs. opens_attempted (whole.polled ++ whole.opened) ++ xs) (opens_attempted-none whole.closed close-opens_none)
      ∙ append-nil (opens_attempted (whole.polled ++ whole.opened))
      ∙ opens_attempted-append whole.polled whole.opened
      ∙ ap (λ xs. xs ++ opens_attempted whole.opened) (polls-no_opens whole.polled whole-polls)
      ∙ opened-ids a whole.opened (λ item permit making e. opens-answer rules (after place.ledger whole.settled) taken.turn item permit making e) whole.attempts_that_open_once
      ∙ sym (ap (map (λ (item : OpenRecord). item.id)) (changes-opens ∙ ap opens whole.records_what_is_granted))

  -- and they are attempted before each close
  pub opens_attempted-front : (front : List Item) (item : Item) (rest : List Item) (id : ℕ) (words : List (List ℕ)) → taken.items ≡ front ++ item ∷ rest → IsAttempt (Close id) words item.event
      → opens_attempted front ≡ map (λ item. item.id) (opens taken.changes)
  opens_attempted-front front item rest id words e h =
      let stands = close-place front item rest id words e h in
      let none = opens_attempted-none (item ∷ rest)
      (recursion-behind (λ (x : Item). opened_by_attempt (attempt_of x.event) ≡ None) stands.0 (item ∷ rest)
      (subst (AllByRecursion (λ (x : Item). opened_by_attempt (attempt_of x.event) ≡ None)) stands.2 close-opens_none)) in
      sym (append-nil (opens_attempted front)) ∙ ap (λ xs. opens_attempted front ++ xs) (sym none) ∙ sym (opens_attempted-append front (item ∷ rest)) ∙ ap opens_attempted (sym e) ∙ opens_attempted-whole

  -- a turn makes one record at most
  pub most-one : length (opens taken.changes) ≤ 1
  most-one =
      let stood : List Change = after place.ledger whole.settled in
      let made : (a : Answer) → answer rules stood taken.turn ≡ a → opens taken.changes ≡ opens (recorded_by a) = λ a e. changes-opens ∙ ap opens (whole.records_what_is_granted ∙ ap recorded_by e) in
      (elim (answer rules stood taken.turn) as (λ a. answer rules stood taken.turn ≡ a → length (opens taken.changes) ≤ 1) [
        | Nothing ↦ λ e. let all = ap length (made Nothing e) in omega arith
        | Refuses why ↦ λ e. let all = ap length (made (Refuses why) e) in omega arith
        | Opens item permit making ↦ λ e.
            let all : length (opens taken.changes) ≡ 1 = ap length (made (Opens item permit making) e ∙ opens-answer rules stood taken.turn item permit making e) in
            omega arith
      ]) refl

  -- its changes may be made where it stands
  pub whole-made : AreMade Whatever place.ledger taken.changes
  whole-made =
      let ids : List ℕ = settled_in (whole.start ∷ place.past) whole.polled in
      let settled : AreMade Whatever place.ledger whole.settled =
      subst (λ (changes : List Change). AreMade Whatever place.ledger changes) (sym whole.settles_clean_good_ends) (made-dones place.ledger ids) in
      let stood : List Change = after place.ledger whole.settled in
      let recorded : AreMade Whatever stood whole.recorded =
      subst (λ (changes : List Change). AreMade Whatever stood changes) (sym whole.records_what_is_granted) (answer-made Whatever rules stood taken.turn (answer rules stood taken.turn) refl) in
      subst (λ (changes : List Change). AreMade Whatever place.ledger changes) (sym whole.nothing_else.2) (made-joined Whatever place.ledger whole.settled whole.recorded settled recorded)
