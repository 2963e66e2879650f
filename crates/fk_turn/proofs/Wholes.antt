-- Parts of a turn make a whole one, or one that is cut.
use Rattle.std.proofs.Common.{◌≡◌, ℕ, suc, get_or, ◌||◌, Bool, false, List, [], ◌∷◌, ◌++◌, map, inl, inr, refl, sym, ap, subst, ◌∙◌, append_assoc, append-nil, arith}
use Rattle.std.specs.Prelude.{◌≢◌}
use Rattle.std.specs.List.{All, AllByRecursion, AllPairs, Contains, cons_option}
use Rattle.std.proofs.lemmas.List.Elements.{All-head, All-contains}
use Rattle.fk_base.specs.declared.purpose.Purpose.TheVariants.{Open}
use Rattle.fk_trace.specs.declared.change.Change.{Change}
use Rattle.fk_trace.specs.declared.change.Change.TheVariants.{Done}
use Rattle.fk_trace.specs.Trace.{Event, Item, close_tried, past_after}
use Rattle.fk_trace.specs.Trace.Event.{Turn, StartFailed}
use Rattle.fk_trace.specs.Ledger.{after, IsLedger}
use Rattle.fk_trace.specs.Decision.{FeedTurn, Rules, Answer, answer, recorded_by}
use Rattle.fk_trace.specs.Decision.Answer.{Nothing, Refuses, Opens}
use Rattle.fk_trace.specs.Settled.{settled_at, settled_in, settlements}
use Rattle.fk_trace.specs.Attempts.{PollsEachOnce, AttemptsThatOpen, IsNoAttempt}
use Rattle.fk_trace.proofs.Grants.{answer-made}
use Rattle.fk_trace.proofs.Ledgers.{after-append}
use Rattle.fk_trace.proofs.Made.{IsLive}
use Rattle.fk_trace.proofs.Lists.{All-by, Contains-tail}
use Rattle.fk_trace.proofs.Settled.{past_after-append, settled_in-append}
use Rattle.fk_run.specs.Place.{Place, behind, changed}
use Rattle.fk_run.specs.Turn.{TakenTurn, AttemptsEachDue, WholeTurn, CutTurn}
use Rattle.fk_run.specs.Planned.{planned_turn}
use Rattle.fk_run.proofs.Ledgers.{ledger-push, ledger-made, live-kept_done}
use Rattle.fk_ledger.specs.Book.{live_ids}
use Rattle.fk_child.specs.Crew.{obligations_but}
use Rattle.fk_child.proofs.Turns.{attempts-each}
use Rattle.fk_turn.proofs.Items.{Tries, Polls, tries-settle, tries-no_polls, polls-no_attempts, tries-no_turns, opened-tries, opened-close_none, polled-polls, all-joined, ends_after-append, tried-after}
use Rattle.fk_turn.proofs.Places.{place-same}
use Rattle.fk_turn.proofs.Finishing.{finishes, passing, turn-tries}
use Rattle.fk_cycle.specs.Stands.{is_due}

-- what is settled follows the ledger
pub settled-ledger : (ids : List ℕ) (ledger : List Change) → IsLedger ledger → All (Contains (live_ids ledger)) ids → AllPairs (λ a b. a ≢ b) ids → IsLedger (after ledger (map Done ids))
settled-ledger [] ledger l waits once = l
settled-ledger (id ∷ ids) ledger l waits once =
    let first : IsLedger (ledger ++ Done id ∷ []) = ledger-push ledger (Done id) l (All-head (Contains (live_ids ledger)) id ids waits) in
    settled-ledger ids (ledger ++ Done id ∷ []) first
    (All-by (Contains (live_ids (ledger ++ Done id ∷ []))) ids (λ other m.
    let apart : id ≡ get_or ids m.0 other → ⊥ = let within = m.1 in once 0 (suc m.0) other (omega arith) (omega arith) in
    live-kept_done ledger id other (λ e. apart (sym e ∙ sym m.2)) (All-contains (Contains (live_ids ledger)) (id ∷ ids) other waits (Contains-tail id ids other m))))
    (λ i j d lt within. once (suc i) (suc j) d (omega arith) (omega arith))

-- what is recorded follows it too
recorded-ledger : (rules : Rules) (ledger : List Change) (turn : FeedTurn) → IsLedger ledger → IsLedger (after ledger (recorded_by (answer rules ledger turn)))
recorded-ledger rules ledger turn l = ledger-made ledger (recorded_by (answer rules ledger turn)) l (answer-made IsLive rules ledger turn (answer rules ledger turn) refl)

-- the open that an answer asks for, where its start fails
abbrev pub failed_open : Answer → List Item
failed_open Nothing = []
failed_open (Refuses why) = []
failed_open (Opens item permit changes) = record { event = StartFailed (Open item.id) permit.opening; moments = 0; faults = 0 } ∷ []

failed-attempts : (given : Answer) → AttemptsThatOpen given (failed_open given)
failed-attempts Nothing = refl
failed-attempts (Refuses why) = refl
failed-attempts (Opens item permit changes) = (refl, refl)

-- how a turn could go on at a place behind its settlements
pub record GoesOn (rules : Rules) (place : Place) (turn : FeedTurn) : Type 0 where
  pub opened : List Item
  pub closed : List Item
  pub attempts : AttemptsThatOpen (answer rules place.ledger turn) opened
  pub tries : AllByRecursion Tries closed
  pub each : AttemptsEachDue (changed (behind turn.moment place opened) (recorded_by (answer rules place.ledger turn))) turn.moment closed

pub goes-on : (rules : Rules) (place : Place) (turn : FeedTurn) → ((id : ℕ) → close_tried place.past id ≡ false) → IsLedger place.ledger → GoesOn rules place turn
goes-on rules place turn t l =
    let given : Answer = answer rules place.ledger turn in
    let opened : List Item = failed_open given in
    let at : Place = changed (behind turn.moment place opened) (recorded_by given) in
    let rest = finishes (passing (is_due at.past at.ends turn.moment) (obligations_but [] at.ledger)) turn.moment at (omega arith) in
    record {
      opened = opened;
      closed = rest.0;
      attempts = failed-attempts given;
      tries = turn-tries turn.moment at rest.0 rest.1;
      each = attempts-each turn.moment at rest.0 (recorded-ledger rules place.ledger turn l)
          (λ id. tried-after id opened place.past (tries-no_turns opened (opened-tries given opened (failed-attempts given)))
          ∙ ap (λ (b : Bool). b || close_tried place.past id) (opened-close_none id given opened (failed-attempts given)) ∙ t id)
          rest.1;
    }

-- the parts of a whole turn: where it begins, its polls, the records that are settled, and the attempts of its open and its closes
module _ (rules : Rules) (place : Place) (turn : FeedTurn) (start : Item) (polled : List Item) (ids : List ℕ) where
  -- the place behind the settlements, and what is answered there
  abbrev pub settled_place : Place
  settled_place = changed (behind turn.moment place (start ∷ polled)) (map Done ids)

  abbrev pub given : Answer
  given = answer rules settled_place.ledger turn

  pub record Begins : Type 0 where
    pub begins : start.event ≡ Turn place.number
    pub polls : PollsEachOnce (start ∷ place.past) polled
    pub settled : ids ≡ settled_in (start ∷ place.past) polled

  abbrev pub before_closes : List Item → Place
  before_closes opened = changed (behind turn.moment place (start ∷ polled ++ opened)) (map Done ids ++ recorded_by given)

  pub closes-place : (opened : List Item) → changed (behind turn.moment settled_place opened) (recorded_by given) ≡ before_closes opened
  closes-place opened =
      place-same (changed (behind turn.moment settled_place opened) (recorded_by given)) (before_closes opened)
      (sym (past_after-append (start ∷ place.past) polled opened)) (sym (ends_after-append turn.moment place.ends (start ∷ polled) opened))
      (sym (after-append place.ledger (map Done ids) (recorded_by given))) refl

  pub whole-turn : Begins → (opened closed : List Item) (taken : TakenTurn) → taken.turn ≡ turn
      → AttemptsThatOpen given opened → AttemptsEachDue (changed (behind turn.moment settled_place opened) (recorded_by given)) turn.moment closed
      → taken.items ≡ start ∷ (polled ++ opened) ++ closed → taken.changes ≡ map Done ids ++ recorded_by given
      → WholeTurn rules place taken
  whole-turn b opened closed taken of_turn attempts each items changes =
      record {
        start = start;
        polled = polled;
        opened = opened;
        closed = closed;
        settled = map Done ids;
        recorded = recorded_by given;
        polls_each_running_child_once = b.polls;
        settles_clean_good_ends = ap (map Done) b.settled;
        records_what_is_granted = ap (λ (t : FeedTurn). recorded_by (answer rules settled_place.ledger t)) (sym of_turn);
        attempts_that_open_once = subst (λ (t : FeedTurn). AttemptsThatOpen (answer rules settled_place.ledger t) opened) (sym of_turn) attempts;
        attempts_each_due_idle_close_once =
            subst (λ (t : FeedTurn). AttemptsEachDue (changed (behind t.moment place (start ∷ polled ++ opened)) (map Done ids ++ recorded_by given)) t.moment closed) (sym of_turn)
            (subst (λ (at : Place). AttemptsEachDue at turn.moment closed) (closes-place opened) each);
        nothing_else = (b.begins, items, changes);
      }

  begins-polls : Begins → AllByRecursion Polls polled
  begins-polls b = polled-polls b.polls.order polled b.polls.answered

  -- cut before its first attempt
  pub cut-before : Begins → GoesOn rules settled_place turn → (changes unmade : List Change) → changes ++ unmade ≡ map Done ids ++ recorded_by given
      → CutTurn rules place (record { turn = turn; items = start ∷ polled; changes = changes })
  cut-before b on changes unmade made = record {
    missing = on.opened ++ on.closed;
    unmade = unmade;
    whole = whole-turn b on.opened on.closed (record { turn = turn; items = (start ∷ polled) ++ (on.opened ++ on.closed); changes = changes ++ unmade }) refl on.attempts on.each
        (ap (λ (xs : List Item). start ∷ xs) (sym (append_assoc polled on.opened on.closed))) made;
    begun = λ e. absurd cc;
    changes_before_attempts = inr (subst (λ (e : Event). IsNoAttempt e) (sym b.begins) tt, polls-no_attempts polled (begins-polls b));
    polls_before_changes = inr (tries-no_polls (on.opened ++ on.closed) (all-joined Tries on.opened on.closed (opened-tries given on.opened on.attempts) on.tries));
  }

  -- cut among its closes
  pub cut-among : Begins → (opened closed missing : List Item) → AttemptsThatOpen given opened → AllByRecursion Tries missing
      → AttemptsEachDue (changed (behind turn.moment settled_place opened) (recorded_by given)) turn.moment (closed ++ missing)
      → CutTurn rules place (record { turn = turn; items = start ∷ (polled ++ opened) ++ closed; changes = map Done ids ++ recorded_by given })
  cut-among b opened closed missing attempts tries each = record {
    missing = missing;
    unmade = [];
    whole = whole-turn b opened (closed ++ missing)
        (record { turn = turn; items = (start ∷ (polled ++ opened) ++ closed) ++ missing; changes = (map Done ids ++ recorded_by given) ++ [] }) refl attempts each
        (ap (λ (xs : List Item). start ∷ xs) (append_assoc (polled ++ opened) closed missing)) (append-nil (map Done ids ++ recorded_by given));
    begun = λ e. absurd cc;
    changes_before_attempts = inl refl;
    polls_before_changes = inr (tries-no_polls missing tries);
  }

  -- what the turn's items settle is what its polls settle
  pub settles-polled : Begins → (others : List Item) → AllByRecursion Tries others → settlements place.past (start ∷ polled ++ others) ≡ map Done ids
  settles-polled b others tries =
      ap (map Done)
      (ap (λ (event : Event). cons_option (settled_at place.past event) (settled_in (start ∷ place.past) (polled ++ others))) b.begins
      ∙ settled_in-append (start ∷ place.past) polled others
      ∙ ap (λ (xs : List ℕ). settled_in (start ∷ place.past) polled ++ xs) (tries-settle (past_after (start ∷ place.past) polled) others tries)
      ∙ append-nil (settled_in (start ∷ place.past) polled) ∙ sym b.settled)

  -- and what is planned for it follows
  pub planned-turn : Begins → (others : List Item) (taken : TakenTurn) → AllByRecursion Tries others → taken.turn ≡ turn → taken.items ≡ start ∷ polled ++ others
      → planned_turn rules place taken ≡ map Done ids ++ recorded_by given
  planned-turn b others taken tries of_turn items =
      ap (λ (xs : List Item). settlements place.past xs ++ recorded_by (answer rules (after place.ledger (settlements place.past xs)) taken.turn)) items
      ∙ ap (λ (cs : List Change). cs ++ recorded_by (answer rules (after place.ledger cs) taken.turn)) (settles-polled b others tries)
      ∙ ap (λ (t : FeedTurn). map Done ids ++ recorded_by (answer rules (after place.ledger (map Done ids)) t)) of_turn
