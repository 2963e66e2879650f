-- A turn that is not cut is a whole one, and starts what is owed at it.
use Rattle.std.proofs.Common.{◌≡◌, ℕ, ◌<◌, ◌≤◌, true, false, List, [], ◌∷◌, ◌++◌, refl, sym, ap, ◌∙◌, subst, arith, inl, inr, append_assoc}
use Rattle.std.specs.List.{Contains}
use Rattle.std.proofs.lemmas.Bool.{eqb-true, false_from_ne_true}
use Rattle.std.proofs.lemmas.Grind.{flat_map-append}
use Rattle.fk_base.specs.declared.purpose.Purpose.{Purpose}
use Rattle.fk_base.specs.declared.purpose.Purpose.TheVariants.{Open, Close}
use Rattle.fk_trace.specs.declared.change.OpenRecord.{OpenRecord}
use Rattle.fk_trace.specs.declared.change.Change.{Change}
use Rattle.fk_trace.specs.Trace.{Event, Item, is_close_of, is_close_attempt_of, close_attempted}
use Rattle.fk_trace.specs.Trace.Event.{Turn, Began, StartFailed, Ended, Runs, PollFailed}
use Rattle.fk_trace.specs.Ledger.{live, next_id, after, IsLedger}
use Rattle.fk_trace.specs.Decision.{Rules, answer}
use Rattle.fk_trace.specs.Attempts.{IsAttempt}
use Rattle.fk_trace.proofs.Lists.{Contains-map, list_any-at}
use Rattle.fk_trace.proofs.Splits.{place_of}
use Rattle.fk_trace.proofs.Ledgers.{after-append}
use Rattle.fk_trace.proofs.Made.{AreMade, IsLive, made-front}
use Rattle.fk_trace.proofs.FirstCloses.{close_attempted-past}
use Rattle.fk_run.specs.Place.{Place, entry}
use Rattle.fk_run.specs.Turn.{TakenTurn, WholeTurn, after_turn, after_turns}
use Rattle.fk_run.specs.Run.{Run}
use Rattle.fk_run.specs.Legal.{Legal, LegalTurns}
use Rattle.fk_run.specs.Headline.{IsTurnOf, IsWholeTurnOf, IsLiveIn, IsFirstDue, AttemptedIn, StartsWhatIsOwed}
use Rattle.fk_run.proofs.Fronts.{items_of, made_by, past-after_turns, ledger-after_turns, AreWhole, front-whole, turn-at, in-turn}
use Rattle.fk_run.proofs.Ledgers.{ledger-made, live-below, live-one, live-since}
use Rattle.fk_run.proofs.Leaves.{leaves-made}
use Rattle.fk_run.proofs.Closings.{closes-in_turn}
use Rattle.fk_run.proofs.Turns.{settlements-whole}
use Rattle.fk_run.proofs.Starts.{starts-open, starts-close, starts-left}

whole-at : (run : Run) → Legal run → (front : List TakenTurn) (taken : TakenTurn) → IsWholeTurnOf run front taken → WholeTurn run.rules (after_turns (entry run.ledger) front) taken
whole-at run legal front taken at =
    elim (turn-at run.rules run.ending (entry run.ledger) front taken at.turn.later (subst (λ (turns : List TakenTurn). LegalTurns run.rules (entry run.ledger) run.ending turns) at.turn.placed legal.turns)) [
      | inl whole ↦ whole
      | inr cut ↦ elim at.uncut [
        | inl none ↦ absurd (let some = cut.0 in cc)
        | inr more ↦ elim more [ inl some ↦ absurd (some cut.1) | inr whole ↦ whole ]
      ]
    ]

pub starts-owed : (run : Run) → Legal run → (front : List TakenTurn) (taken : TakenTurn) → IsWholeTurnOf run front taken → StartsWhatIsOwed run front taken
starts-owed run legal front taken at =
    let place : Place = after_turns (entry run.ledger) front in
    let whole = whole-at run legal front taken at in
    record {
      place = place;
      reached = refl;
      opened = λ item permit making opens. starts-open whole item permit making (ap (λ (settled : List Change). answer run.rules (after place.ledger settled) taken.turn) (sym (settlements-whole whole)) ∙ opens);
      closed = λ item lives due none.
          let untried : close_attempted place.past item.id ≡ false =
          subst (λ (past : List Item). close_attempted past item.id ≡ false) (sym (past-after_turns (entry run.ledger) front)) (close_attempted-past [] (items_of front) item.id refl none) in
          starts-close whole item lives due untried;
      none_left = λ item left. starts-left whole item left;
    }

close-purpose : (id : ℕ) (purpose : Purpose) → is_close_of id purpose ≡ true → purpose ≡ Close id
close-purpose id (Open other) t = absurd cc
close-purpose id (Close other) t = ap Close (eqb-true other id t)

-- an attempt of a record's close
close-attempt : (id : ℕ) (event : Event) → is_close_attempt_of id event ≡ true → (words : List (List ℕ)) × IsAttempt (Close id) words event
close-attempt id (Turn number) t = absurd cc
close-attempt id (Began number purpose words) t = (words, (close-purpose id purpose t, refl))
close-attempt id (StartFailed purpose words) t = (words, (close-purpose id purpose t, refl))
close-attempt id (Ended number good) t = absurd cc
close-attempt id (Runs number) t = absurd cc
close-attempt id (PollFailed number) t = absurd cc

whole-in : (rules : Rules) (place : Place) (front : List TakenTurn) (taken : TakenTurn) (later : List TakenTurn) → AreWhole rules place (front ++ taken ∷ later) → WholeTurn rules (after_turns place front) taken
whole-in rules place [] taken later whole = whole.0
whole-in rules place (first ∷ front) taken later whole = whole-in rules (after_turn place first) front taken later whole.1

module _ (run : Run) (legal : Legal run) (is : IsLedger run.ledger) where
  abbrev ledger_in : List TakenTurn → TakenTurn → List Change
  ledger_in front taken = after (after_turns (entry run.ledger) front).ledger taken.changes

  -- the ledger as a turn leaves it
  made-in : (front : List TakenTurn) (taken : TakenTurn) (later : List TakenTurn) → run.turns ≡ front ++ taken ∷ later → AreMade IsLive run.ledger ((made_by front ++ taken.changes) ++ made_by later)
  made-in front taken later placed =
      subst (λ (changes : List Change). AreMade IsLive run.ledger changes)
      (flat_map-append (λ (turn : TakenTurn). turn.changes) front (taken ∷ later) ∙ sym (append_assoc (made_by front) taken.changes (made_by later)))
      (subst (λ (turns : List TakenTurn). AreMade IsLive run.ledger (made_by turns)) placed (leaves-made run legal is))

  ledger-in : (front : List TakenTurn) (taken : TakenTurn) → ledger_in front taken ≡ after run.ledger (made_by front ++ taken.changes)
  ledger-in front taken = ap (λ (ledger : List Change). after ledger taken.changes) (ledger-after_turns (entry run.ledger) front) ∙ sym (after-append run.ledger (made_by front) taken.changes)

  is-ledger-in : (front : List TakenTurn) (taken : TakenTurn) (later : List TakenTurn) → run.turns ≡ front ++ taken ∷ later → IsLedger (ledger_in front taken)
  is-ledger-in front taken later placed =
      subst IsLedger (sym (ledger-in front taken))
      (ledger-made run.ledger (made_by front ++ taken.changes) is (made-front IsLive run.ledger (made_by front ++ taken.changes) (made_by later) (made-in front taken later placed)))

  -- what is live in a later turn and has a number from before was live in an earlier one
  lives-since : (before : List TakenTurn) (earlier : TakenTurn) (between : List TakenTurn) (taken : TakenTurn) (later : List TakenTurn) → run.turns ≡ (before ++ earlier ∷ between) ++ taken ∷ later
      → (item : OpenRecord) → Contains (live (ledger_in (before ++ earlier ∷ between) taken)) item → item.id < next_id (ledger_in before earlier) → Contains (live (ledger_in before earlier)) item
  lives-since before earlier between taken later placed item m low =
      let first : List Change = made_by before ++ earlier.changes in
      let more : List Change = made_by between ++ taken.changes in
      let parts : made_by (before ++ earlier ∷ between) ++ taken.changes ≡ first ++ more =
      ap (λ (changes : List Change). changes ++ taken.changes) (flat_map-append (λ (turn : TakenTurn). turn.changes) before (earlier ∷ between) ∙ sym (append_assoc (made_by before) earlier.changes (made_by between)))
      ∙ append_assoc first (made_by between) taken.changes in
      let all : ledger_in (before ++ earlier ∷ between) taken ≡ after (after run.ledger first) more =
      ledger-in (before ++ earlier ∷ between) taken ∙ ap (after run.ledger) parts ∙ after-append run.ledger first more in
      let made : AreMade IsLive run.ledger ((first ++ more) ++ made_by later) =
      subst (λ (changes : List Change). AreMade IsLive run.ledger (changes ++ made_by later)) parts (made-in (before ++ earlier ∷ between) taken later placed) in
      let there : Contains (live (after run.ledger first)) item =
      live-since IsLive run.ledger first more (made-front IsLive run.ledger (first ++ more) (made_by later) made) item
      (subst (λ (ledger : List Change). Contains (live ledger) item) all m) (subst (λ (ledger : List Change). item.id < next_id ledger) (ledger-in before earlier) low) in
      subst (λ (ledger : List Change). Contains (live ledger) item) (sym (ledger-in before earlier)) there

  -- before the first turn at or past its due no close of a record is attempted
  untried-before : (front : List TakenTurn) (taken : TakenTurn) (at : IsTurnOf run front taken) (item : OpenRecord) → IsFirstDue run front taken item → close_attempted (items_of front) item.id ≡ false
  untried-before front taken at item first =
      false_from_ne_true (close_attempted (items_of front) item.id)
      (λ tried.
      let attempt = list_any-at (λ (x : Item). is_close_attempt_of item.id x.event) (items_of front) tried in
      let is_attempt = close-attempt item.id attempt.0.event attempt.2 in
      let place = place_of (items_of front) attempt.0 attempt.1 in
      let turn = in-turn front place.0 attempt.0 place.1 place.2 in
      let fronts = front-whole run.rules run.ending (entry run.ledger) front taken at.later (subst (λ (turns : List TakenTurn). LegalTurns run.rules (entry run.ledger) run.ending turns) at.placed legal.turns) in
      let whole = whole-in run.rules (entry run.ledger) turn.front turn.taken turn.later (subst (λ (turns : List TakenTurn). AreWhole run.rules (entry run.ledger) turns) turn.placed fronts) in
      let closed = closes-in_turn whole turn.items attempt.0 turn.rest item.id is_attempt.0 turn.among is_attempt.1 in
      let low : item.id < next_id (ledger_in turn.front turn.taken) =
      subst (λ (id : ℕ). id < next_id (ledger_in turn.front turn.taken)) closed.4
      (live-below (ledger_in turn.front turn.taken) closed.0.id (Contains-map (λ (r : OpenRecord). r.id) (live (ledger_in turn.front turn.taken)) closed.0 closed.1)) in
      let lived : Contains (live (ledger_in turn.front turn.taken)) item =
      lives-since turn.front turn.taken turn.later taken at.later (subst (λ (turns : List TakenTurn). run.turns ≡ turns ++ taken ∷ at.later) turn.placed at.placed) item
      (subst (λ (turns : List TakenTurn). Contains (live (ledger_in turns taken)) item) turn.placed first.lives) low in
      let is_there : IsLedger (ledger_in turn.front turn.taken) =
      is-ledger-in turn.front turn.taken (turn.later ++ taken ∷ at.later)
      (at.placed ∙ ap (λ (turns : List TakenTurn). turns ++ taken ∷ at.later) turn.placed ∙ append_assoc turn.front (turn.taken ∷ turn.later) (taken ∷ at.later)) in
      let same : closed.0 ≡ item = live-one (ledger_in turn.front turn.taken) is_there closed.0 item closed.1 lived closed.4 in
      let due : item.due ≤ turn.taken.turn.moment = subst (λ (record_due : OpenRecord). record_due.due ≤ turn.taken.turn.moment) same closed.2 in
      elim (first.first turn.front turn.taken turn.later turn.placed) [
        | inl dead ↦ dead (subst (λ (record_live : OpenRecord). IsLiveIn run turn.front turn.taken record_live) same closed.1)
        | inr early ↦ omega (arith, early, due)
      ])

  pub starts-first_due : (front : List TakenTurn) (taken : TakenTurn) → IsWholeTurnOf run front taken → (item : OpenRecord) → IsFirstDue run front taken item → AttemptedIn taken.items (Close item.id) item.close
  starts-first_due front taken whole item first =
      let owed = starts-owed run legal front taken whole in
      owed.closed item (subst (λ (place : Place). Contains (live (after place.ledger taken.changes)) item) (sym owed.reached) first.lives) first.due (untried-before front taken whole.turn item first)
