-- What a legal run holds: its opens are by grant and each at most once, its closes are of records that are due, and its records are
-- settled by clean closes that ended well.
use Rattle.std.proofs.Common.{◌≡◌, ℕ, ◌≤◌, true, false, List, [], ◌∷◌, ◌++◌, length, refl, sym, ap, ◌∙◌, subst, arith, ◌⊎◌, inl, inr, append_assoc, append-nil, length-append}
use Rattle.std.specs.Prelude.{IsTrue}
use Rattle.std.specs.List.{Contains}
use Rattle.std.proofs.lemmas.List.{length-map}
use Rattle.std.proofs.lemmas.List.Elements.{Contains-append_cases, Contains-append_left}
use Rattle.std.proofs.lemmas.Grind.{flat_map-append}
use Rattle.fk_base.specs.declared.purpose.Purpose.{Purpose}
use Rattle.fk_base.specs.declared.purpose.Purpose.TheVariants.{Open, Close}
use Rattle.fk_trace.specs.declared.change.OpenRecord.{OpenRecord}
use Rattle.fk_trace.specs.declared.change.Change.{Change}
use Rattle.fk_trace.specs.Trace.{Item, past_after}
use Rattle.fk_trace.specs.Ledger.{opens, dones, after, IsLedger}
use Rattle.fk_trace.specs.Decision.{Rules, IsGranted}
use Rattle.fk_trace.specs.Settled.{settled_in, EndedCleanly}
use Rattle.fk_trace.specs.Attempts.{IsAttempt, IsNoPoll}
use Rattle.fk_trace.proofs.Splits.{cases_joined, Contains-place, Contains-recursion}
use Rattle.fk_trace.proofs.Ledgers.{opens-append, dones-append, after-append}
use Rattle.fk_trace.proofs.Made.{AreMade, IsLive, Whatever, made-front, made-numbered, made-apart, made-fresh}
use Rattle.fk_trace.proofs.Settled.{ends-later, ends-longer, settled_in-append}
use Rattle.fk_run.specs.Place.{Place, entry}
use Rattle.fk_run.specs.Turn.{TakenTurn, WholeTurn, CutTurn, after_turn, after_turns}
use Rattle.fk_run.specs.Run.{Run, Ending, changes_of, cuts_turn, trace_of}
use Rattle.fk_run.specs.Legal.{Legal, LegalTurns}
use Rattle.fk_run.specs.Headline.{turns_begun, opens_attempted, IsTurnOf, StandsInTurn, OpensByGrant, ClosesWhenDue, OpensOnce}
use Rattle.fk_run.proofs.Items.{none-opened, ended_polled, turns_begun-append, opens_attempted-append}
use Rattle.fk_run.proofs.Turns.{most-one, turns_begun-front, opens-in_turn, settled_in-front, settlements-front, opens_attempted-front, opens_attempted-whole, settles-in_turn}
use Rattle.fk_run.proofs.Closings.{closes-in_turn}
use Rattle.fk_run.proofs.Fronts.{items_of, made_by, ids_of, ids-append, past-after_turns, ledger-after_turns, AreWhole, front-whole, turn-at, begun-front, settled-front, attempted-front, InTurn, in-turn, with_more, whole-attempt, made-turns}
use Rattle.fk_run.proofs.Ledgers.{ledger-made}
use Rattle.fk_run.proofs.Leaves.{leaves-made}

-- an attempt of a legal run: the turn in which it stands, and the whole turn that begins with it
record AttemptAt (run : Run) (before : List Item) (item : Item) : Type 0 where
  at : InTurn run.turns before item
  missing : List Item
  whole : WholeTurn run.rules (after_turns (entry run.ledger) at.front) (with_more at.taken missing)
  fronts : AreWhole run.rules (entry run.ledger) at.front

attempt-at : (run : Run) → Legal run → (before : List Item) (item : Item) (later : List Item) (purpose : Purpose) (words : List (List ℕ)) → trace_of run ≡ before ++ item ∷ later → IsAttempt purpose words item.event
    → AttemptAt run before item
attempt-at run legal before item later purpose words e h =
    let at : InTurn run.turns before item = in-turn run.turns before item later e in
    let turns : LegalTurns run.rules (entry run.ledger) run.ending (at.front ++ at.taken ∷ at.later) = subst (λ (ts : List TakenTurn). LegalTurns run.rules (entry run.ledger) run.ending ts) at.placed legal.turns in
    let found : WholeTurn run.rules (after_turns (entry run.ledger) at.front) at.taken ⊎ (Unit {0} × CutTurn run.rules (after_turns (entry run.ledger) at.front) at.taken) =
    elim (turn-at run.rules run.ending (entry run.ledger) at.front at.taken at.later turns) [ inl w ↦ inl w | inr cut ↦ inr (tt, cut.2) ] in
    let whole = whole-attempt item purpose words (Contains-place at.taken.items at.items item at.rest at.among) h found in
    record { at = at; missing = whole.0; whole = whole.1; fronts = front-whole run.rules run.ending (entry run.ledger) at.front at.taken at.later turns }

module _ {run : Run} {before : List Item} {item : Item} (found : AttemptAt run before item) (purpose : Purpose) (words : List (List ℕ)) (h : IsAttempt purpose words item.event) where
  placed-in : found.at.taken.items ++ found.missing ≡ found.at.items ++ item ∷ (found.at.rest ++ found.missing)
  placed-in = ap (λ xs. xs ++ found.missing) found.at.among ∙ append_assoc found.at.items (item ∷ found.at.rest) found.missing

  abbrev stands-in : StandsInTurn run before item
  stands-in =
      let at = found.at in
      let fronts = begun-front run.rules (entry run.ledger) at.front found.fronts in
      let one = turns_begun-front found.whole at.items item (at.rest ++ found.missing) purpose words placed-in h in
      let joined = turns_begun-append (items_of at.front) at.items in
      record {
        front = at.front;
        taken = at.taken;
        turn = record { later = at.later; placed = at.placed };
        items = at.items;
        rest = at.rest;
        among = at.among;
        since = at.since;
        begun = ap turns_begun at.since ∙ omega arith;
      }

-- its changes may be made over the ledger that it found
pub made-run : (run : Run) → Legal run → AreMade Whatever run.ledger (changes_of run)
made-run run legal = made-turns run.rules run.ending (entry run.ledger) run.turns legal.turns

-- an open is attempted only for a datagram of the same turn that is granted
pub opens-run : (run : Run) → Legal run → (before : List Item) (item : Item) (later : List Item) (id : ℕ) (words : List (List ℕ)) → trace_of run ≡ before ++ item ∷ later → IsAttempt (Open id) words item.event
    → OpensByGrant run before item id words
opens-run run legal before item later id words e h =
    let found = attempt-at run legal before item later (Open id) words e h in
    let placed = placed-in found (Open id) words h in
    let opened = opens-in_turn found.whole found.at.items item (found.at.rest ++ found.missing) id words placed h in
    let settled = settlements-front found.whole found.at.items item (found.at.rest ++ found.missing) (Open id) words placed h in
    let place : Place = after_turns (entry run.ledger) found.at.front in
    record {
      at = stands-in found (Open id) words h;
      place = place;
      reached = refl;
      granted = opened.0;
      making = opened.1;
      made = opened.2 ∙ ap (λ (changes : List Change). changes ++ opened.1) (sym settled);
      by_grant = subst (λ (changes : List Change). IsGranted run.rules (after place.ledger changes) found.at.taken.turn opened.0 opened.1 words) (sym settled) opened.3;
      numbered = opened.4;
    }

-- a close is attempted only for a live record that is due and idle
pub closes-run : (run : Run) → Legal run → (before : List Item) (item : Item) (later : List Item) (id : ℕ) (words : List (List ℕ)) → trace_of run ≡ before ++ item ∷ later → IsAttempt (Close id) words item.event
    → ClosesWhenDue run before item id words
closes-run run legal before item later id words e h =
    let found = attempt-at run legal before item later (Close id) words e h in
    let at = found.at in
    let placed = placed-in found (Close id) words h in
    let rest : List Item = at.rest ++ found.missing in
    let place : Place = after_turns (entry run.ledger) at.front in
    let closed = closes-in_turn found.whole at.items item rest id words placed h in
    let past = past-after_turns (entry run.ledger) at.front in
    let settled : settled_in [] before ≡ dones (made_by at.front ++ at.taken.changes) =
    ap (settled_in []) at.since ∙ settled_in-append [] (items_of at.front) at.items
    ∙ ap (λ (ids : List ℕ). ids ++ settled_in (past_after [] (items_of at.front)) at.items) (settled-front run.rules (entry run.ledger) at.front found.fronts)
    ∙ ap (λ (places : List Item). dones (made_by at.front) ++ settled_in places at.items) (sym past)
    ∙ ap (λ (ids : List ℕ). dones (made_by at.front) ++ ids) (settled_in-front found.whole at.items item rest (Close id) words placed h)
    ∙ sym (dones-append (made_by at.front) at.taken.changes) in
    let opened : opens_attempted before ≡ ids_of (made_by at.front ++ at.taken.changes) =
    ap opens_attempted at.since ∙ opens_attempted-append (items_of at.front) at.items
    ∙ ap (λ (ids : List ℕ). ids ++ opens_attempted at.items) (attempted-front run.rules (entry run.ledger) at.front found.fronts)
    ∙ ap (λ (ids : List ℕ). ids_of (made_by at.front) ++ ids) (opens_attempted-front found.whole at.items item rest id words placed h)
    ∙ sym (ids-append (made_by at.front) at.taken.changes) in
    let kept : IsLedger run.ledger → IsLedger (after place.ledger at.taken.changes) =
    λ is.
    let joined : made_by (at.front ++ at.taken ∷ at.later) ≡ (made_by at.front ++ at.taken.changes) ++ made_by at.later =
    flat_map-append (λ (taken : TakenTurn). taken.changes) at.front (at.taken ∷ at.later) ∙ sym (append_assoc (made_by at.front) at.taken.changes (made_by at.later)) in
    let made : AreMade IsLive run.ledger ((made_by at.front ++ at.taken.changes) ++ made_by at.later) =
    subst (λ (changes : List Change). AreMade IsLive run.ledger changes) joined
    (subst (λ (turns : List TakenTurn). AreMade IsLive run.ledger (made_by turns)) at.placed (leaves-made run legal is)) in
    let here : after place.ledger at.taken.changes ≡ after run.ledger (made_by at.front ++ at.taken.changes) =
    ap (λ (ledger : List Change). after ledger at.taken.changes) (ledger-after_turns (entry run.ledger) at.front) ∙ sym (after-append run.ledger (made_by at.front) at.taken.changes) in
    subst IsLedger (sym here)
    (ledger-made run.ledger (made_by at.front ++ at.taken.changes) is (made-front IsLive run.ledger (made_by at.front ++ at.taken.changes) (made_by at.later) made)) in
    record {
      at = stands-in found (Close id) words h;
      place = _;
      reached = refl;
      so_far = record { settled = sym settled; recorded = sym opened };
      closing = closed.0;
      lives = closed.1;
      due = closed.2;
      idle = λ is. closed.3 (kept is);
      numbered = closed.4;
      with_words = closed.5;
    }

-- a record is settled only by a clean close of it that ended well in the same turn
ends-cut : {rules : Rules} {place : Place} {taken : TakenTurn} (id : ℕ) → CutTurn rules place taken → Contains (dones taken.changes) id → EndedCleanly place.past taken.items id
ends-cut {taken = taken} id cut m =
    let all : Contains (dones (taken.changes ++ cut.unmade)) id = rw (dones-append taken.changes cut.unmade) (Contains-append_left (dones taken.changes) (dones cut.unmade) id m) in
    let whole = settles-in_turn cut.whole id all in
    elim (cases_joined taken.items cut.missing whole.before whole.ended whole.after whole.placed) [
      | inl here ↦ record {
        before = whole.before;
        ended = whole.ended;
        after = here.0;
        number = whole.number;
        placed = here.1;
        well = whole.well;
        closes = whole.closes;
        clean = whole.clean;
      }
      | inr behind ↦ elim cut.polls_before_changes [
        | inl none ↦ absurd (let some = rw none at m in omega (arith, some.1))
        | inr none ↦ absurd (ended_polled whole.ended.event whole.number true whole.well
            (Contains-recursion (λ (x : Item). IsNoPoll x.event) cut.missing whole.ended none (Contains-place cut.missing behind.0 whole.ended whole.after behind.2)))
      ]
    ]

pub ends-run : (run : Run) → Legal run → (front : List TakenTurn) (taken : TakenTurn) → IsTurnOf run front taken → (id : ℕ) → Contains (dones taken.changes) id
    → EndedCleanly (after_turns (entry run.ledger) front).past taken.items id
ends-run run legal front taken turn id m =
    elim (turn-at run.rules run.ending (entry run.ledger) front taken turn.later (subst (λ (ts : List TakenTurn). LegalTurns run.rules (entry run.ledger) run.ending ts) turn.placed legal.turns)) [
      | inl whole ↦ settles-in_turn whole id m
      | inr cut ↦ ends-cut id cut.2 m
    ]

-- a Done of these turns is that of a record of which a clean close has ended well in them
settled-turns : (rules : Rules) (ending : Ending) (turns : List TakenTurn) (place : Place) → LegalTurns rules place ending turns → (id : ℕ)
    → Contains (dones (made_by turns)) id → EndedCleanly place.past (items_of turns) id
settled-turns rules ending [] place legal id m = absurd (omega (arith, m.1))
settled-turns rules ending (taken ∷ later) place (inl whole) id m =
    elim (Contains-append_cases (dones taken.changes) (dones (made_by later)) id (subst (λ (ids : List ℕ). Contains ids id) (dones-append taken.changes (made_by later)) m)) [
      | inl here ↦ ends-longer place.past taken.items (items_of later) id (settles-in_turn whole.0 id here)
      | inr there ↦ ends-later place.past taken.items (items_of later) id (settled-turns rules ending later (after_turn place taken) whole.1 id there)
    ]
settled-turns rules ending (taken ∷ later) place (inr cut) id m =
    elim (Contains-append_cases (dones taken.changes) (dones (made_by later)) id (subst (λ (ids : List ℕ). Contains ids id) (dones-append taken.changes (made_by later)) m)) [
      | inl here ↦ ends-longer place.past taken.items (items_of later) id (ends-cut id cut.2 here)
      | inr there ↦ absurd (let none = subst (λ (turns : List TakenTurn). Contains (dones (made_by turns)) id) cut.1 there in omega (arith, none.1))
    ]

-- and so is each of a run, however it ends
pub settled-run : (run : Run) → Legal run → (id : ℕ) → Contains (dones (changes_of run)) id → EndedCleanly [] (trace_of run) id
settled-run run legal id m = settled-turns run.rules run.ending run.turns (entry run.ledger) legal.turns id m

-- the records of these turns: each opened once but perhaps for the last
record OpensEach (ending : Ending) (trace : List Item) (changes : List Change) : Type 0 where
  unattempted : List ℕ
  attempted : opens_attempted trace ++ unattempted ≡ ids_of changes
  last : length unattempted ≤ 1
  whole : cuts_turn ending ≡ false → unattempted ≡ []

-- those of one turn and of the turns behind it
each-joined : {ending : Ending} (items later : List Item) (made others : List Change) → opens_attempted items ≡ ids_of made → OpensEach ending later others → OpensEach ending (items ++ later) (made ++ others)
each-joined items later made others attempted rest = record {
  unattempted = rest.unattempted;
  attempted =
      ap (λ xs. xs ++ rest.unattempted) (opens_attempted-append items later) ∙ append_assoc (opens_attempted items) (opens_attempted later) rest.unattempted
      ∙ ap (λ xs. xs ++ (opens_attempted later ++ rest.unattempted)) attempted ∙ ap (λ xs. ids_of made ++ xs) rest.attempted ∙ sym (ids-append made others);
  last = rest.last;
  whole = rest.whole;
}

module _ {rules : Rules} {place : Place} {taken : TakenTurn} (ending : Ending) (may : IsTrue (cuts_turn ending)) (cut : CutTurn rules place taken) where
  cut-attempted : (left : List ℕ) × (opens_attempted taken.items ++ left ≡ ids_of taken.changes)
  cut-attempted =
      elim cut.changes_before_attempts [
        | inl none ↦ (
          opens_attempted cut.missing,
          sym (opens_attempted-append taken.items cut.missing) ∙ opens_attempted-whole cut.whole ∙ ids-append taken.changes cut.unmade ∙ ap (λ made. ids_of taken.changes ++ ids_of made) none
              ∙ append-nil (ids_of taken.changes),
        )
        | inr none ↦ (ids_of taken.changes, ap (λ xs. xs ++ ids_of taken.changes) (none-opened taken.items none))
      ]

  each-cut : OpensEach ending taken.items taken.changes
  each-cut =
      let attempted = cut-attempted in
      let most = most-one cut.whole in
      let all = ap length (opens-append taken.changes cut.unmade) ∙ length-append (opens taken.changes) (opens cut.unmade) in
      let made = length-map (opens taken.changes) (λ (item : OpenRecord). item.id) in
      let counted = sym (length-append (opens_attempted taken.items) attempted.0) ∙ ap length attempted.1 in
      record { unattempted = attempted.0; attempted = attempted.1; last = omega arith; whole = λ f. absurd (let t = may in cc) }

each-turn : (rules : Rules) (ending : Ending) (turns : List TakenTurn) (place : Place) → LegalTurns rules place ending turns → OpensEach ending (items_of turns) (made_by turns)
each-turn rules ending [] place legal = record { unattempted = []; attempted = refl; last = omega arith; whole = λ f. refl }
each-turn rules ending (taken ∷ later) place legal =
    elim legal [
      | inl w ↦ each-joined taken.items (items_of later) taken.changes (made_by later) (opens_attempted-whole w.0) (each-turn rules ending later (after_turn place taken) w.1)
      | inr cut ↦
          subst (λ (turns : List TakenTurn). OpensEach ending (taken.items ++ items_of turns) (taken.changes ++ made_by turns)) (sym cut.1)
          (subst (λ (trace : List Item). OpensEach ending trace (taken.changes ++ [])) (sym (append-nil taken.items))
          (subst (λ (changes : List Change). OpensEach ending taken.items changes) (sym (append-nil taken.changes)) (each-cut ending cut.0 cut.2)))
    ]

-- the records of a run are numbered on, each is opened at most once, and no key stands twice
pub once-run : (run : Run) → Legal run → OpensOnce run
once-run run legal =
    let each = each-turn run.rules run.ending run.turns (entry run.ledger) legal.turns in
    let made = made-run run legal in
    record {
      unattempted = each.unattempted;
      attempted = each.attempted;
      last = each.last;
      whole = each.whole;
      numbered = (made-numbered Whatever run.ledger (changes_of run) made).0;
      apart = made-apart Whatever run.ledger (changes_of run) made;
      fresh = made-fresh Whatever run.ledger (changes_of run) made;
    }
