-- The closes of a turn: those that are due next, one after another.
use Rattle.std.proofs.Common.{◌≡◌, ℕ, ◌≤◌, Bool, true, false, not, ◌&&◌, ◌||◌, nat_lt, nat_le, eqb, List, [], ◌∷◌, refl, sym, ap, ◌∙◌, subst, arith, inl, inr}
use Rattle.std.specs.List.{AllPairs, AllZip, Contains}
use Rattle.std.proofs.lemmas.List.Elements.{All-contains}
use Rattle.std.proofs.lemmas.List.Folds.{list_any-append}
use Rattle.std.proofs.lemmas.Bool.{eqb-true, eqb-false, ltb-false, le-leb, and_parts, and_from, and_cases, or_parts, not-true, not_from_false, cases_order, cases_Bool}
use Rattle.fk_base.specs.declared.purpose.Purpose.{Purpose}
use Rattle.fk_base.specs.declared.purpose.Purpose.TheVariants.{Close}
use Rattle.fk_trace.specs.declared.change.OpenRecord.{OpenRecord}
use Rattle.fk_trace.specs.Trace.{Event, Item, Child, running, open_runs, close_runs, close_tried, is_open_of, is_close_of}
use Rattle.fk_trace.specs.Trace.Event.{Turn, Began, StartFailed, Ended, Runs, PollFailed}
use Rattle.fk_trace.specs.Idle.{is_idle, last_close, ended_well, rests, moments_with}
use Rattle.fk_trace.specs.Ledger.{live, IsLedger}
use Rattle.fk_trace.specs.Attempts.{IsAttempt, Precedes}
use Rattle.fk_trace.proofs.Lists.{Contains-head, Contains-tail, Contains-cases, Contains-map, Contains-unmap, All-by}
use Rattle.fk_run.specs.Place.{Place, behind}
use Rattle.fk_run.specs.Turn.{AttemptsEachDue}
use Rattle.fk_run.proofs.Ledgers.{live-one}
use Rattle.fk_cycle.specs.Stands.{Obligation, is_due, precedes}
use Rattle.fk_cycle.proofs.DueLemmas.{is_due-not_begun}
use Rattle.fk_child.specs.Crew.{obligation_of, obligations_but}
use Rattle.fk_child.specs.Calls.{IsNextClose, NoneTried, AttemptsInTurn}
use Rattle.fk_child.proofs.Counts.{pairs-cons}
use Rattle.fk_child.proofs.Records.{owed-all}
use Rattle.fk_child.proofs.Closes.{due-parts}

or_false : (b : Bool) → (b || false) ≡ b
or_false true = refl
or_false false = refl

one_less : (this closes opens well rested due tried : Bool)
    → (not (closes || (this || false)) && not ((opens || false) && well) && not rested && due && not (this || tried)) ≡ (not this && (not closes && not (opens && well) && not rested && due && not tried))
one_less true true opens well rested due tried = refl
one_less true false opens well rested due tried = refl
one_less false true opens well rested due tried = refl
one_less false false opens well rested due tried = rw (or_false opens) refl

-- a close that was attempted is due no more, and all others are due as before
due-begun : (past : List Item) (ends : List ℕ) (moment number id : ℕ) (words : List (List ℕ)) (moments faults : ℕ) (owed : Obligation)
    → is_due (record { event = Began number (Close id) words; moments = moments; faults = faults } ∷ past) ends moment owed ≡ (not (eqb id owed.id) && is_due past ends moment owed)
due-begun past ends moment number id words moments faults owed =
    let child : Child = record { number = number; purpose = Close id } in
    rw (list_any-append (λ (c : Child). is_close_of owed.id c.purpose) (running past) (child ∷ []), list_any-append (λ (c : Child). is_open_of owed.id c.purpose) (running past) (child ∷ []))
    (one_less (eqb id owed.id) (close_runs past owed.id) (open_runs past owed.id) (ended_well (last_close past ends owed.id)) (rests (last_close past ends owed.id) moment) (nat_le owed.due moment) (close_tried past owed.id))

due-attempted : (past : List Item) (ends : List ℕ) (moment id : ℕ) (words : List (List ℕ)) (event : Event) (moments faults : ℕ) (owed : Obligation) → IsAttempt (Close id) words event
    → is_due (record { event = event; moments = moments; faults = faults } ∷ past) (moments_with moment event ends) moment owed ≡ (not (eqb id owed.id) && is_due past ends moment owed)
due-attempted past ends moment id words (Turn number) moments faults owed h = absurd h
due-attempted past ends moment id words (Began number purpose others) moments faults owed h =
    subst (λ (p : Purpose). is_due (record { event = Began number p others; moments = moments; faults = faults } ∷ past) ends moment owed ≡ (not (eqb id owed.id) && is_due past ends moment owed)) (sym h.0)
    (due-begun past ends moment number id others moments faults owed)
due-attempted past ends moment id words (StartFailed purpose others) moments faults owed h =
    subst (λ (p : Purpose). is_due (record { event = StartFailed p others; moments = moments; faults = faults } ∷ past) ends moment owed ≡ (not (eqb id owed.id) && is_due past ends moment owed)) (sym h.0)
    (is_due-not_begun past ends id others moments faults moment owed)
due-attempted past ends moment id words (Ended number good) moments faults owed h = absurd h
due-attempted past ends moment id words (Runs number) moments faults owed h = absurd h
due-attempted past ends moment id words (PollFailed number) moments faults owed h = absurd h

-- of two records, the one that the other doesn't precede comes first
precedes-from : (earlier later : OpenRecord) → precedes (obligation_of later) (obligation_of earlier) ≡ false → eqb earlier.id later.id ≡ false → Precedes earlier later
precedes-from earlier later e differ =
    let no = or_parts (nat_lt later.due earlier.due) (eqb later.due earlier.due && nat_lt later.id earlier.id) e in
    let least : earlier.due ≤ later.due = ltb-false later.due earlier.due no.0 in
    let apart = eqb-false earlier.id later.id differ in
    elim (cases_order earlier.due later.due) [
      | inl same ↦ elim (and_cases (eqb later.due earlier.due) (nat_lt later.id earlier.id) no.1) [
        | inl wrong ↦ absurd (eqb-false later.due earlier.due wrong (sym same))
        | inr above ↦
            let below : earlier.id ≤ later.id = ltb-false later.id earlier.id above in
            inr (
              same,
              elim (cases_order earlier.id later.id) [
                | inl one ↦ absurd (apart one)
                | inr o ↦ elim o [ inl l ↦ l | inr l ↦ absurd (omega arith) ]
              ],
            )
      ]
      | inr o ↦ elim o [ inl l ↦ inl l | inr l ↦ absurd (omega arith) ]
    ]

-- the record's close is due at the place
abbrev IsDueAt : ℕ → Place → OpenRecord → Type 0
IsDueAt moment place item = is_due place.past place.ends moment (obligation_of item) ≡ true

-- the records whose closes are attempted, in their order
record AreAttempted (moment : ℕ) (place : Place) (items : List Item) : Type 0 where
  order : List OpenRecord
  attempted : AllZip (λ closing item. IsAttempt (Close closing.id) closing.close item.event) order items
  rising : AllPairs Precedes order
  sound : (item : OpenRecord) → Contains order item → Contains (live place.ledger) item × IsDueAt moment place item
  whole : (item : OpenRecord) → Contains (live place.ledger) item → IsDueAt moment place item → Contains order item

-- what is said of the close that is due next, by its record
next-first : (moment : ℕ) (place : Place) (closing : OpenRecord) → IsLedger place.ledger → IsNextClose moment place closing
    → IsDueAt moment place closing × ((other : OpenRecord) → Contains (live place.ledger) other → IsDueAt moment place other → precedes (obligation_of other) (obligation_of closing) ≡ false)
next-first moment place closing is close =
    let next = close.next in
    let owed = owed-all place.ledger in
    let at = Contains-unmap obligation_of (live place.ledger) next.0 (subst (λ (os : List Obligation). Contains os next.0) owed next.1) in
    let one : at.0 ≡ closing = live-one place.ledger is at.0 closing at.1 close.lives (ap (λ (o : Obligation). o.id) at.2 ∙ next.2) in
    let same : next.0 ≡ obligation_of closing = sym at.2 ∙ ap obligation_of one in (
      ap (is_due place.past place.ends moment) (sym same) ∙ next.3,
      λ other lives due. subst (λ (o : Obligation). precedes (obligation_of other) o ≡ false) same
          (All-contains (λ (o : Obligation). is_due place.past place.ends moment o ≡ true → precedes o next.0 ≡ false) (obligations_but [] place.ledger) (obligation_of other) next.4
          (subst (λ (os : List Obligation). Contains os (obligation_of other)) (sym owed) (Contains-map obligation_of (live place.ledger) other lives)) due),
    )

are-attempted : (items : List Item) (moment : ℕ) (place : Place) → IsLedger place.ledger → AttemptsInTurn moment place items → AreAttempted moment place items
are-attempted [] moment place is none = record {
  order = [];
  attempted = tt;
  rising = λ i j d l m. absurd (omega arith);
  sound = λ item m. absurd (omega (arith, m.1));
  whole = λ item lives due.
      let owed = subst (λ (os : List Obligation). Contains os (obligation_of item)) (sym (owed-all place.ledger)) (Contains-map obligation_of (live place.ledger) item lives) in
      let not_due = All-contains (λ (o : Obligation). is_due place.past place.ends moment o ≡ false) (obligations_but [] place.ledger) (obligation_of item) none owed in
      absurd cc;
}
are-attempted (item ∷ items) moment place is turn =
    let closing = turn.0.0 in
    let first = next-first moment place closing is turn.0.1 in
    let later = are-attempted items moment (behind moment place (item ∷ [])) is turn.1 in
    let less : (other : OpenRecord) → is_due (item ∷ place.past) (moments_with moment item.event place.ends) moment (obligation_of other) ≡ (not (eqb closing.id other.id) && is_due place.past place.ends moment (obligation_of other)) =
    λ other. due-attempted place.past place.ends moment closing.id closing.close item.event item.moments item.faults (obligation_of other) turn.0.2 in
    let parts : (other : OpenRecord) → Contains later.order other → (eqb closing.id other.id ≡ false) × IsDueAt moment place other =
    λ other m.
    let both = and_parts (not (eqb closing.id other.id)) (is_due place.past place.ends moment (obligation_of other)) (sym (less other) ∙ (later.sound other m).1) in
    (not-true (eqb closing.id other.id) both.0, both.1) in
    record {
      order = closing ∷ later.order;
      attempted = (turn.0.2, later.attempted);
      rising = pairs-cons Precedes closing later.order
          (All-by (Precedes closing) later.order (λ other m. precedes-from closing other (first.1 other (later.sound other m).0 (parts other m).1) (parts other m).0)) later.rising;
      sound = λ other m. elim (Contains-cases closing later.order other m) [
        | inl e ↦ subst (λ (x : OpenRecord). Contains (live place.ledger) x × IsDueAt moment place x) e (turn.0.1.lives, first.0)
        | inr n ↦ ((later.sound other n).0, (parts other n).1)
      ];
      whole = λ other lives due. elim (cases_Bool (eqb closing.id other.id)) [
        | inl t ↦
            let same : closing ≡ other = live-one place.ledger is closing other turn.0.1.lives lives (eqb-true closing.id other.id t) in
            subst (Contains (closing ∷ later.order)) same (Contains-head closing later.order)
        | inr f ↦
            Contains-tail closing later.order other
            (later.whole other lives (less other ∙ and_from (not (eqb closing.id other.id)) (is_due place.past place.ends moment (obligation_of other)) (ap not f) due))
      ];
    }

pub attempts-each : (moment : ℕ) (place : Place) (items : List Item) → IsLedger place.ledger → NoneTried place.past → AttemptsInTurn moment place items → AttemptsEachDue place moment items
attempts-each moment place items is untried turn =
    let are = are-attempted items moment place is turn in
    record {
      order = are.order;
      attempted = are.attempted;
      rising = are.rising;
      each = λ closing. (
        λ m.
            let at = are.sound closing m in
            let parts = due-parts place.past place.ends moment (obligation_of closing) at.1 in
            record { lives = at.0; due = parts.1; idle = parts.0 },
        λ due.
            are.whole closing due.lives
            (and_from (is_idle place.past place.ends moment closing.id && nat_le closing.due moment) (not (close_tried place.past closing.id))
            (and_from (is_idle place.past place.ends moment closing.id) (nat_le closing.due moment) due.idle (le-leb closing.due moment due.due)) (not_from_false (close_tried place.past closing.id) (untried closing.id))),
      );
    }
