-- A turn among the turns of a legal run: those in front of it are whole, and it is whole or is cut as the last.
use Rattle.std.proofs.Common.{◌≡◌, ℕ, List, [], ◌∷◌, ◌++◌, length, map, refl, sym, ap, ◌∙◌, subst, arith, ◌⊎◌, inl, inr, append_assoc, append-nil}
use Rattle.std.specs.Prelude.{IsTrue}
use Rattle.std.specs.List.{flat_map, Contains}
use Rattle.std.proofs.lemmas.List.{map-append}
use Rattle.fk_base.specs.declared.purpose.Purpose.{Purpose}
use Rattle.fk_trace.specs.declared.change.OpenRecord.{OpenRecord}
use Rattle.fk_trace.specs.declared.change.Change.{Change}
use Rattle.fk_trace.specs.Trace.{Item, past_after}
use Rattle.fk_trace.specs.Ledger.{opens, dones, after}
use Rattle.fk_trace.specs.Decision.{Rules}
use Rattle.fk_trace.specs.Settled.{settled_in}
use Rattle.fk_trace.specs.Attempts.{IsAttempt, IsNoAttempt}
use Rattle.fk_trace.proofs.Splits.{cases_joined, none_before, Contains-recursion}
use Rattle.fk_trace.proofs.Ledgers.{opens-append, dones-append, after-append}
use Rattle.fk_trace.proofs.Settled.{past_after-append, settled_in-append}
use Rattle.fk_run.specs.Place.{Place}
use Rattle.fk_run.specs.Turn.{TakenTurn, WholeTurn, CutTurn, after_turn, after_turns}
use Rattle.fk_run.specs.Run.{Ending, cuts_turn}
use Rattle.fk_run.specs.Legal.{LegalTurns}
use Rattle.fk_run.specs.Headline.{turns_begun, opens_attempted}
use Rattle.fk_run.proofs.Items.{no_attempt, turns_begun-append, opens_attempted-append}
use Rattle.fk_trace.proofs.Made.{AreMade, Whatever, made-joined, made-front}
use Rattle.fk_run.proofs.Turns.{whole-made, turns_begun-whole, settled_in-whole, opens_attempted-whole}

abbrev pub items_of : List TakenTurn → List Item
items_of turns = flat_map (λ taken. taken.items) turns

abbrev pub made_by : List TakenTurn → List Change
made_by turns = flat_map (λ taken. taken.changes) turns

abbrev pub ids_of : List Change → List ℕ
ids_of changes = map (λ item. item.id) (opens changes)

pub ids-append : (a b : List Change) → ids_of (a ++ b) ≡ ids_of a ++ ids_of b
ids-append a b = ap (map (λ (item : OpenRecord). item.id)) (opens-append a b) ∙ map-append (λ (item : OpenRecord). item.id) (opens a) (opens b)

-- the past and the ledger after these turns
pub past-after_turns : (place : Place) (front : List TakenTurn) → (after_turns place front).past ≡ past_after place.past (flat_map (λ taken. taken.items) front)
past-after_turns place [] = refl
past-after_turns place (first ∷ front) = past-after_turns (after_turn place first) front ∙ sym (past_after-append place.past first.items (items_of front))

pub ledger-after_turns : (place : Place) (front : List TakenTurn) → (after_turns place front).ledger ≡ after place.ledger (made_by front)
ledger-after_turns place [] = refl
ledger-after_turns place (first ∷ front) = ledger-after_turns (after_turn place first) front ∙ sym (after-append place.ledger first.changes (made_by front))

-- whole turns, one after another
abbrev pub AreWhole : Rules → Place → List TakenTurn → Type 0
AreWhole rules place [] = Unit {0}
AreWhole rules place (taken ∷ later) = WholeTurn rules place taken × AreWhole rules (after_turn place taken) later

pub front-whole : (rules : Rules) (ending : Ending) (place : Place) (front : List TakenTurn) (taken : TakenTurn) (later : List TakenTurn) → LegalTurns rules place ending (front ++ taken ∷ later)
    → AreWhole rules place front
front-whole rules ending place [] taken later legal = tt
front-whole rules ending place (first ∷ front) taken later legal =
    elim legal [
      | inl w ↦ (w.0, front-whole rules ending (after_turn place first) front taken later w.1)
      | inr cut ↦ absurd (none_before front taken later (sym cut.1))
    ]

pub turn-at : (rules : Rules) (ending : Ending) (place : Place) (front : List TakenTurn) (taken : TakenTurn) (later : List TakenTurn) → LegalTurns rules place ending (front ++ taken ∷ later)
    → WholeTurn rules (after_turns place front) taken ⊎ (IsTrue (cuts_turn ending) × (later ≡ []) × CutTurn rules (after_turns place front) taken)
turn-at rules ending place [] taken later legal = elim legal [ inl w ↦ inl (w.0) | inr cut ↦ inr cut ]
turn-at rules ending place (first ∷ front) taken later legal =
    elim legal [
      | inl w ↦ turn-at rules ending (after_turn place first) front taken later w.1
      | inr cut ↦ absurd (none_before front taken later (sym cut.1))
    ]

-- as many turns begin in their items as they are
pub begun-front : (rules : Rules) (place : Place) (front : List TakenTurn) → AreWhole rules place front → turns_begun (items_of front) ≡ length front
begun-front rules place [] whole = refl
begun-front rules place (first ∷ front) whole =
    let one = turns_begun-whole whole.0 in
    let rest = begun-front rules (after_turn place first) front whole.1 in
    let joined = turns_begun-append first.items (items_of front) in
    omega arith

-- their changes are made by their items
pub settled-front : (rules : Rules) (place : Place) (front : List TakenTurn) → AreWhole rules place front → settled_in place.past (items_of front) ≡ dones (made_by front)
settled-front rules place [] whole = refl
settled-front rules place (first ∷ front) whole =
    settled_in-append place.past first.items (items_of front) ∙ ap (λ xs. xs ++ settled_in (past_after place.past first.items) (items_of front)) (settled_in-whole whole.0)
    ∙ ap (λ xs. dones first.changes ++ xs) (settled-front rules (after_turn place first) front whole.1) ∙ sym (dones-append first.changes (made_by front))

pub attempted-front : (rules : Rules) (place : Place) (front : List TakenTurn) → AreWhole rules place front → opens_attempted (items_of front) ≡ ids_of (made_by front)
attempted-front rules place [] whole = refl
attempted-front rules place (first ∷ front) whole =
    opens_attempted-append first.items (items_of front) ∙ ap (λ xs. xs ++ opens_attempted (items_of front)) (opens_attempted-whole whole.0)
    ∙ ap (λ xs. ids_of first.changes ++ xs) (attempted-front rules (after_turn place first) front whole.1) ∙ sym (ids-append first.changes (made_by front))

-- what they made may be made over the ledger at their place
pub made-front_turns : (rules : Rules) (place : Place) (front : List TakenTurn) → AreWhole rules place front → AreMade Whatever place.ledger (made_by front)
made-front_turns rules place [] whole = tt
made-front_turns rules place (first ∷ front) whole =
    made-joined Whatever place.ledger first.changes (made_by front) (whole-made whole.0) (made-front_turns rules (after_turn place first) front whole.1)

-- and so may all that legal turns make
pub made-turns : (rules : Rules) (ending : Ending) (place : Place) (turns : List TakenTurn) → LegalTurns rules place ending turns → AreMade Whatever place.ledger (made_by turns)
made-turns rules ending place [] legal = tt
made-turns rules ending place (taken ∷ later) (inl w) =
    made-joined Whatever place.ledger taken.changes (made_by later) (whole-made w.0) (made-turns rules ending (after_turn place taken) later w.1)
made-turns rules ending place (taken ∷ later) (inr cut) =
    let front : AreMade Whatever place.ledger taken.changes = made-front Whatever place.ledger taken.changes cut.2.unmade (whole-made cut.2.whole) in
    subst (λ (turns : List TakenTurn). AreMade Whatever place.ledger (taken.changes ++ made_by turns)) (sym cut.1)
    (subst (λ (changes : List Change). AreMade Whatever place.ledger changes) (sym (append-nil taken.changes)) front)

-- the turn in which an item of the trace stands
pub record InTurn (turns : List TakenTurn) (before : List Item) (item : Item) : Type 0 where
  pub front : List TakenTurn
  pub taken : TakenTurn
  pub later : List TakenTurn
  pub items : List Item
  pub rest : List Item
  pub placed : turns ≡ front ++ taken ∷ later
  pub among : taken.items ≡ items ++ item ∷ rest
  pub since : before ≡ items_of front ++ items

pub in-turn : (turns : List TakenTurn) (before : List Item) (item : Item) (after : List Item) → items_of turns ≡ before ++ item ∷ after → InTurn turns before item
in-turn [] before item after e = absurd (none_before before item after e)
in-turn (first ∷ turns) before item after e =
    elim (cases_joined first.items (items_of turns) before item after e) [
      | inl here ↦ record { front = []; taken = first; later = turns; items = before; rest = here.0; placed = refl; among = here.1; since = refl }
      | inr behind ↦
          let at = in-turn turns behind.0 item after behind.2 in
          record {
            front = first ∷ at.front;
            taken = at.taken;
            later = at.later;
            items = at.items;
            rest = at.rest;
            placed = ap (λ ts. first ∷ ts) at.placed;
            among = at.among;
            since = behind.1 ∙ ap (λ xs. first.items ++ xs) at.since ∙ sym (append_assoc first.items (items_of at.front) at.items);
          }
    ]

-- a turn with these items at least, and these changes
abbrev pub with_more : TakenTurn → List Item → TakenTurn
with_more taken missing = record taken { items = taken.items ++ missing }

module _ {rules : Rules} {place : Place} {taken : TakenTurn} where
  -- the turn of an attempt is the beginning of a whole one with its changes
  pub whole-attempt : (item : Item) (purpose : Purpose) (words : List (List ℕ)) → Contains taken.items item → IsAttempt purpose words item.event → {may : Type 0}
      → WholeTurn rules place taken ⊎ (may × CutTurn rules place taken) → (missing : List Item) × WholeTurn rules place (with_more taken missing)
  whole-attempt item purpose words m h (inl whole) = ([], subst (λ (items : List Item). WholeTurn rules place (record taken { items = items })) (sym (append-nil taken.items)) whole)
  whole-attempt item purpose words m h (inr cut) =
      let unmade : cut.1.unmade ≡ [] =
      elim cut.1.changes_before_attempts [
        | inl none ↦ none
        | inr none ↦ absurd (no_attempt purpose words item.event h (Contains-recursion (λ (x : Item). IsNoAttempt x.event) taken.items item none m))
      ] in
      let same : taken.changes ++ cut.1.unmade ≡ taken.changes = ap (λ (changes : List Change). taken.changes ++ changes) unmade ∙ append-nil taken.changes in
      (cut.1.missing, subst (λ (changes : List Change). WholeTurn rules place (record taken { items = taken.items ++ cut.1.missing; changes = changes })) same cut.1.whole)
