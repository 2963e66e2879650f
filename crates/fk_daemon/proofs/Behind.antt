-- What one more turn adds to a list of turns that were served whole.
use Rattle.std.proofs.Common.{◌≡◌, ℕ, ◌+◌, ◌<◌, ◌≤◌, cond, IsTrue, List, [], ◌∷◌, ◌++◌, length, Option, Some, None, refl, sym, ap, ◌∙◌, subst, ◌⊎◌, inl, inr, append_assoc, append-nil, length-append, arith}
use Rattle.std.specs.List.{flat_map}
use Rattle.std.proofs.lemmas.Grind.{flat_map-append}
use Rattle.std.proofs.lemmas.Bool.Decides.{nat_tests}
use Rattle.std.proofs.lemmas.List.Sums.{sum_by-append}
use Rattle.fk_trace.specs.declared.change.Change.{Change}
use Rattle.fk_trace.specs.Trace.{Item}
use Rattle.fk_trace.specs.Ledger.{after}
use Rattle.fk_trace.specs.Decision.{FeedTurn, Rules, answer, recorded_by}
use Rattle.fk_trace.proofs.Ledgers.{after-append}
use Rattle.fk_trace.proofs.Splits.{cases_joined, none_before}
use Rattle.fk_run.specs.Place.{Place}
use Rattle.fk_run.specs.Turn.{TakenTurn, WholeTurn, CutTurn, after_turn, after_turns}
use Rattle.fk_run.specs.Run.{Ending, cuts_turn}
use Rattle.fk_run.specs.Run.Ending.{AtLimit}
use Rattle.fk_run.specs.Legal.{LegalTurns}
use Rattle.fk_run.specs.Ending.{packets_in, is_datagram}
use Rattle.fk_run.specs.Planned.{planned_turn, planned_turns}
use Rattle.fk_run.proofs.Turns.{settlements-whole}
use Rattle.fk_host.specs.Feed.{Given, GivesTurns}
use Rattle.fk_log.specs.Log.{last_items}
use Rattle.fk_log.specs.Log.Opening.{Opened}
use Rattle.fk_daemon.specs.Outside.{Feeds}

pub order : (m n : ℕ) → (m ≤ n) ⊎ (n < m)
order m n = grind (arith, nat_tests)

abbrev pub items_in : List TakenTurn → List Item
items_in turns = flat_map (λ taken. taken.items) turns

abbrev pub changes_in : List TakenTurn → List Change
changes_in turns = flat_map (λ taken. taken.changes) turns

pub items-push : (turns : List TakenTurn) (last : TakenTurn) → items_in (turns ++ last ∷ []) ≡ items_in turns ++ last.items
items-push turns last = flat_map-append (λ (taken : TakenTurn). taken.items) turns (last ∷ []) ∙ ap (λ (items : List Item). items_in turns ++ items) (append-nil last.items)

pub changes-push : (turns : List TakenTurn) (last : TakenTurn) → changes_in (turns ++ last ∷ []) ≡ changes_in turns ++ last.changes
changes-push turns last = flat_map-append (λ (taken : TakenTurn). taken.changes) turns (last ∷ []) ∙ ap (λ (changes : List Change). changes_in turns ++ changes) (append-nil last.changes)

pub place-push : (place : Place) (turns : List TakenTurn) (last : TakenTurn) → after_turns place (turns ++ last ∷ []) ≡ after_turn (after_turns place turns) last
place-push place [] last = refl
place-push place (first ∷ turns) last = place-push (after_turn place first) turns last

pub ledger-behind : (place : Place) (turns : List TakenTurn) → (after_turns place turns).ledger ≡ after place.ledger (changes_in turns)
ledger-behind place [] = refl
ledger-behind place (first ∷ turns) = ledger-behind (after_turn place first) turns ∙ sym (after-append place.ledger first.changes (changes_in turns))

pub number-behind : (place : Place) (turns : List TakenTurn) → (after_turns place turns).number ≡ place.number + length turns
number-behind place [] = omega arith
number-behind place (first ∷ turns) = let later = number-behind (after_turn place first) turns in omega arith

pub packets-push : (turns : List TakenTurn) (last : TakenTurn) → packets_in (turns ++ last ∷ []) ≡ packets_in turns + cond (is_datagram last.turn.input) 1 0
packets-push turns last =
    let both = sum_by-append (λ (taken : TakenTurn). cond (is_datagram taken.turn.input) 1 0) turns (last ∷ []) in
    omega (arith, both)

-- the items of the last turn
pub last-push : (items : List Item) (turns : List TakenTurn) (last : TakenTurn) → last_items items (turns ++ last ∷ []) ≡ last.items
last-push items [] last = refl
last-push items (first ∷ turns) last = last-push first.items turns last

-- whole turns, and what may follow them
pub legal-then : (rules : Rules) (place : Place) (ending : Ending) (turns later : List TakenTurn)
    → LegalTurns rules place AtLimit turns → LegalTurns rules (after_turns place turns) ending later → LegalTurns rules place ending (turns ++ later)
legal-then rules place ending [] later whole rest = rest
legal-then rules place ending (first ∷ turns) later whole rest =
    elim whole [
      | inl w ↦ inl (w.0, legal-then rules (after_turn place first) ending turns later w.1 rest)
      | inr cut ↦ absurd (let never = cut.0 in cc)
    ]

pub legal-whole : (rules : Rules) (place : Place) (ending : Ending) (turns : List TakenTurn) → LegalTurns rules place AtLimit turns → LegalTurns rules place ending turns
legal-whole rules place ending turns whole =
    subst (λ (all : List TakenTurn). LegalTurns rules place ending all) (append-nil turns) (legal-then rules place ending turns [] whole tt)

pub legal-push : (rules : Rules) (place : Place) (turns : List TakenTurn) (last : TakenTurn)
    → LegalTurns rules place AtLimit turns → WholeTurn rules (after_turns place turns) last → LegalTurns rules place AtLimit (turns ++ last ∷ [])
legal-push rules place turns last whole next = legal-then rules place AtLimit turns (last ∷ []) whole (inl (next, tt))

pub legal-cut : (rules : Rules) (place : Place) (ending : Ending) (turns : List TakenTurn) (last : TakenTurn)
    → IsTrue (cuts_turn ending) → LegalTurns rules place AtLimit turns → CutTurn rules (after_turns place turns) last → LegalTurns rules place ending (turns ++ last ∷ [])
legal-cut rules place ending turns last may whole next = legal-then rules place ending turns (last ∷ []) whole (inr (may, refl, next))

module _ {rules : Rules} {place : Place} {taken : TakenTurn} where
  -- a whole turn makes what is planned for it
  planned-whole : WholeTurn rules place taken → planned_turn rules place taken ≡ taken.changes
  planned-whole whole =
      ap (λ (settled : List Change). settled ++ recorded_by (answer rules (after place.ledger settled) taken.turn)) (settlements-whole whole)
      ∙ ap (λ (recorded : List Change). whole.settled ++ recorded) (sym whole.records_what_is_granted) ∙ sym whole.nothing_else.2

-- what is planned for whole turns and a last one is what they made, and what is planned for that one
pub planned-push : (rules : Rules) (place : Place) (turns : List TakenTurn) (last : TakenTurn) → LegalTurns rules place AtLimit turns
    → flat_map (λ changes. changes) (planned_turns rules place (turns ++ last ∷ [])) ≡ changes_in turns ++ planned_turn rules (after_turns place turns) last
planned-push rules place [] last whole = append-nil (planned_turn rules place last)
planned-push rules place (first ∷ turns) last whole =
    let planned : List Change → List Change = λ made. flat_map (λ (cs : List Change). cs) (planned_turns rules (after_turn place (record first { changes = made })) (turns ++ last ∷ [])) in
    elim whole [
      | inl w ↦
          ap (λ (made : List Change). made ++ planned made) (planned-whole w.0)
          ∙ ap (λ (made : List Change). first.changes ++ made) (planned-push rules (after_turn place first) turns last w.1)
          ∙ sym (append_assoc first.changes (changes_in turns) (planned_turn rules (after_turns (after_turn place first) turns) last))
      | inr cut ↦ absurd (let never = cut.0 in cc)
    ]

-- the feed gave more turns
pub feeds-then : (port : ℕ) (turns later : List FeedTurn) (old mid new : Option Given)
    → Feeds Opened port turns old mid → GivesTurns later mid new → Feeds Opened port (turns ++ later) old new
feeds-then port turns later None mid new first next = tt
feeds-then port turns later (Some given) mid new first next =
    let now : new ≡ Some (record { turns = (given.turns ++ turns) ++ later; port = Some port }) =
    subst (λ (m : Option Given). GivesTurns later m new) first next in
    now ∙ ap (λ (all : List FeedTurn). Some (record { turns = all; port = Some port })) (append_assoc given.turns turns later)

-- a place in a list with one turn more is in the list, or is the last
pub cases-push : (turns : List TakenTurn) (last : TakenTurn) (front : List TakenTurn) (taken : TakenTurn) (later : List TakenTurn)
    → turns ++ last ∷ [] ≡ front ++ taken ∷ later
    → ((rest : List TakenTurn) × (turns ≡ front ++ taken ∷ rest)) ⊎ ((front ≡ turns) × (taken ≡ last))
cases-push turns last front taken later e =
    elim (cases_joined turns (last ∷ []) front taken later e) [
      | inl within ↦ inl within
      | inr behind ↦ inr (alone turns last front taken later behind.0 behind.1 behind.2)
    ]
  where
    alone : (turns : List TakenTurn) (last : TakenTurn) (front : List TakenTurn) (taken : TakenTurn) (later : List TakenTurn) (more : List TakenTurn)
        → front ≡ turns ++ more → last ∷ [] ≡ more ++ taken ∷ later → (front ≡ turns) × (taken ≡ last)
    alone turns last front taken later [] e f = (e ∙ append-nil turns, cc)
    alone turns last front taken later (m ∷ more) e f = absurd (none_before more taken later cc)

-- the last of one list of turns is the last of the other
pub last-one : (turns front : List TakenTurn) (last end : TakenTurn) → turns ++ last ∷ [] ≡ front ++ end ∷ [] → (front ≡ turns) × (end ≡ last)
last-one turns front last end e =
    elim (cases_joined turns (last ∷ []) front end [] e) [
      | inl within ↦ absurd (too_long turns last front end within.0 within.1 e)
      | inr behind ↦ alone_last turns last front end behind.0 behind.1 behind.2
    ]
  where
    too_long : (turns : List TakenTurn) (last : TakenTurn) (front : List TakenTurn) (end : TakenTurn) (rest : List TakenTurn)
        → turns ≡ front ++ end ∷ rest → turns ++ last ∷ [] ≡ front ++ end ∷ [] → ⊥
    too_long turns last front end rest e f =
        let a = ap length e in
        let b = ap length f in
        let c = length-append turns (last ∷ []) in
        let d = length-append front (end ∷ []) in
        let g = length-append front (end ∷ rest) in
        omega (arith, a, b, c, d, g)

    alone_last : (turns : List TakenTurn) (last : TakenTurn) (front : List TakenTurn) (end : TakenTurn) (more : List TakenTurn)
        → front ≡ turns ++ more → last ∷ [] ≡ more ++ end ∷ [] → (front ≡ turns) × (end ≡ last)
    alone_last turns last front end [] e f = (e ∙ append-nil turns, cc)
    alone_last turns last front end (m ∷ more) e f = absurd (none_before more end [] cc)
