-- What one more turn adds to a list of turns that were served whole.
use Rattle.std.proofs.Common.{◌≡◌, ◌+◌, List, [], ◌∷◌, ◌++◌, length, refl, sym, ap, ◌∙◌, inl, inr, append-nil, arith}
use Rattle.std.specs.List.{flat_map}
use Rattle.std.proofs.lemmas.Grind.{flat_map-append}
use Rattle.fk_trace.specs.declared.change.Change.{Change}
use Rattle.fk_trace.specs.Trace.{Item}
use Rattle.fk_trace.specs.Ledger.{after}
use Rattle.fk_trace.specs.Decision.{Rules}
use Rattle.fk_trace.proofs.Ledgers.{after-append}
use Rattle.fk_run.specs.Place.{Place}
use Rattle.fk_run.specs.Turn.{TakenTurn, WholeTurn, after_turn, after_turns}
use Rattle.fk_run.specs.Run.{Ending}
use Rattle.fk_run.specs.Run.Ending.{AtEnd}
use Rattle.fk_run.specs.Legal.{LegalTurns}
use Rattle.fk_trial.specs.Sessions.{items_in}

abbrev pub changes_in : List TakenTurn → List Change
changes_in turns = flat_map (λ taken. taken.changes) turns

pub items-push : (turns : List TakenTurn) (last : TakenTurn) → items_in (turns ++ last ∷ []) ≡ items_in turns ++ last.items
items-push turns last = flat_map-append (λ (taken : TakenTurn). taken.items) turns (last ∷ []) ∙ ap (λ (items : List Item). items_in turns ++ items) (append-nil last.items)

pub place-push : (place : Place) (turns : List TakenTurn) (last : TakenTurn) → after_turns place (turns ++ last ∷ []) ≡ after_turn (after_turns place turns) last
place-push place [] last = refl
place-push place (first ∷ turns) last = place-push (after_turn place first) turns last

pub ledger-behind : (place : Place) (turns : List TakenTurn) → (after_turns place turns).ledger ≡ after place.ledger (changes_in turns)
ledger-behind place [] = refl
ledger-behind place (first ∷ turns) = ledger-behind (after_turn place first) turns ∙ sym (after-append place.ledger first.changes (changes_in turns))

pub number-behind : (place : Place) (turns : List TakenTurn) → (after_turns place turns).number ≡ place.number + length turns
number-behind place [] = omega arith
number-behind place (first ∷ turns) = let later = number-behind (after_turn place first) turns in omega arith

-- whole turns are legal whatever the ending
pub legal-whole : (rules : Rules) (place : Place) (ending : Ending) (turns : List TakenTurn) → LegalTurns rules place AtEnd turns → LegalTurns rules place ending turns
legal-whole rules place ending [] whole = tt
legal-whole rules place ending (first ∷ turns) whole =
    elim whole [
      | inl w ↦ inl (w.0, legal-whole rules (after_turn place first) ending turns w.1)
      | inr cut ↦ absurd (let never = cut.0 in cc)
    ]

pub legal-push : (rules : Rules) (place : Place) (turns : List TakenTurn) (last : TakenTurn)
    → LegalTurns rules place AtEnd turns → WholeTurn rules (after_turns place turns) last → LegalTurns rules place AtEnd (turns ++ last ∷ [])
legal-push rules place [] last whole next = inl (next, tt)
legal-push rules place (first ∷ turns) last whole next =
    elim whole [
      | inl w ↦ inl (w.0, legal-push rules (after_turn place first) turns last w.1 next)
      | inr cut ↦ absurd (let never = cut.0 in cc)
    ]
