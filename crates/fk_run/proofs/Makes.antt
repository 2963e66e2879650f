-- A legal run makes what is planned for its turns, since no attempt settles anything.
use Rattle.std.proofs.Common.{◌≡◌, ℕ, false, List, [], ◌∷◌, ◌++◌, map, refl, sym, ap, ◌∙◌, subst, inl, inr, append_assoc, append-nil}
use Rattle.std.specs.List.{flat_map}
use Rattle.fk_trace.specs.declared.change.Change.{Change}
use Rattle.fk_trace.specs.declared.change.Change.TheVariants.{Done}
use Rattle.fk_trace.specs.Trace.{past_after}
use Rattle.fk_trace.specs.Ledger.{after}
use Rattle.fk_trace.specs.Decision.{Rules, answer, recorded_by}
use Rattle.fk_trace.specs.Settled.{settled_in}
use Rattle.fk_trace.proofs.Splits.{none_before}
use Rattle.fk_trace.proofs.Settled.{settled_in-append, settled_in-none}
use Rattle.fk_run.specs.Place.{Place, entry}
use Rattle.fk_run.specs.Turn.{TakenTurn, WholeTurn, CutTurn, after_turn}
use Rattle.fk_run.specs.Run.{Run, Ending, cuts_turn, changes_by_turn}
use Rattle.fk_run.specs.Legal.{Legal, LegalTurns}
use Rattle.fk_run.specs.Planned.{planned_turn, planned_turns, MakesWhatIsPlanned}
use Rattle.fk_run.proofs.Items.{no_polls}
use Rattle.fk_run.proofs.Turns.{settlements-whole}

module _ {rules : Rules} {place : Place} {taken : TakenTurn} where
  -- a whole turn makes what is planned for it
  planned-whole : WholeTurn rules place taken → planned_turn rules place taken ≡ taken.changes
  planned-whole whole =
      ap (λ (settled : List Change). settled ++ recorded_by (answer rules (after place.ledger settled) taken.turn)) (settlements-whole whole)
      ∙ ap (λ (recorded : List Change). whole.settled ++ recorded) (sym whole.records_what_is_granted) ∙ sym whole.nothing_else.2

module _ {rules : Rules} {place : Place} {taken : TakenTurn} where
  -- a turn that is cut makes a front of it
  planned-cut : CutTurn rules place taken → (unmade : List Change) × (taken.changes ++ unmade ≡ planned_turn rules place taken)
  planned-cut cut =
      elim cut.polls_before_changes [
        | inl none ↦ (planned_turn rules place taken, ap (λ (made : List Change). made ++ planned_turn rules place taken) none)
        | inr none ↦
            let alike : settled_in place.past (taken.items ++ cut.missing) ≡ settled_in place.past taken.items =
            settled_in-append place.past taken.items cut.missing
            ∙ ap (λ (ids : List ℕ). settled_in place.past taken.items ++ ids) (settled_in-none (past_after place.past taken.items) cut.missing (no_polls cut.missing none))
            ∙ append-nil (settled_in place.past taken.items) in
            (cut.unmade, sym (planned-whole cut.whole) ∙ ap (λ (ids : List ℕ). map Done ids ++ recorded_by (answer rules (after place.ledger (map Done ids)) taken.turn)) alike)
      ]

-- what these turns have not made of what is planned for them
record Lacks (rules : Rules) (ending : Ending) (place : Place) (turns : List TakenTurn) : Type 0 where
  unmade : List Change
  made : flat_map (λ taken. taken.changes) turns ++ unmade ≡ flat_map (λ changes. changes) (planned_turns rules place turns)
  whole : cuts_turn ending ≡ false → unmade ≡ []

lacks : (rules : Rules) (ending : Ending) (place : Place) (turns : List TakenTurn) → LegalTurns rules place ending turns → Lacks rules ending place turns
lacks rules ending place [] legal = record { unmade = []; made = refl; whole = λ uncut. refl }
lacks rules ending place (taken ∷ later) legal =
    let changes : List TakenTurn → List Change = λ turns. flat_map (λ (t : TakenTurn). t.changes) turns in
    let planned : List Change → List TakenTurn → List Change = λ made turns. flat_map (λ (cs : List Change). cs) (planned_turns rules (after_turn place (record taken { changes = made })) turns) in
    elim legal [
      | inl w ↦
          let rest = lacks rules ending (after_turn place taken) later w.1 in
          record {
            unmade = rest.unmade;
            made = append_assoc taken.changes (changes later) rest.unmade ∙ ap (λ (cs : List Change). taken.changes ++ cs) rest.made
                ∙ ap (λ (made : List Change). made ++ planned made later) (sym (planned-whole w.0));
            whole = rest.whole;
          }
      | inr cut ↦
          let front = planned-cut cut.2 in
          let owed : List Change = planned_turn rules place taken in
          let alone : (taken.changes ++ []) ++ front.0 ≡ owed ++ [] = ap (λ (cs : List Change). cs ++ front.0) (append-nil taken.changes) ∙ front.1 ∙ sym (append-nil owed) in
          record {
            unmade = front.0;
            made = subst (λ (turns : List TakenTurn). (taken.changes ++ changes turns) ++ front.0 ≡ owed ++ planned owed turns) (sym cut.1) alone;
            whole = λ uncut. absurd (let may = cut.0 in cc);
          }
    ]

front-planned : (rules : Rules) (ending : Ending) (place : Place) (front : List TakenTurn) (last : TakenTurn) → LegalTurns rules place ending (front ++ last ∷ []) → changes_by_turn front ≡ planned_turns rules place front
front-planned rules ending place [] last legal = refl
front-planned rules ending place (first ∷ front) last legal =
    elim legal [
      | inl w ↦
          ap (λ (others : List (List Change)). first.changes ∷ others) (front-planned rules ending (after_turn place first) front last w.1)
          ∙ ap (λ (made : List Change). made ∷ planned_turns rules (after_turn place (record first { changes = made })) front) (sym (planned-whole w.0))
      | inr cut ↦ absurd (none_before front last [] (sym cut.1))
    ]

pub makes-planned : (run : Run) → Legal run → MakesWhatIsPlanned run
makes-planned run legal =
    let rest = lacks run.rules run.ending (entry run.ledger) run.turns legal.turns in
    record {
      unmade = rest.unmade;
      made = rest.made;
      whole = rest.whole;
      before_last = λ front last placed.
          front-planned run.rules run.ending (entry run.ledger) front last (subst (λ (turns : List TakenTurn). LegalTurns run.rules (entry run.ledger) run.ending turns) placed legal.turns);
    }
