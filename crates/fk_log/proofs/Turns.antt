-- How the lines of turns stand one after another.
use Rattle.std.proofs.Common.{◌≡◌, List, [], ◌∷◌, ◌++◌, refl, sym, ap, ◌∙◌, append_assoc, append-nil}
use Rattle.fk_trace.specs.Decision.{Rules}
use Rattle.fk_run.specs.Place.{Place}
use Rattle.fk_run.specs.Turn.{TakenTurn, after_turn, after_turns}
use Rattle.fk_log.specs.Line.{Line}
use Rattle.fk_log.specs.Log.{RefusalLine, told_before, turn_lines, lines_of_turns}
use Rattle.fk_log.specs.Log.RefusalLine.{Told}

told_in_all : (turns : List TakenTurn) → told_before turns Told ≡ Told
told_in_all [] = refl
told_in_all (next ∷ later) = refl

told_before_last : (front : List TakenTurn) (last : TakenTurn) (refusal : RefusalLine) → told_before (front ++ last ∷ []) refusal ≡ Told
told_before_last [] last refusal = refl
told_before_last (next ∷ later) last refusal = refl

pub lines_of_turns-append : (rules : Rules) (place : Place) (refusal : RefusalLine) (front : List TakenTurn) (last : TakenTurn)
    → lines_of_turns rules place refusal (front ++ last ∷ []) ≡ lines_of_turns rules place Told front ++ turn_lines rules (after_turns place front) refusal last
lines_of_turns-append rules place refusal [] last = append-nil (turn_lines rules place refusal last)
lines_of_turns-append rules place refusal (taken ∷ front) last =
    let first : List Line = turn_lines rules place Told taken in
    let later : List Line = lines_of_turns rules (after_turn place taken) Told front in
    let end : List Line = turn_lines rules (after_turns (after_turn place taken) front) refusal last in
    ap (λ told. turn_lines rules place told taken ++ lines_of_turns rules (after_turn place taken) refusal (front ++ last ∷ [])) (told_before_last front last refusal)
    ∙ ap (λ lines. first ++ lines) (lines_of_turns-append rules (after_turn place taken) refusal front last)
    ∙ sym (append_assoc first later end)
    ∙ ap (λ told. (turn_lines rules place told taken ++ later) ++ end) (sym (told_in_all front))
