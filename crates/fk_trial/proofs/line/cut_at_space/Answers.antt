use Rattle.std.proofs.Common.{ℕ, ◌+◌, List, ◌∷◌, ◌++◌, take, sym, ◌∙◌, ap}
use Rattle.std.proofs.lemmas.List.{take_rest}
use Rattle.fk_trial.proofs.TurnLines.{no_place, cut_at_place}
use Rattle.fk_trial.proofs.line.cut_at_space.Goals as goal

pub returns-in_err-at : goal.returns-in_err-at
returns-in_err-at c = rw c.from_residual.ensures (no_place c.args.bytes.now (sym c.first_space.ensures ∙ c.in_err-at.was))

pub returns : goal.returns
returns c =
    let cut = cut_at_place c.args.bytes.now c.in_ok-at.at (sym c.first_space.ensures ∙ c.in_ok-at.was) in
    (cut.1.no_space, cut.1.whole ∙ ap (λ (rest : List ℕ). take c.in_ok-at.at c.args.bytes.now ++ 32 ∷ rest) (sym (take_rest c.args.bytes.now (c.in_ok-at.at + 1))))
