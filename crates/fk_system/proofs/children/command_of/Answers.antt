use Rattle.std.proofs.Common.{◌≤◌, Some, length, take, drop, List, ℕ, ◌∷◌, ◌++◌, [], sym, ap, ◌∙◌, arith}
use Rattle.std.proofs.lemmas.List.{take_all}
use Rattle.fk_system.proofs.Commands.{next_argument, no_argument}
use Rattle.fk_system.proofs.children.command_of.Goals as goal

pub loop-at-init : goal.loop-at-init
loop-at-init c = (
  c.get.ensures ∙ ap Some (sym c.in_ok-text.ensures ∙ sym c.in_ok-command.ensures.program),
  c.in_ok-command.ensures.args ∙ sym (no_argument c.args.words.now),
)

pub loop-at-preserved : goal.loop-at-preserved
loop-at-preserved c =
    let words : List (List ℕ) = c.args.words.now in
    let word : List ℕ = c.get-in-loop-at.result.now in (
      c.loop-at.invariant.0 ∙ ap Some (sym c.in_ok-add_argument.ensures.program),
      c.in_ok-add_argument.ensures.args
          ∙ ap (λ args. args ++ c.in_ok-text-2.field-0.now ∷ []) c.loop-at.invariant.1
          ∙ ap (λ text. drop 1 (take c.loop-at.at words) ++ text ∷ []) c.in_ok-text-2.ensures
          ∙ sym (next_argument words c.loop-at.at word c.loop-at.auto.at c.get-in-loop-at.ensures),
    )

pub returns-clause-args : goal.returns-clause-args
returns-clause-args c =
    let all : length c.args.words.now ≤ c.loop-at.at = omega (arith, c.loop-at-test.false, c.count-at-end.ensures) in
    c.loop-at.invariant.1 ∙ ap (drop 1) (take_all c.loop-at.at c.args.words.now all)
