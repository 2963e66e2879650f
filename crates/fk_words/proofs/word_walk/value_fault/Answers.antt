use Rattle.std.proofs.Common.{◌≡◌, ◌+◌, ap, sym, ◌∙◌, drop, Some, ℕ, arith}
use Rattle.fk_words.specs.declared.word_fault.WordFault.TheVariants.{BadValue}
use Rattle.fk_words.specs.CommandOptions.{option_rule}
use Rattle.fk_words.proofs.WordSteps.{drop_at, value_is_option, value_is_right, value_is_wrong}
use Rattle.fk_words.proofs.word_walk.value_fault.Goals as goal

pub returns-then-begins_option : goal.returns-then-begins_option
returns-then-begins_option c =
    sym (value_is_option (option_rule c.args.option) (c.args.at + 1) (drop (c.args.at + 1) c.args.words.now) (drop (c.args.at + 1 + 1) c.args.words.now)
    c.get-value.result.now (drop_at c.args.words.now (c.args.at + 1) c.get-value.result.now c.get-value.ensures)
    (sym c.begins_option.ensures ∙ c.if-begins_option.true))

pub returns-then-not-is_value : goal.returns-then-not-is_value
returns-then-not-is_value c =
    let place : c.args.at + 1 + 1 ≡ c.args.at + 2 = omega arith in
    sym (value_is_wrong (option_rule c.args.option) (c.args.at + 1) (drop (c.args.at + 1) c.args.words.now) (drop (c.args.at + 1 + 1) c.args.words.now)
    c.get-value.result.now (drop_at c.args.words.now (c.args.at + 1) c.get-value.result.now c.get-value.ensures)
    (sym c.begins_option.ensures ∙ c.if-begins_option.false) (sym c.is_value.ensures ∙ c.if-not-is_value.true)
    ∙ ap (λ (n : ℕ). Some (BadValue n)) place)

pub returns : goal.returns
returns c =
    sym (value_is_right (option_rule c.args.option) (c.args.at + 1) (drop (c.args.at + 1) c.args.words.now) (drop (c.args.at + 1 + 1) c.args.words.now)
    c.get-value.result.now (drop_at c.args.words.now (c.args.at + 1) c.get-value.result.now c.get-value.ensures)
    (sym c.begins_option.ensures ∙ c.if-begins_option.false) (sym c.is_value.ensures ∙ c.if-not-is_value.false))
