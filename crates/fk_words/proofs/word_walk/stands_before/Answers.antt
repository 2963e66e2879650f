use Rattle.std.proofs.Common.{List, ℕ, sym, ◌∙◌, arith}
use Rattle.std.specs.Str.{bytes_eq}
use Rattle.fk_words.proofs.WordSteps.{none_is_met, one_is_met}
use Rattle.fk_words.proofs.word_walk.stands_before.Goals as goal

pub returns-then-eq : goal.returns-then-eq
returns-then-eq c =
    one_is_met (λ (word : List ℕ). bytes_eq word c.args.text.now) c.args.words.now c.loop-before.before c.args.at c.get.result.now
    (omega arith) c.get.ensures (sym c.eq.ensures ∙ c.if-eq.true)

pub loop-before-preserved : goal.loop-before-preserved
loop-before-preserved c =
    none_is_met (λ (word : List ℕ). bytes_eq word c.args.text.now) c.args.words.now c.loop-before.before c.get.result.now
    c.get.ensures c.loop-before.invariant (sym c.eq.ensures ∙ c.if-eq.false)
