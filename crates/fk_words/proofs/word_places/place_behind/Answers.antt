use Rattle.std.proofs.Common.{sym, ◌∙◌}
use Rattle.fk_words.proofs.WordSteps.{is_found, is_passed}
use Rattle.fk_words.proofs.word_places.place_behind.Goals as goal

pub returns-then-eq-clause-place : goal.returns-then-eq-clause-place
returns-then-eq-clause-place c =
    sym (c.loop-at.invariant
    ∙ is_found c.args.words.now c.loop-at.at c.get.result.now c.args.text.now c.get.ensures (sym c.eq.ensures ∙ c.if-eq.true))

pub loop-at-preserved : goal.loop-at-preserved
loop-at-preserved c =
    c.loop-at.invariant
    ∙ is_passed c.args.words.now c.loop-at.at c.get.result.now c.args.text.now c.get.ensures (sym c.eq.ensures ∙ c.if-eq.false)
