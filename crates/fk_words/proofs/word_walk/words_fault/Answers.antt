use Rattle.std.proofs.Common.{◌<◌, length, sym, ◌∙◌, arith}
use Rattle.fk_words.specs.WordFaults.{fault_at}
use Rattle.fk_words.proofs.WordSteps.{first_is, none_goes_on}
use Rattle.fk_words.proofs.word_walk.words_fault.Goals as goal

pub returns-in-Some : goal.returns-in-Some
returns-in-Some c =
    let within : c.loop-at.at < length c.args.words.now = omega arith in
    sym (first_is (fault_at c.args.tool c.args.words.now) c.loop-at.at (length c.args.words.now) c.in-Some.fault c.loop-at.invariant
    (sym c.in-Some.ensures) within)

pub loop-at-preserved : goal.loop-at-preserved
loop-at-preserved c =
    none_goes_on (fault_at c.args.tool c.args.words.now) c.loop-at.at c.loop-at.invariant (sym c.fault_at.ensures ∙ c.in_default.is)
