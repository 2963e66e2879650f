use Rattle.std.proofs.Common.{◌≤◌, List, ℕ, length, sym, ap, arith}
use Rattle.std.specs.Prelude.{unwrap_or}
use Rattle.fk_base.specs.Decimal.{number_in}
use Rattle.fk_words.specs.Operands.{count_in}
use Rattle.fk_words.proofs.WordSteps.{word_missing}
use Rattle.fk_words.proofs.reading.count_of.Goals as goal

pub returns-then-count-lt2-clause-count : goal.returns-then-count-lt2-clause-count
unfolding number_in
returns-then-count-lt2-clause-count c =
    let few : length c.args.words.now ≤ 1 = omega arith in
    sym (ap (λ (w : List ℕ). unwrap_or (count_in w) 1) (word_missing c.args.words.now 1 few))
