use Rattle.std.proofs.Common.{◌≡◌, ◌+◌, ◌*◌, ◌≤◌, length, take}
use Rattle.fk_base.specs.Pairs.{pairs_text}
use Rattle.fk_base.proofs.pairs_text.text_of_pairs.Given as goal

abbrev pub invariant-loop-at : goal.invariant-loop-at
invariant-loop-at l = record { is : l.text ≡ pairs_text (take l.at l.pairs); room : length l.text + 1 ≤ 10 * l.at }
