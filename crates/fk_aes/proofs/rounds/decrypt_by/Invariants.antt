use Rattle.std.proofs.Common.{◌≡◌, ◌≤◌, ◌-◌, length}
use Rattle.fk_aes.specs.EquivalentInverse.{after_equivalent_rounds}
use Rattle.fk_aes.specs.Words.{bytes_of}
use Rattle.fk_aes.proofs.rounds.decrypt_by.Given as goal

abbrev pub invariant-loop-round : goal.invariant-loop-round
invariant-loop-round l = record {
  low : 1 ≤ l.round;
  size : length l.columns ≡ 4;
  state : bytes_of l.columns ≡ after_equivalent_rounds (bytes_of l.schedule) l.fn.block (14 - l.round);
}
