use Rattle.std.proofs.Common.{◌≡◌, ◌-◌, length}
use Rattle.fk_aes.specs.Cipher.{after_rounds}
use Rattle.fk_aes.specs.Words.{bytes_of}
use Rattle.fk_aes.proofs.rounds.encrypt_by.Given as goal

abbrev pub invariant-loop-round : goal.invariant-loop-round
invariant-loop-round l = record {
  size : length l.columns ≡ 4;
  state : bytes_of l.columns ≡ after_rounds (bytes_of l.schedule) l.fn.block (l.round - 1);
}
