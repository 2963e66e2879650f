use Rattle.std.proofs.Common.{◌≡◌, ◌-◌, length, take}
use Rattle.fk_aes.specs.KeyExpansion.{first_words}
use Rattle.fk_aes.specs.Words.{bytes_of}
use Rattle.fk_aes.proofs.expansion.expand.Given as goal

abbrev pub invariant-loop-i : goal.invariant-loop-i
invariant-loop-i l = record {
  size : length l.schedule ≡ 60;
  filled : bytes_of (take l.i l.schedule) ≡ first_words l.key (l.i - 8);
}
