use Rattle.std.proofs.Common.{◌≡◌, length}
use Rattle.fk_aes.proofs.ScheduleLemmas.{IsMixedBefore}
use Rattle.fk_aes.proofs.expansion.inverse_schedule.Given as goal

abbrev pub invariant-loop-i : goal.invariant-loop-i
invariant-loop-i l = record {
  size : length l.inverse ≡ 60;
  mixed : IsMixedBefore l.i l.schedule l.inverse;
}
