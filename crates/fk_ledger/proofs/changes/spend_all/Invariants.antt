use Rattle.std.proofs.Common.{vec_len}
use Rattle.fk_ledger.proofs.changes.spend_all.Given as goal

abbrev pub decreases-loop-last : goal.decreases-loop-last
decreases-loop-last l = vec_len l.owed
