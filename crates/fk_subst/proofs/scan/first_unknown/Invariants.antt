use Rattle.std.proofs.Common.{◌≡◌, ℕ, ◌<◌, false, drop}
use Rattle.fk_subst.specs.CommandFault.{begins_unknown}
use Rattle.fk_subst.proofs.scan.first_unknown.Given as goal

abbrev pub invariant-loop-place : goal.invariant-loop-place
invariant-loop-place l = (earlier : ℕ) → earlier < l.place → begins_unknown (drop earlier l.text) ≡ false
