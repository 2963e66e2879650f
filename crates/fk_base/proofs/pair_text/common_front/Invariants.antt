use Rattle.std.proofs.Common.{◌≡◌, ◌≤◌, ◌-◌, length, take}
use Rattle.fk_base.proofs.pair_text.common_front.Given as goal

abbrev pub invariant-loop-len : goal.invariant-loop-len
invariant-loop-len l = (l.len ≤ length l.text) × (l.len ≤ length l.word) × (take l.len l.text ≡ take l.len l.word)

abbrev pub decreases-loop-len : goal.decreases-loop-len
decreases-loop-len l = length l.text - l.len
