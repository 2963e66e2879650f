use Rattle.std.proofs.Common.{length, take, ◌-◌, ◌≡◌, ◌≤◌}
use Rattle.std.specs.Fmt.{decimal}
use Rattle.fk_base.proofs.number_front.number_front.Given as goal

-- the bytes so far are the text of the number so far
abbrev pub invariant-loop-len : goal.invariant-loop-len
invariant-loop-len l =
    (l.len ≤ length l.text) × (l.least ≤ l.value) × (l.value ≤ l.most) × (take l.len l.text ≡ decimal l.value)

abbrev pub decreases-loop-len : goal.decreases-loop-len
decreases-loop-len l = length l.text - l.len
