use Rattle.std.proofs.Common.{◌≡◌, ◌≤◌, take}
use Rattle.fk_base.specs.Decimal.{decimal_value}
use Rattle.fk_base.proofs.decimal.value_within.Given as goal

abbrev pub invariant-loop-digit : goal.invariant-loop-digit
invariant-loop-digit l = (l.value ≡ decimal_value (take l.digit-index l.digits)) × (l.value ≤ l.limit)
