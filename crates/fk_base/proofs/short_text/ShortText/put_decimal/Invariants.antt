use Rattle.std.proofs.Common.{◌≡◌, ◌≤◌, ◌++◌}
use Rattle.std.specs.Fmt.{decimal}
use Rattle.fk_base.proofs.short_text.ShortText.put_decimal.Given as goal

-- what is put and what is left are together the number's digits
abbrev pub invariant-loop-rest : goal.invariant-loop-rest
invariant-loop-rest l = (decimal l.rest ++ l.self ≡ decimal l.value ++ l.initial.self) × (l.rest ≤ l.value)

abbrev pub decreases-loop-rest : goal.decreases-loop-rest
decreases-loop-rest l = l.rest
