use Rattle.std.proofs.Common.{◌≡◌, ◌++◌, map, length}
use Rattle.fk_base.specs.PairText.{pair_text}
use Rattle.fk_fields.proofs.message.read_pairs.Given as goal

abbrev pub invariant-loop-part : goal.invariant-loop-part
invariant-loop-part l = l.fn.parts ≡ map pair_text l.pairs ++ l.rest

abbrev pub decreases-loop-part : goal.decreases-loop-part
decreases-loop-part l = length l.rest
