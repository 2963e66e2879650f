use Rattle.std.proofs.Common.{◌+◌, arith}
use Rattle.fk_base.proofs.Numerals.{digit_at, value_more, value_front}
use Rattle.fk_base.proofs.decimal.value_within.Goals as goal

pub overflow_sub-digit : goal.overflow_sub-digit
overflow_sub-digit c = omega (arith, digit_at c.args.digits.now c.loop-digit.digit-index c.requires (omega arith))

pub returns-in-None : goal.returns-in-None
returns-in-None c = λ fits.
    let more = value_more c.args.digits.now c.loop-digit.digit-index c.requires (omega arith) in
    let front = value_front c.args.digits.now (c.loop-digit.digit-index + 1) in
    grind arith

pub loop-digit-preserved : goal.loop-digit-preserved
loop-digit-preserved c =
    let more = value_more c.args.digits.now c.loop-digit.digit-index c.requires (omega arith) in
    grind arith
