use Rattle.std.proofs.Common.{◌≡◌, length, arith}
use Rattle.fk_fields.proofs.MessageParts.{digit_places, digits_are}
use Rattle.fk_fields.proofs.rand.digits_of.Goals as goal

pub returns-clause-digits : goal.returns-clause-digits
returns-clause-digits c =
    let size = c.loop-i.invariant.0 in
    let all : c.loop-i.i ≡ 16 = omega arith in
    let bytes : length c.args.bytes ≡ 16 = omega arith in
    digits_are c.loop-i.digits c.args.bytes size
    (digit_places c.args.bytes c.loop-i.digits bytes size (λ k lt. c.loop-i.invariant.1 k (omega arith)))
