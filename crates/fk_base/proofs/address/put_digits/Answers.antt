use Rattle.std.proofs.Common.{◌≤◌, length, arith, ap, length-append}
use Rattle.std.specs.Fmt.{decimal}
use Rattle.fk_base.proofs.DottedBytes.{length-decimal_byte}
use Rattle.fk_base.proofs.address.put_digits.Goals as goal

pub put_decimal-requires : goal.put_decimal-requires
put_decimal-requires c =
    let digits : length (decimal c.from.result) ≤ 3 = length-decimal_byte c.from.result (omega arith) in
    omega arith

pub returns-clause-room : goal.returns-clause-room
returns-clause-room c =
    let digits : length (decimal c.from.result) ≤ 3 = length-decimal_byte c.from.result (omega arith) in
    let both = length-append (decimal c.from.result) c.args.text.now in
    let size = ap length c.put_decimal.ensures in
    omega arith
