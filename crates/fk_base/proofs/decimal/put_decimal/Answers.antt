use Rattle.std.proofs.Common.{◌≤◌, length, arith}
use Rattle.std.specs.Fmt.{decimal}
use Rattle.std.proofs.lemmas.Fmt.{length-decimal-le}
use Rattle.fk_base.proofs.decimal.put_decimal.Goals as goal

pub put_decimal-requires : goal.put_decimal-requires
put_decimal-requires c =
    let digits : length (decimal c.args.value) ≤ 20 = length-decimal-le 20 c.args.value (omega arith) (omega arith) (omega arith) in
    rw c.new-text.ensures (omega arith)
