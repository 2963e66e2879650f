use Rattle.std.proofs.Common.{◌^◌, ◌-◌, arith}
use Rattle.fk_base.proofs.Numerals.{IfOk-decimal, Ok-decimal}
use Rattle.fk_base.proofs.decimal.read_decimal.Goals as goal

pub returns-clause-number : goal.returns-clause-number
returns-clause-number c =
    IfOk-decimal (2 ^ 64 - 1) c.args.text.now c.read_number.result (omega arith) c.read_number.ensures.value c.read_number.ensures.fault

pub returns-clause-every : goal.returns-clause-every
returns-clause-every c = λ n small is.
    Ok-decimal (2 ^ 64 - 1) c.args.text.now c.read_number.result (omega arith) c.read_number.ensures.value c.read_number.ensures.fault n (omega arith) is
