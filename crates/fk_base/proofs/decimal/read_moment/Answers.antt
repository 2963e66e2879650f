use Rattle.std.proofs.Common.{◌≡◌, arith, ◌∙◌}
use Rattle.std.proofs.lemmas.Grind.{common_steps}
use Rattle.fk_base.proofs.Numerals.{IfOk-decimal, Ok-decimal, decimal_has_no_fault}
use Rattle.fk_base.specs.declared.moment.TheConstants.{GREATEST_MOMENT}
use Rattle.fk_base.proofs.decimal.read_moment.Goals as goal

pub returns-in_err-value-clause-every : goal.returns-in_err-value-clause-every
returns-in_err-value-clause-every c = λ n fits is.
    absurd (decimal_has_no_fault GREATEST_MOMENT n c.args.text.now _ fits (omega arith) is c.in_err-value.ensures.fault)

pub returns-clause-number : goal.returns-clause-number
returns-clause-number c =
    let same : c.ok_or.result ≡ c.read_number.result = grind (arith, common_steps) in
    rw same (IfOk-decimal GREATEST_MOMENT c.args.text.now c.read_number.result (omega arith) c.read_number.ensures.value c.read_number.ensures.fault)

pub returns-clause-every : goal.returns-clause-every
returns-clause-every c = λ n fits is.
    let same : c.ok_or.result ≡ c.read_number.result = grind (arith, common_steps) in
    same ∙ Ok-decimal GREATEST_MOMENT c.args.text.now c.read_number.result (omega arith) c.read_number.ensures.value c.read_number.ensures.fault n fits is
