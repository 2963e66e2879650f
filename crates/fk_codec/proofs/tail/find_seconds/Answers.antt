use Rattle.std.proofs.Common.{◌≡◌, ◌∙◌, Some, None, sym, arith}
use Rattle.fk_base.specs.Decimal.{number_in}
use Rattle.fk_base.proofs.FoundValues.{number_in_iff}
use Rattle.fk_codec.proofs.Values.{seconds_none, seconds_read, seconds_refused}
use Rattle.fk_codec.proofs.tail.find_seconds.Goals as goal

pub returns-in_err-seconds-clause-seconds : goal.returns-in_err-seconds-clause-seconds
returns-in_err-seconds-clause-seconds c =
    let found : None ≡ number_in 604800 c.args.part.now = c.in_err-seconds.ensures in
    c.from_residual.ensures ∙ sym (seconds_none c.args.part.now (sym found))

pub overflow_cast-result : goal.overflow_cast-result
overflow_cast-result c =
    let found : Some c.in_ok-seconds.seconds ≡ number_in 604800 c.args.part.now = c.in_ok-seconds.ensures in
    let most = ((number_in_iff 604800 c.in_ok-seconds.seconds c.args.part.now (omega arith)).0 (sym found)).0 in
    omega arith

pub returns-then-seconds-ge1-clause-seconds : goal.returns-then-seconds-ge1-clause-seconds
returns-then-seconds-ge1-clause-seconds c =
    let found : Some c.in_ok-seconds.seconds ≡ number_in 604800 c.args.part.now = c.in_ok-seconds.ensures in
    let most = ((number_in_iff 604800 c.in_ok-seconds.seconds c.args.part.now (omega arith)).0 (sym found)).0 in
    sym (seconds_read c.args.part.now c.in_ok-seconds.seconds (sym found) c.if-seconds-ge1.true most)

pub returns-else-seconds-ge1-clause-seconds : goal.returns-else-seconds-ge1-clause-seconds
returns-else-seconds-ge1-clause-seconds c =
    let found : Some c.in_ok-seconds.seconds ≡ number_in 604800 c.args.part.now = c.in_ok-seconds.ensures in
    sym (seconds_refused c.args.part.now c.in_ok-seconds.seconds (sym found) (omega arith))

pub returns-then-seconds-ge1-clause-within : goal.returns-then-seconds-ge1-clause-within
returns-then-seconds-ge1-clause-within c =
    let found : Some c.in_ok-seconds.seconds ≡ number_in 604800 c.args.part.now = c.in_ok-seconds.ensures in
    let most = ((number_in_iff 604800 c.in_ok-seconds.seconds c.args.part.now (omega arith)).0 (sym found)).0 in
    (c.if-seconds-ge1.true, most)
