use Rattle.std.proofs.Common.{arith}
use Rattle.fk_base.proofs.NumberFronts.{longer_than_number, rest_is_no_number}
use Rattle.fk_base.proofs.number_front.last_number.Goals as goal

pub returns-else-len-rest-clause-err : goal.returns-else-len-rest-clause-err
returns-else-len-rest-clause-err c =
    longer_than_number _ _ _ _ _ _ c.in-Some.ensures.some c.if-len-rest.false

pub returns-in-None-clause-err : goal.returns-in-None-clause-err
returns-in-None-clause-err c = rest_is_no_number _ _ _ _ (omega arith) c.in-None.ensures.none
