use Rattle.std.proofs.Common.{arith}
use Rattle.fk_base.proofs.DottedBytes.{no_dot_behind, no_digits}
use Rattle.fk_base.proofs.address.byte_before_dot.Goals as goal
use Rattle.fk_base.proofs.address.byte_before_dot.Goals.{else-len-rest-via-then-len-rest+else-rest-len-eq46, else-len-rest-via-else-len-rest}

pub returns-else-len-rest-clause-err : goal.returns-else-len-rest-clause-err
returns-else-len-rest-clause-err c =
    no_dot_behind _ _ _ _ c.in-Some.ensures.some
    (λ within dot. elim c.else-len-rest.branch [
      | else-len-rest-via-then-len-rest+else-rest-len-eq46 w ↦ w.if-rest-len-eq46.false dot
      | else-len-rest-via-else-len-rest w ↦ (let past = w.if-len-rest.false in omega arith)
    ])

pub returns-in-None-clause-err : goal.returns-in-None-clause-err
returns-in-None-clause-err c = no_digits _ _ c.in-None.ensures.none
