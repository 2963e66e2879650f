use Rattle.fk_admit.proofs.KeyTests.{opens_none}
use Rattle.fk_admit.proofs.opening.try_keys.Goals as goal

pub returns-in-Err-clause-opening : goal.returns-in-Err-clause-opening
returns-in-Err-clause-opening g c =
    rw c.fault_opening.ensures (opens_none c.args.keys.now c.args.datagram.now c.in-Err.fault c.in-Err.ensures.fault)
