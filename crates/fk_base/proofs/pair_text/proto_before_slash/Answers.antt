use Rattle.fk_base.proofs.PairTexts.{proto_fault}
use Rattle.fk_base.proofs.pair_text.proto_before_slash.Goals as goal

pub returns-clause-err : goal.returns-clause-err
returns-clause-err c =
    let tcp = rw c.proto_bytes.ensures at c.common_front-tcp.ensures in
    let udp = rw c.proto_bytes-2.ensures at c.common_front-udp.ensures in
    rw c.max.ensures (proto_fault _ _ _ tcp c.if-tcp-eq4.false udp c.if-udp-eq4.false)
