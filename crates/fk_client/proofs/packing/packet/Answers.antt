use Rattle.std.proofs.Common.{ℕ, ◌+◌, ◌%◌, map, ap, ◌∙◌}
use Rattle.fk_client.proofs.SentBy.{sent_by}
use Rattle.fk_client.proofs.packing.packet.Goals as goal

pub returns-clause-datagram : goal.returns-clause-datagram
returns-clause-datagram c =
    sent_by c.args.settings c.args.moment c.args.drawn.now c.in_ok-datagram.datagram c.from_bytes.result c.in_ok-copy.field-0 c.salt.result
    c.get.result (c.from_bytes.ensures ∙ ap (map (λ (byte : ℕ). 48 + byte % 10)) c.random_value.ensures) c.in_ok-copy.ensures c.get.ensures.value
    c.salt.ensures c.in_ok-datagram.ensures.packed
