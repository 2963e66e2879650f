use Rattle.std.proofs.Common.{◌≡◌, subst}
use Rattle.fk_base.specs.declared.keys.Keys.{Keys}
use Rattle.fk_fields.specs.declared.fields.Fields.{Fields}
use Rattle.fk_packet.specs.Packs.{Packs}
use Rattle.fk_tool.proofs.encoded.encoded_line.Goals as goal

pub returns : goal.returns
returns c =
    let under = subst (λ (keys : Keys). (packs : Packs keys c.in_ok-fields.fields c.in_ok-text.text) × (packs.salt ≡ c.args.salt)) c.keys.ensures c.in_ok-text.ensures.packed in
    let packed = subst (λ (fields : Fields). (packs : Packs c.args.sealing.now.keys fields c.in_ok-text.text) × (packs.salt ≡ c.args.salt)) c.in_ok-fields.ensures.fields under in
    record { datagram = c.in_ok-text.text; packs = packed.0; salt_is = packed.1; line_is = c.in_ok-append.ensures.ok }
