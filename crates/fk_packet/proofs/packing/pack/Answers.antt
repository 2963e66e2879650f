use Rattle.std.proofs.Common.{◌≡◌, ◌≤◌, length}
use Rattle.std.proofs.lemmas.Result.{IfOk-weaker}
use Rattle.fk_packet.specs.Packs.{Packs, datagram_of}
use Rattle.fk_packet.proofs.Answered.{packs_len, packs_made, text_long, text_short}
use Rattle.fk_packet.proofs.packing.pack.Goals as goal

pub of-text-requires : goal.of-text-requires
of-text-requires c =
    text_short c.args.fields.now c.in_ok-plain.plain c.as_slice-2.result.now c.in_ok-sealed.sealed c.as_slice-3.result.now c.in_ok-plain.ensures
    c.as_slice-2.ensures c.in_ok-sealed.ensures.len c.as_slice-3.ensures

pub datagram_of-requires : goal.datagram_of-requires
datagram_of-requires c =
    text_long _ c.in_ok-sealed.sealed c.as_slice-3.result.now c.of-text.result c.as_slice-4.result.now c.as_slice-3.ensures c.of-text.ensures
    c.as_slice-4.ensures c.in_ok-sealed.ensures.len

pub returns-clause-packed : goal.returns-clause-packed
returns-clause-packed c =
    IfOk-weaker c.datagram_of.result (λ d. d ≡ datagram_of c.args.keys.now c.as_slice-4.result.now)
    (λ d. (packs : Packs c.args.keys.now c.args.fields.now d) × (packs.salt ≡ c.args.salt))
    (λ d e. packs_made c.args.keys.now c.args.fields.now c.as_slice.result.now c.args.salt c.in_ok-plain.plain c.as_slice-2.result.now
    c.in_ok-sealed.sealed c.as_slice-3.result.now c.of-text.result c.as_slice-4.result.now d c.in_ok-plain.ensures c.as_slice.ensures c.as_slice-2.ensures
    c.in_ok-sealed.ensures.sealed c.as_slice-3.ensures c.of-text.ensures c.as_slice-4.ensures e)
    c.datagram_of.ensures

pub returns-clause-least : goal.returns-clause-least
returns-clause-least c =
    IfOk-weaker c.datagram_of.result (λ d. (packs : Packs c.args.keys.now c.args.fields.now d) × (packs.salt ≡ c.args.salt)) (λ d. 140 ≤ length d)
    (λ d made. (packs_len c.args.keys.now c.args.fields.now d made.0).0) (returns-clause-packed c)

pub returns-clause-most : goal.returns-clause-most
returns-clause-most c =
    IfOk-weaker c.datagram_of.result (λ d. (packs : Packs c.args.keys.now c.args.fields.now d) × (packs.salt ≡ c.args.salt)) (λ d. length d ≤ 1500)
    (λ d made. (packs_len c.args.keys.now c.args.fields.now d made.0).1) (returns-clause-packed c)
