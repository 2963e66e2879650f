use Rattle.std.proofs.Common.{◌∙◌, arith}
use Rattle.std.proofs.lemmas.Slice.{pushed}
use Rattle.fk_cbc.proofs.SealLemmas.{marked_text}
use Rattle.fk_cbc.proofs.salted.marked.Goals as goal

pub returns-clause-text : goal.returns-clause-text
returns-clause-text c =
    let mark = pushed _ c.in_ok-bytes.ensures.items c.in_ok-extend_from_slice.was c.extend_from_slice.ensures.items in
    let salt = pushed _ mark c.in_ok-extend_from_slice-2.was c.extend_from_slice-2.ensures.items in
    let plain = pushed _ salt c.in_ok-extend_from_slice-3.was c.extend_from_slice-3.ensures.items in
    let all = pushed _ plain c.in_ok-extend_from_slice-4.was c.extend_from_slice-4.ensures.items in
    all ∙ marked_text c.args.salt.now c.args.plain.now c.from-2.result c.padding_len-n.result c.padding_len-n.ensures (omega arith)
