use Rattle.std.proofs.Common.{refl, arith}
use Rattle.fk_cbc.proofs.PaddingLemmas.{padded_by}
use Rattle.fk_cbc.proofs.padding.plain_len.Goals as goal

pub returns : goal.returns
returns c =
    (padded_by c.args.text.now c.from-n.result c.in_ok-last.field-0.now (omega arith) (omega arith) (c.if-not-has_only.ensures.0 refl), omega arith, omega arith)
