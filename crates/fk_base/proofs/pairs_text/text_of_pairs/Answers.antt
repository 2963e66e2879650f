use Rattle.std.proofs.Common.{◌∷◌, [], ◌++◌, length, length-append, ap, ◌∙◌, arith}
use Rattle.fk_base.specs.PairText.{pair_text}
use Rattle.fk_base.proofs.PairLists.{pairs_text-next}
use Rattle.fk_base.proofs.pairs_text.text_of_pairs.Goals as goal

pub loop-at-preserved : goal.loop-at-preserved
loop-at-preserved c =
    let comma = c.put.ensures in
    let pair = c.put_one-in-loop-at.ensures in
    let size = ap length comma ∙ length-append c.loop-at.text (44 ∷ []) in
    record {
      is = pair.text ∙ ap (λ t. t ++ pair_text c.get-in-loop-at.result) comma
          ∙ pairs_text-next c.args.pairs.now c.loop-at.at c.get-in-loop-at.result c.loop-at.text (omega arith) c.get-in-loop-at.ensures c.loop-at.invariant.is;
      room = omega (arith, pair.room);
    }
