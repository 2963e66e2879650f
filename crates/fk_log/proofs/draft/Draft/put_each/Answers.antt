use Rattle.fk_log.proofs.Drafts.{Puts-next, Puts-stops}
use Rattle.fk_log.proofs.draft.Draft.put_each.Goals as goal

pub returns-in_err-put : goal.returns-in_err-put
returns-in_err-put g c =
    Puts-stops (λ text. text.now) c.args.texts.now c.loop-text.text-index _ c.in_err-put.field-0.0 c.from_residual.result _ _ _
    c.loop-text-test.true c.from_residual.ensures.0 c.loop-text.invariant c.in_err-put.ensures

pub loop-text-preserved : goal.loop-text-preserved
loop-text-preserved g c =
    Puts-next (λ text. text.now) c.args.texts.now c.loop-text.text-index _ _ _ _
    c.loop-text-test.true c.loop-text.invariant c.in_ok-put.ensures
