use Rattle.std.proofs.Common.{◌∙◌}
use Rattle.fk_ledger.proofs.OutlineLaws.{outlined}
use Rattle.fk_ledger.proofs.outline.note.Goals as goal

pub returns : goal.returns
returns c = λ ledger before.
    outlined _ _ ledger c.args.change.now before c.next_by-outline.ensures c.above_by-outline.ensures
    (c.add.ensures.held ledger (λ digest. c.in_ok-widen.ensures.same digest ∙ before.digests digest)) c.in_ok-note_opened.ensures c.in_ok-note_closed.ensures
