use Rattle.std.proofs.Common.{◌∙◌, ap, sym}
use Rattle.fk_log.specs.Item.{line_of}
use Rattle.fk_log.specs.Line.{line_front}
use Rattle.fk_log.specs.Private.{text_of_pieces}
use Rattle.fk_log.proofs.Drafts.{Puts-same}
use Rattle.fk_log.proofs.line.put_line.Goals as goal

pub returns-in-BadLine : goal.returns-in-BadLine
returns-in-BadLine g c =
    Puts-same (text_of_pieces c.config-in-BadLine.result) (line_front (line_of c.args.item.now)) c.put_pieces-in-BadLine.result _ _
    (c.config-in-BadLine.ensures ∙ sym (ap (λ i. line_front (line_of i)) c.in-BadLine.is)) c.put_pieces-in-BadLine.ensures

pub returns-in-LongInput : goal.returns-in-LongInput
returns-in-LongInput g c =
    Puts-same (text_of_pieces c.config-in-LongInput.result) (line_front (line_of c.args.item.now)) c.put_pieces-in-LongInput.result _ _
    (c.config-in-LongInput.ensures ∙ sym (ap (λ i. line_front (line_of i)) c.in-LongInput.is)) c.put_pieces-in-LongInput.ensures

pub returns-in-InputFailed : goal.returns-in-InputFailed
returns-in-InputFailed g c =
    Puts-same _ (line_front (line_of c.args.item.now)) c.put_pieces-in-InputFailed.result _ _
    (sym (ap (λ i. line_front (line_of i)) c.in-InputFailed.is)) c.put_pieces-in-InputFailed.ensures
