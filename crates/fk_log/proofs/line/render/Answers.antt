use Rattle.std.proofs.Common.{◌∷◌, [], ◌++◌, Ok, Err}
use Rattle.std.proofs.lemmas.Result.{on_err_weaker}
use Rattle.fk_log.specs.Item.{line_of}
use Rattle.fk_log.specs.Line.{line_front}
use Rattle.fk_log.proofs.Drafts.{GivesPart-longer, Puts-append, part_of_text, part_at_end, at_err}
use Rattle.fk_log.proofs.line.render.Goals as goal

pub returns-in_err-put_line-clause-part : goal.returns-in_err-put_line-clause-part
returns-in_err-put_line-clause-part g c =
    at_err _ c.from_residual.result
    (GivesPart-longer (line_front (line_of c.args.item.now)) (10 ∷ []) (g.K.Sink.written c.args.out.now) (g.K.Sink.written c.put_line.new.out)
    (part_of_text (line_front (line_of c.args.item.now)) c.in_err-put_line.field-0.0 _ _ c.new-draft.ensures c.in_err-put_line.ensures))

pub returns-in_err-put_pieces-clause-part : goal.returns-in_err-put_pieces-clause-part
returns-in_err-put_pieces-clause-part g c =
    at_err _ c.from_residual-in_err-put_pieces.result
    (part_of_text (line_front (line_of c.args.item.now) ++ 10 ∷ []) c.in_err-put_pieces.field-0.0 _ _ c.new-draft.ensures
    (Puts-append (line_front (line_of c.args.item.now)) (10 ∷ []) tt (Err c.in_err-put_pieces.field-0.0) _ _ _ c.in_ok-put_line.ensures c.in_err-put_pieces.ensures))

pub returns-clause-part : goal.returns-clause-part
returns-clause-part g c =
    on_err_weaker c.finish.result (λ part.
    part_at_end (line_front (line_of c.args.item.now) ++ 10 ∷ []) _ _ (g.K.Sink.written c.finish.new.out) c.new-draft.ensures
    (Puts-append (line_front (line_of c.args.item.now)) (10 ∷ []) tt (Ok tt) _ _ _ c.in_ok-put_line.ensures c.in_ok-put_pieces.ensures) part)
    c.finish.ensures.part
