use Rattle.std.proofs.Common.{Ok, Err, ap}
use Rattle.fk_log.specs.Private.{piece_text}
use Rattle.fk_log.proofs.Drafts.{Puts-next, Puts-stops, Puts-same}
use Rattle.fk_log.proofs.draft.Draft.put_pieces.Goals as goal

pub returns-in_err-put_piece : goal.returns-in_err-put_piece
returns-in_err-put_piece g c =
    let piece = c.piece-item.result in
    Puts-stops piece_text c.args.pieces.now c.loop-piece.piece-index piece c.in_err-put_piece.field-0.0 c.from_residual.result _ _ _
    c.loop-piece-test.true c.from_residual.ensures.0 c.loop-piece.invariant
    (Puts-same (piece_text piece) _ (Err c.in_err-put_piece.field-0.0) _ _ (ap piece_text c.piece-item.is) c.in_err-put_piece.ensures)

pub loop-piece-preserved : goal.loop-piece-preserved
loop-piece-preserved g c =
    let piece = c.piece-item.result in
    Puts-next piece_text c.args.pieces.now c.loop-piece.piece-index piece _ _ _
    c.loop-piece-test.true c.loop-piece.invariant
    (Puts-same (piece_text piece) _ (Ok tt) _ _ (ap piece_text c.piece-item.is) c.in_ok-put_piece.ensures)
