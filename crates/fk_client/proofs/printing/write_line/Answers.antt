use Rattle.std.proofs.Common.{Bool, [], ◌∷◌, ◌++◌, sym, subst}
use Rattle.std.specs.List.{flat_map}
use Rattle.fk_log.specs.Printing.{Prints, sink_by}
use Rattle.fk_log.proofs.Drafts.{GivesPart-cut}
use Rattle.fk_client.proofs.Saying.{prints-next, prints-stops}
use Rattle.fk_client.proofs.printing.write_line.Goals as goal

pub returns-in_err-write_all : goal.returns-in_err-write_all
returns-in_err-write_all g c =
    let at = sink_by g.K.Sink in
    let e = c.in_err-write_all.ensures in
    subst (λ (failed : Bool). Prints (flat_map (λ piece. piece.now) c.args.pieces.now ++ 10 ∷ []) failed (at c.args.out.now) (at c.write_all.new.out))
    (sym c.from_residual.ensures.0)
    (prints-stops (λ piece. piece.now) c.args.pieces.now c.loop-piece.piece-index _ (10 ∷ []) (at c.args.out.now) (at c.loop-piece.out) (at c.write_all.new.out)
    c.loop-piece-test.true c.loop-piece.invariant (GivesPart-cut _ e.part.0 _ _ e.part.1 e.part.2, e.cause))

pub loop-piece-preserved : goal.loop-piece-preserved
loop-piece-preserved g c =
    let at = sink_by g.K.Sink in
    prints-next (λ piece. piece.now) c.args.pieces.now c.loop-piece.piece-index _ (at c.args.out.now) (at c.loop-piece.out) (at c.write_all.new.out)
    c.loop-piece-test.true c.loop-piece.invariant (c.in_ok-write_all.ensures.given, c.in_ok-write_all.ensures.cause)
