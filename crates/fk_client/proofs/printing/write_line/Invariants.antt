use Rattle.std.proofs.Common.{false, take}
use Rattle.std.specs.List.{flat_map}
use Rattle.fk_log.specs.Printing.{Prints, sink_by}
use Rattle.fk_client.proofs.printing.write_line.Given as goal

abbrev pub invariant-loop-piece : goal.invariant-loop-piece
invariant-loop-piece g l =
    let at = sink_by g.K.Sink in
    Prints (flat_map (λ piece. piece.now) (take l.piece-index l.pieces)) false (at l.initial.out) (at l.out)
