use Rattle.std.proofs.Common.{ℕ, List, ◌++◌, length}
use Rattle.fk_subst.specs.declared.piece.Piece.{Piece}
use Rattle.fk_subst.specs.Template.{AreWordPieces}
use Rattle.fk_subst.proofs.Known.{IsKnown}
use Rattle.fk_subst.proofs.word.cut_word.Given as goal

abbrev pub invariant-loop-rest : goal.invariant-loop-rest
invariant-loop-rest l = record {
  spelled : (more : List Piece) → AreWordPieces more l.rest → AreWordPieces (l.pieces.items ++ more) l.word;
  known : IsKnown l.rest;
}

abbrev pub decreases-loop-rest : goal.decreases-loop-rest
decreases-loop-rest l = length l.rest
