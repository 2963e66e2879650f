use Rattle.std.proofs.Common.{◌≡◌, ◌++◌, take}
use Rattle.std.specs.List.{flat_map}
use Rattle.fk_subst.specs.Fill.{piece_text}
use Rattle.fk_subst.proofs.filling.put_word.Given as goal

abbrev pub invariant-loop-piece : goal.invariant-loop-piece
invariant-loop-piece l = l.out ≡ l.fn.out ++ flat_map (piece_text l.grant) (take l.piece-index l.word)
