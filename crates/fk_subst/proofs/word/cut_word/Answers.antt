use Rattle.std.proofs.Common.{◌≡◌, ℕ, List, [], ◌∷◌, ◌++◌, length, refl, sym, ◌∙◌, ap, subst, append_assoc, arith}
use Rattle.std.proofs.lemmas.List.{append-nil, nil_from_length}
use Rattle.std.proofs.lemmas.Bool.{eqb-true}
use Rattle.fk_subst.specs.declared.piece.Piece.{Piece}
use Rattle.fk_subst.specs.Template.{AreWordPieces}
use Rattle.fk_subst.proofs.Known.{IsKnown-places, known_places}
use Rattle.fk_subst.proofs.Pieces.{BeginsWith-shorter, known_behind_piece}
use Rattle.fk_subst.proofs.word.cut_word.Goals as goal

pub first_piece-requires-clause-known : goal.first_piece-requires-clause-known
first_piece-requires-clause-known c = known_places c.loop-rest.rest.now c.loop-rest.invariant.known 0

pub loop-rest-init : goal.loop-rest-init
loop-rest-init c = record {
  spelled = λ more spells. rw c.new-pieces.ensures.items spells;
  known = IsKnown-places c.args.word.now c.requires;
}

pub loop-rest-preserved : goal.loop-rest-preserved
loop-rest-preserved c = record {
  spelled = λ more spells.
      rw (c.in_ok-push.ensures.items, append_assoc)
      (c.loop-rest.invariant.spelled (c.in_ok-piece.piece ∷ more) (c.in_ok-piece.behind.now, c.in_ok-piece.ensures, spells));
  known = known_behind_piece c.in_ok-piece.piece c.loop-rest.rest.now c.in_ok-piece.behind.now c.in_ok-piece.ensures c.loop-rest.invariant.known;
}

pub loop-rest-smaller : goal.loop-rest-smaller
loop-rest-smaller c = BeginsWith-shorter c.in_ok-piece.piece c.loop-rest.rest.now c.in_ok-piece.behind.now c.in_ok-piece.ensures

pub returns : goal.returns
returns c =
    let none : length c.loop-rest.rest.now ≡ 0 = eqb-true (length c.loop-rest.rest.now) 0 (sym c.is_empty.ensures ∙ c.loop-rest-test.false) in
    let whole = c.loop-rest.invariant.spelled [] (nil_from_length c.loop-rest.rest.now none) in
    rw append-nil at whole
