use Rattle.std.proofs.Common.{◌≡◌, ◌<◌, ◌^◌, List, length, take, ap, ◌∙◌, arith}
use Rattle.std.proofs.lemmas.List.{take_all}
use Rattle.fk_base.specs.CommandWords.{AreCommandWords}
use Rattle.fk_subst.specs.declared.piece.Piece.{Piece}
use Rattle.fk_subst.specs.Fill.{filled, IsGrant}
use Rattle.fk_subst.proofs.Bounds.{AreCommandWords-filled}
use Rattle.fk_subst.proofs.filling.fill.Goals as goal

pub returns-clause-bounds : goal.returns-clause-bounds
returns-clause-bounds c =
    let template = c.args.template.now in
    let grant = c.args.grant.now in
    let is : IsGrant grant = record { pairs = c.as_slice-pairs.ensures.bounds; seconds = omega arith } in
    let split = c.words-word-items.ensures.bounds in
    let all : take c.loop-word.word-index template ≡ template = take_all c.loop-word.word-index template (let same = ap (λ (l : List (List Piece)). length l) c.words-word-items.ensures.words in omega arith) in
    let whole = c.loop-word.invariant ∙ ap (λ (t : List (List Piece)). filled t grant) all in
    rw whole (AreCommandWords-filled grant is split.0 template split.1 split.2)
