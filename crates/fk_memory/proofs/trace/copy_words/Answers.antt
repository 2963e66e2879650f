use Rattle.std.proofs.Common.{◌≡◌, ℕ, ◌<◌, List, [], ◌∷◌, ◌++◌, length, take, get_or, sym, ap, ◌∙◌}
use Rattle.std.proofs.lemmas.List.{take_more}
use Rattle.std.proofs.lemmas.Option.{slice_get_within, get_or_from_slice_get}
use Rattle.fk_memory.proofs.trace.copy_words.Goals as goal

pub loop-at-preserved : goal.loop-at-preserved
loop-at-preserved c =
    let i : ℕ = c.loop-at.at in
    let words : List (List ℕ) = c.args.words.now in
    let word : List ℕ = c.get.result.now in
    let inside : i < length words = slice_get_within words i word c.get.ensures in
    let item : get_or words i word ≡ word = get_or_from_slice_get words i word word c.get.ensures in
    c.in_ok-push.ensures.ok ∙ ap (λ xs. xs ++ word ∷ []) c.loop-at.invariant ∙ sym (take_more words i word inside ∙ ap (λ x. take i words ++ x ∷ []) item)
