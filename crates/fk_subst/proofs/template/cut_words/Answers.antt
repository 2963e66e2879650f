use Rattle.std.proofs.Common.{rules, tests, ◌≡◌, true, false, List, [], ◌∷◌, ◌++◌, length, sym, ◌∙◌, ap, subst}
use Rattle.std.specs.Prelude.{map, ◌==◌}
use Rattle.std.specs.List.{filter, AllZip}
use Rattle.std.proofs.lemmas.Iterator.Splits.{YieldsList-from_slice_split}
use Rattle.std.proofs.lemmas.Iterator.Consumers.{YieldsList-turn, YieldsList-end, YieldsList-at}
use Rattle.std.proofs.lemmas.List.{map-append}
use Rattle.fk_subst.specs.Template.{AreWordPieces}
use Rattle.fk_subst.proofs.Templates.{is_word, known_run, AllZip_push, filter_push_word, filter_push_empty, whole_template}
use Rattle.fk_subst.proofs.template.cut_words.Goals as goal

pub cut_word-requires : goal.cut_word-requires
cut_word-requires c =
    let turn = YieldsList-turn (YieldsList-at c.into_iter-run-iterator.ensures.into_iter_gives (YieldsList-from_slice_split _ _ c.args.text.now c.split-run-items.ensures.rest c.split-run-items.ensures.done
    c.split-run-items.ensures.closure (λ x r q k. search (rules, tests)))) c.loop-run.yielded _ c.loop-run.yielded_by _ _ c.in-Some.run' c.in-Some.is c.next.ensures.steps in
    known_run c.args.text.now c.in-Some.run'.now _ c.requires.faultless.known turn.0 turn.1

pub loop-run-preserved-in_ok-push : goal.loop-run-preserved-in_ok-push
loop-run-preserved-in_ok-push c =
    let some : (length c.in-Some.run'.now == 0) ≡ false = sym c.is_empty.ensures ∙ c.if-not-is_empty.true in
    let runs = map (λ run. run.now) c.loop-run.yielded in
    let more : filter is_word (map (λ run. run.now) (c.loop-run.yielded ++ c.in-Some.run' ∷ [])) ≡ filter is_word runs ++ c.in-Some.run'.now ∷ [] =
    ap (filter is_word) (map-append (λ run. run.now) c.loop-run.yielded (c.in-Some.run' ∷ [])) ∙ filter_push_word runs c.in-Some.run'.now some in
    rw (c.in_ok-push.ensures.items, more)
    (AllZip_push c.loop-run.words.items (filter is_word runs) c.in_ok-cut_word.field-0 c.in-Some.run'.now c.loop-run.invariant c.in_ok-cut_word.ensures)

pub loop-run-preserved : goal.loop-run-preserved
loop-run-preserved c =
    let empty : (length c.in-Some.run'.now == 0) ≡ true = sym c.is_empty.ensures ∙ c.if-not-is_empty.false in
    let runs = map (λ run. run.now) c.loop-run.yielded in
    let same : filter is_word (map (λ run. run.now) (c.loop-run.yielded ++ c.in-Some.run' ∷ [])) ≡ filter is_word runs =
    ap (filter is_word) (map-append (λ run. run.now) c.loop-run.yielded (c.in-Some.run' ∷ [])) ∙ filter_push_empty runs c.in-Some.run'.now empty in
    rw same c.loop-run.invariant

pub returns : goal.returns
returns c =
    let end = YieldsList-end (YieldsList-at c.into_iter-run-iterator.ensures.into_iter_gives (YieldsList-from_slice_split _ _ c.args.text.now c.split-run-items.ensures.rest c.split-run-items.ensures.done
    c.split-run-items.ensures.closure (λ x r q k. search (rules, tests)))) c.loop-run.yielded _ c.loop-run.yielded_by _ _ c.in-None.is c.next.ensures.steps in
    whole_template c.args.text.now c.loop-run.words.items c.requires.faultless (rw (ap (filter is_word) end.0) at c.loop-run.invariant)

pub invariant_of-result : goal.invariant_of-result
invariant_of-result c = (c.args.text.now, c.requires.bytes, returns c)
