use Rattle.std.proofs.Common.{◌≡◌, ℕ, Option, Some, None, Vec, Global, ◌∷◌, [], ◌++◌, List, take, ap, sym, ◌∙◌}
use Rattle.std.proofs.lemmas.List.{take_all, append-nil}
use Rattle.std.specs.Option.{option_to_list}
use Rattle.fk_trace.specs.Ledger.{opens}
use Rattle.fk_ledger.specs.Private.{ids_of}
use Rattle.fk_ledger.proofs.ChangeLists.{ids_step, ids_all}
use Rattle.fk_ledger.proofs.changes.live_ids.Goals as goal
use Rattle.fk_ledger.proofs.changes.live_ids.Goals.{in-Some+in_ok-push, in_default}

pushed : (ids front all new : List ℕ) (r : Option ℕ) (id : ℕ) → r ≡ Some id → new ≡ ids ++ id ∷ [] → ids ≡ front → all ≡ front ++ option_to_list r → new ≡ all
pushed ids front all new r id is made so_far step = made ∙ ap (λ xs. xs ++ id ∷ []) so_far ∙ ap (λ x. front ++ option_to_list x) (sym is) ∙ sym step

kept : (ids front all new : List ℕ) (r : Option ℕ) → r ≡ None → new ≡ ids → ids ≡ front → all ≡ front ++ option_to_list r → new ≡ all
kept ids front all new r is same so_far step = same ∙ so_far ∙ sym (append-nil front) ∙ ap (λ x. front ++ option_to_list x) (sym is) ∙ sym step

pub loop-change-preserved : goal.loop-change-preserved
loop-change-preserved c =
    let step = ids_step c.args.changes.now c.loop-change.change-index c.change-item.result c.loop-change-test.true c.change-item.is ∙ ap (λ more. ids_of c.args.changes.now (opens (take c.loop-change.change-index c.args.changes.now)) ++ more) (sym (c.live_id.ensures c.args.changes.now c.requires)) in
    elim c.match-live_id.branch [
      | in-Some+in_ok-push w ↦ pushed _ _ _ _ _ _ w.in-Some.is (ap (λ (v : Vec ℕ Global). v.items) w.ids-is ∙ w.in_ok-push.ensures.items) c.loop-change.invariant step
      | in_default w ↦ kept _ _ _ _ _ w.in_default.is (ap (λ (v : Vec ℕ Global). v.items) w.ids-is) c.loop-change.invariant step
    ]

pub returns : goal.returns
returns c = c.loop-change.invariant ∙ ap (λ front. ids_of c.args.changes.now (opens front)) (take_all c.loop-change.change-index c.args.changes.now c.loop-change-test.false) ∙ ids_all c.args.changes.now
