use Rattle.std.proofs.Common.{◌≡◌, ◌∷◌, List, length, map, filter, true, ap, ◌∙◌, arith, rules}
use Rattle.std.specs.Prelude.{is_ok}
use Rattle.std.proofs.lemmas.Fn.{filter_same}
use Rattle.std.proofs.lemmas.List.{length-map}
use Rattle.fk_trace.specs.declared.change.Change.{Change}
use Rattle.fk_trace.specs.declared.change.Change.TheVariants.{Floor}
use Rattle.fk_ledger.specs.Anew.{settled_as, stays}
use Rattle.fk_ledger.proofs.AnewLaws.{kept_filter}
use Rattle.fk_ledger.proofs.anew.begin_anew.Goals as goal

pub returns-clause-items : goal.returns-clause-items
returns-clause-items c =
    let settled : List Change = map (settled_as c.args.live.now) c.args.changes.now.items in
    let kept : c.retain.new.self.items ≡ filter (stays c.args.floor) settled =
    filter_same _ (stays c.args.floor) _ (λ x b f' k. search rules) _ _ c.retain.ensures.filtered ∙ ap (filter (stays c.args.floor)) c.settle_closed.ensures.items in
    let same = length-map c.args.changes.now.items (settled_as c.args.live.now) in
    let sizes = ap length c.settle_closed.ensures.items in
    let fits : is_ok c.insert-fits.result ≡ true = c.insert-fits.ensures.succeeds (omega (arith, c.retain.ensures.bound, c.retain.ensures.capacity, c.settle_closed.ensures.capacity, c.requires, same, sizes)) in
    c.insert-fits.ensures.items ∙ rw fits (ap (λ (xs : List Change). Floor c.args.floor c.args.next ∷ xs) (kept ∙ kept_filter c.args.floor c.args.live.now c.args.changes.now.items))
