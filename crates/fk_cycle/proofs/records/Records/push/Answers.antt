use Rattle.std.proofs.Common.{◌≡◌, ◌∙◌, ◌++◌, [], ◌∷◌, ap, map, List, sym, arith, false}
use Rattle.std.proofs.lemmas.List.{map-append}
use Rattle.fk_cycle.specs.Kept.{Register, fresh, is_kept}
use Rattle.fk_cycle.specs.Private.{Stored, stored, kept_at}
use Rattle.fk_cycle.proofs.RecordLemmas.{is_stored, apart-push, tried-push, stored-any, fresh_tried, not_now}
use Rattle.fk_cycle.proofs.records.Records.push.Goals as goal

pub invariant_of-self : goal.invariant_of-self
invariant_of-self c =
    let items : List Stored = c.self.inside.kept.items in
    let none : is_stored c.args.id items ≡ false =
    sym (stored-any c.self.inside.turn c.args.id items) ∙ ap (λ (r : Register). is_kept c.args.id r.kept) c.self.view_is ∙ c.requires.unknown in
    rw (c.push_reserved.ensures.items, c.new.ensures) (record {
      apart = apart-push items (stored c.args.id c.args.due) c.self.invariant.apart none;
      tried = tried-push c.self.inside.turn items (stored c.args.id c.args.due) c.self.invariant.tried (omega arith);
      started = c.self.invariant.started;
    })

pub returns-clause-kept : goal.returns-clause-kept
returns-clause-kept c =
    let items : List Stored = c.self.inside.kept.items in
    rw (c.push_reserved.ensures.items, c.new.ensures)
    (map-append (kept_at c.self.inside.turn) items (stored c.args.id c.args.due ∷ []) ∙ ap (λ b. map (kept_at c.self.inside.turn) items ++ fresh_tried c.args.id c.args.due b ∷ []) (not_now c.self.inside.turn c.self.invariant.started)
    ∙ ap (λ (r : Register). r.kept ++ fresh c.args.id c.args.due ∷ []) c.self.view_is)
