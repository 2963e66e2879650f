use Rattle.std.proofs.Common.{◌∙◌, ◌==◌, ap, List, sym}
use Rattle.fk_cycle.specs.Kept.{Kept, Register, is_kept}
use Rattle.fk_cycle.specs.Private.{Stored}
use Rattle.fk_cycle.proofs.RecordLemmas.{kept-at, any-none}
use Rattle.fk_cycle.proofs.records.Records.keeps.Goals as goal

pub returns-in-Some : goal.returns-in-Some
returns-in-Some c =
    let items : List Stored = c.self.inside.kept.items in
    let at = rw c.deref.ensures.value at c.in-Some.ensures.some in
    sym (kept-at c.self.inside.turn c.args.id items c.in-Some.field-0 at) ∙ ap (λ (r : Register). is_kept c.args.id r.kept) c.self.view_is

pub returns-in-None : goal.returns-in-None
returns-in-None c =
    let none = rw c.deref.ensures.value at c.in-None.ensures.none in
    sym (any-none c.self.inside.turn c.args.id (λ (kept : Kept). kept.id == c.args.id) (λ kept apart. apart) c.self.inside.kept.items none)
    ∙ ap (λ (r : Register). is_kept c.args.id r.kept) c.self.view_is
