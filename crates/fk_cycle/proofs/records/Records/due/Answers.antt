use Rattle.std.proofs.Common.{◌∙◌, ◌==◌, ap, List, Some, sym}
use Rattle.std.specs.List.{find}
use Rattle.std.specs.Option.{option_map}
use Rattle.fk_cycle.specs.Kept.{Kept, Register, is_kept}
use Rattle.fk_cycle.specs.Private.{Stored}
use Rattle.fk_cycle.proofs.RecordLemmas.{find-place, any-none}
use Rattle.fk_cycle.proofs.records.Records.due.Goals as goal

pub unreachable-requires : goal.unreachable-requires
unreachable-requires c =
    let none = rw c.deref.ensures.value at c.in-None.ensures.none in
    let absent = any-none c.self.inside.turn c.args.id (λ (kept : Kept). kept.id == c.args.id) (λ kept apart. apart) c.self.inside.kept.items none in
    let held = ap (λ (r : Register). is_kept c.args.id r.kept) c.self.view_is ∙ c.requires in
    absurd (let both = sym absent ∙ held in cc)

pub returns : goal.returns
returns c =
    let items : List Stored = c.self.inside.kept.items in
    let at = rw c.deref.ensures.value at c.in-Some.ensures.some in
    sym (ap (λ (r : Register). option_map (λ (kept : Kept). kept.due) (find (λ (kept : Kept). kept.id == c.args.id) r.kept)) c.self.view_is)
    ∙ ap (option_map (λ (kept : Kept). kept.due)) (find-place c.self.inside.turn c.args.id items c.in-Some.place c.index.result.now c.self.invariant.apart at c.index.ensures)
    ∙ ap Some (sym c.due.ensures)
