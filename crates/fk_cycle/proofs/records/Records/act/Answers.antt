use Rattle.std.proofs.Common.{◌∙◌, ◌==◌, ap, List, Option, sym}
use Rattle.std.specs.List.{find}
use Rattle.std.specs.Option.{option_map_or}
use Rattle.fk_cycle.specs.declared.act.Act.TheVariants.{Nothing}
use Rattle.fk_cycle.specs.Kept.{Kept, Register}
use Rattle.fk_cycle.specs.Acts.{act_for_close}
use Rattle.fk_cycle.specs.Private.{Stored}
use Rattle.fk_cycle.proofs.RecordLemmas.{find-place, find-none}
use Rattle.fk_cycle.proofs.records.Records.act.Goals as goal

pub returns-in-Some : goal.returns-in-Some
returns-in-Some c =
    let items : List Stored = c.self.inside.kept.items in
    let at = rw c.deref.ensures.value at c.in-Some.ensures.some in
    let found = find-place c.self.inside.turn c.in-Close.id items c.in-Some.place c.index.result.now c.self.invariant.apart at c.index.ensures in
    rw (c.in-Close.is, c.if-good.true)
    (c.act.ensures
    ∙ sym (ap (λ (o : Option Kept). option_map_or (λ (kept : Kept). act_for_close kept.id kept.open_runs kept.close) o Nothing) found)
    ∙ ap (λ (r : Register). option_map_or (λ (kept : Kept). act_for_close kept.id kept.open_runs kept.close) (find (λ (kept : Kept). kept.id == c.in-Close.id) r.kept) Nothing) c.self.view_is)

pub returns-in-None : goal.returns-in-None
returns-in-None c =
    let none = rw c.deref.ensures.value at c.in-None.ensures.none in
    let found = find-none c.self.inside.turn c.in-Close.id c.self.inside.kept.items none in
    rw (c.in-Close.is, c.if-good.true)
    (sym (ap (λ (o : Option Kept). option_map_or (λ (kept : Kept). act_for_close kept.id kept.open_runs kept.close) o Nothing) found)
    ∙ ap (λ (r : Register). option_map_or (λ (kept : Kept). act_for_close kept.id kept.open_runs kept.close) (find (λ (kept : Kept). kept.id == c.in-Close.id) r.kept) Nothing) c.self.view_is)
