use Rattle.std.proofs.Common.{◌∙◌, ◌==◌, ap, not, List, sym}
use Rattle.std.specs.List.{filter}
use Rattle.fk_cycle.specs.Kept.{Kept, Register}
use Rattle.fk_cycle.specs.Private.{Stored}
use Rattle.fk_cycle.proofs.RecordLemmas.{left-at, left-none, apart-remove, tried-remove}
use Rattle.fk_cycle.proofs.records.Records.remove.Goals as goal

pub invariant_of-self : goal.invariant_of-self
invariant_of-self c =
    let items : List Stored = c.self.inside.kept.items in
    rw c.remove.ensures.items (record {
      apart = apart-remove items c.in-Some.place c.self.invariant.apart;
      tried = tried-remove c.self.inside.turn items c.in-Some.place c.self.invariant.tried;
      started = c.self.invariant.started;
    })

pub returns-in-Some-clause-kept : goal.returns-in-Some-clause-kept
returns-in-Some-clause-kept c =
    let items : List Stored = c.self.inside.kept.items in
    let at = rw c.deref.ensures.value at c.in-Some.ensures.some in
    rw c.remove.ensures.items (left-at c.args.id c.self.inside.turn items c.in-Some.place c.self.invariant.apart at)
    ∙ ap (λ (r : Register). filter (λ (kept : Kept). not (kept.id == c.args.id)) r.kept) c.self.view_is

pub returns-in-None-clause-kept : goal.returns-in-None-clause-kept
returns-in-None-clause-kept c =
    let none = rw c.deref.ensures.value at c.in-None.ensures.none in
    sym (ap (λ (r : Register). r.kept) c.self.view_is)
    ∙ left-none c.args.id c.self.inside.turn c.self.inside.kept.items none
    ∙ ap (λ (r : Register). filter (λ (kept : Kept). not (kept.id == c.args.id)) r.kept) c.self.view_is
