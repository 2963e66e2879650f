use Rattle.std.proofs.Common.{◌≡◌, ◌∙◌, ◌==◌, ◌&&◌, ap, List, sym}
use Rattle.std.proofs.lemmas.Bool.{eq-eqb}
use Rattle.fk_cycle.specs.Kept.{Kept, Register, is_ready}
use Rattle.fk_cycle.specs.Private.{Stored, is_ready_at, kept_at}
use Rattle.fk_cycle.proofs.RecordLemmas.{any-at, any-none, others-ready}
use Rattle.fk_cycle.proofs.records.Records.is_ready.Goals as goal

pub returns-in-Some : goal.returns-in-Some
returns-in-Some c =
    let items : List Stored = c.self.inside.kept.items in
    let old : Stored = c.index.result.now in
    let at = rw c.deref.ensures.value at c.in-Some.ensures.some in
    let number : old.id ≡ c.args.id = ap (λ (item : Stored). item.id) c.index.ensures ∙ at.number old in
    c.is_ready.ensures
    ∙ sym (ap (λ b. b && is_ready c.args.moment (kept_at c.self.inside.turn old)) (eq-eqb old.id c.args.id number))
    ∙ sym (any-at c.self.inside.turn c.args.id (λ (kept : Kept). kept.id == c.args.id && is_ready c.args.moment kept) (others-ready c.args.id c.args.moment) items c.in-Some.place old c.self.invariant.apart at c.index.ensures)
    ∙ ap (λ (r : Register). is_ready_at c.args.moment r.kept c.args.id) c.self.view_is

pub returns-in-None : goal.returns-in-None
returns-in-None c =
    let none = rw c.deref.ensures.value at c.in-None.ensures.none in
    sym (any-none c.self.inside.turn c.args.id (λ (kept : Kept). kept.id == c.args.id && is_ready c.args.moment kept) (others-ready c.args.id c.args.moment) c.self.inside.kept.items none)
    ∙ ap (λ (r : Register). is_ready_at c.args.moment r.kept c.args.id) c.self.view_is
