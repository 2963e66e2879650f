use Rattle.std.proofs.Common.{◌∙◌, ap, List, sym}
use Rattle.std.specs.List.{list_any}
use Rattle.fk_cycle.specs.Kept.{Register, has_running}
use Rattle.fk_cycle.specs.Stands.{record_of}
use Rattle.fk_cycle.specs.Private.{Stored}
use Rattle.fk_cycle.proofs.RecordLemmas.{any-at, any-none, others-has_running}
use Rattle.fk_cycle.proofs.records.Records.has_running.Goals as goal

pub returns-in-Some : goal.returns-in-Some
returns-in-Some c =
    let items : List Stored = c.self.inside.kept.items in
    let at = rw (c.record_of.ensures, c.deref.ensures.value) at c.in-Some.ensures.some in
    c.has_running.ensures c.self.inside.turn
    ∙ sym (any-at c.self.inside.turn (record_of c.args.purpose) (has_running c.args.purpose) (others-has_running c.args.purpose) items c.in-Some.place c.index.result.now c.self.invariant.apart at c.index.ensures)
    ∙ ap (λ (r : Register). list_any (has_running c.args.purpose) r.kept) c.self.view_is

pub returns-in-None : goal.returns-in-None
returns-in-None c =
    let none = rw (c.record_of.ensures, c.deref.ensures.value) at c.in-None.ensures.none in
    sym (any-none c.self.inside.turn (record_of c.args.purpose) (has_running c.args.purpose) (others-has_running c.args.purpose) c.self.inside.kept.items none)
    ∙ ap (λ (r : Register). list_any (has_running c.args.purpose) r.kept) c.self.view_is
