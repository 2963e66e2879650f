use Rattle.std.proofs.Common.{◌≡◌, ◌==◌, ◌∙◌, not, map, ap, sym}
use Rattle.fk_trace.proofs.Lists.{filter-map}
use Rattle.fk_timer.specs.Schedule.{Entry, without}
use Rattle.fk_cycle.specs.Private.{entry_of}
use Rattle.fk_cycle.proofs.DuesLemmas.{IsTimed-dropped, HasPassed-none}
use Rattle.fk_cycle.proofs.machine.Machine.forget_settled.Goals as goal

pub invariant_of-self : goal.invariant_of-self
invariant_of-self c =
    let items = c.self.inside.records.kept in
    let dues = c.self.inside.dues in
    let id = c.id-id.result in
    let left : map entry_of c.remove.new.self.kept ≡ without id (map entry_of items) =
    ap (map entry_of) c.remove.ensures.kept ∙ sym (filter-map entry_of (λ (entry : Entry). not (entry.id == id)) items) in
    record {
      timed = rw (left, c.drop_id.ensures.come, c.drop_id.ensures.waiting) (IsTimed-dropped id (map entry_of items) dues.come dues.waiting c.self.invariant.timed);
      passed = rw c.drop_id.ensures.passed (HasPassed-none c.drop_id.new.self.at c.remove.new.self.kept c.drop_id.new.self.come);
    }
