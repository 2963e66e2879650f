use Rattle.std.proofs.Common.{◌∙◌, ◌++◌, List, map, subst, sym}
use Rattle.fk_timer.specs.Schedule.{Entry}
use Rattle.fk_cycle.specs.Private.{IsTimed, entry_of}
use Rattle.fk_cycle.proofs.DuesLemmas.{IsTimed-moved, HasPassed-none}
use Rattle.fk_cycle.proofs.dues.Dues.gather.Goals as goal

pub loop-preserved : goal.loop-preserved
loop-preserved c =
    let machine = c.args.records.now.kept in
    let old = c.loop.self in
    let new = c.move_first.new.self in
    let moved = c.move_first.ensures.moved c.loop-test.true in
    let timed = subst (λ (entries : List Entry). IsTimed (map entry_of machine) (old.come ++ entries)) moved.waiting c.loop.invariant.timed in
    let come = subst (λ (entries : List Entry). IsTimed (map entry_of machine) (entries ++ new.waiting)) (sym moved.come) (IsTimed-moved (map entry_of machine) moved.entry old.come new.waiting timed) in
    record {
      timed = come;
      passed = rw moved.passed (HasPassed-none new.at machine new.come);
      room = moved.room ∙ c.loop.invariant.room;
    }
