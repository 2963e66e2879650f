use Rattle.std.proofs.Common.{arith, ap, ◌≡◌, ◌∙◌, List}
use Rattle.std.specs.BinaryHeap.{heap_items}
use Rattle.fk_timer.specs.Schedule.{Schedule, with_entry, holds}
use Rattle.fk_timer.specs.Private.{Due, in_order}
use Rattle.fk_timer.proofs.Stored.{entries_of, once-put, put-in_order}
use Rattle.fk_timer.proofs.timer.Timer.put.Goals as goal

pub invariant_of-self : goal.invariant_of-self
invariant_of-self c =
    let items : List Due = heap_items c.self.inside.waiting in
    let entries : in_order (entries_of items) ≡ c.args.self.now.entries = ap (λ (schedule : Schedule). schedule.entries) c.self.view_is in
    let room = ap (λ (schedule : Schedule). schedule.room) c.self.view_is in
    let due : Due = record { 0 = (c.args.moment, c.args.id) } in
    let unknown = ap (holds c.args.id) entries ∙ c.requires.unknown in
    record {
      ranks = c.in-Ok.ensures.heap_order c.self.invariant.ranks;
      once = once-put items (heap_items c.push.new.self) due c.in-Ok.ensures.permutation c.self.invariant.once unknown;
      within = omega (arith, c.in-Ok.ensures.len, c.self.invariant.within, c.requires.room, room);
      there = omega (arith, c.in-Ok.ensures.capacity, c.self.invariant.there);
    }

pub returns-clause-entries : goal.returns-clause-entries
returns-clause-entries c =
    let items : List Due = heap_items c.self.inside.waiting in
    let entries : in_order (entries_of items) ≡ c.args.self.now.entries = ap (λ (schedule : Schedule). schedule.entries) c.self.view_is in
    let due : Due = record { 0 = (c.args.moment, c.args.id) } in
    let unknown = ap (holds c.args.id) entries ∙ c.requires.unknown in
    put-in_order items (heap_items c.push.new.self) due c.in-Ok.ensures.permutation c.self.invariant.once unknown
    ∙ ap (with_entry (record { id = c.args.id; moment = c.args.moment })) entries
