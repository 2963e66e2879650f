use Rattle.std.proofs.Common.{arith, rules, ap, not, ◌==◌, ◌≡◌, ◌∙◌, subst, List, length, filter}
use Rattle.std.specs.BinaryHeap.{heap_items}
use Rattle.std.specs.List.Sorted.{IsPermutation}
use Rattle.std.proofs.lemmas.Fn.{filter_same}
use Rattle.std.proofs.lemmas.List.{length-map}
use Rattle.fk_timer.specs.Schedule.{Schedule, without}
use Rattle.fk_timer.specs.Private.{Due, entry_of}
use Rattle.fk_timer.proofs.Sums.{in_order-filter, once-filter, length-in_order}
use Rattle.fk_timer.proofs.Stored.{entries_of, Same-left}
use Rattle.fk_timer.proofs.timer.Timer.drop_id.Goals as goal

pub invariant_of-self : goal.invariant_of-self
invariant_of-self c =
    let items : List Due = heap_items c.self.inside.waiting in
    let new : List Due = heap_items c.retain.new.self in
    let kept : c.retain.ensures.filtered.0 ≡ filter (λ (due : Due). not (due.0.1 == c.args.id)) items =
    filter_same _ (λ (due : Due). not (due.0.1 == c.args.id)) _ (λ x b f' k. search rules) _ _ c.retain.ensures.filtered.1 in
    let permuted : IsPermutation (filter (λ (due : Due). not (due.0.1 == c.args.id)) items) new = subst (λ (kept : List Due). IsPermutation kept new) kept c.retain.ensures.filtered.2 in
    record {
      ranks = c.retain.ensures.heap_order;
      once = once-filter (λ entry. not (entry.id == c.args.id)) (entries_of items) (entries_of new) c.self.invariant.once (Same-left c.args.id items new permuted);
      within = omega (arith, c.retain.ensures.bound, c.self.invariant.within);
      there = omega (arith, c.retain.ensures.capacity, c.self.invariant.there);
    }

pub returns-clause-entries : goal.returns-clause-entries
returns-clause-entries c =
    let items : List Due = heap_items c.self.inside.waiting in
    let new : List Due = heap_items c.retain.new.self in
    let kept : c.retain.ensures.filtered.0 ≡ filter (λ (due : Due). not (due.0.1 == c.args.id)) items =
    filter_same _ (λ (due : Due). not (due.0.1 == c.args.id)) _ (λ x b f' k. search rules) _ _ c.retain.ensures.filtered.1 in
    let permuted : IsPermutation (filter (λ (due : Due). not (due.0.1 == c.args.id)) items) new = subst (λ (kept : List Due). IsPermutation kept new) kept c.retain.ensures.filtered.2 in
    in_order-filter (λ entry. not (entry.id == c.args.id)) (entries_of items) (entries_of new) c.self.invariant.once (Same-left c.args.id items new permuted)
    ∙ ap (λ (schedule : Schedule). without c.args.id schedule.entries) c.self.view_is

pub returns-clause-room : goal.returns-clause-room
returns-clause-room c =
    let items : List Due = heap_items c.self.inside.waiting in
    let new : List Due = heap_items c.retain.new.self in
    let entries = ap (λ (schedule : Schedule). length schedule.entries) c.self.view_is in
    let room = ap (λ (schedule : Schedule). schedule.room) c.self.view_is in
    let before = length-in_order (entries_of items) ∙ length-map items entry_of in
    let behind = length-in_order (entries_of new) ∙ length-map new entry_of in
    omega (arith, entries, room, before, behind, c.retain.ensures.bound, c.self.invariant.within)
