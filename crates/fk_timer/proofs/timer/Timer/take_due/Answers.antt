use Rattle.std.proofs.Common.{arith, ap, ◌≡◌, ◌∙◌, sym, refl, subst, List, ◌∷◌, ◌<◌}
use Rattle.std.specs.List.{All}
use Rattle.std.specs.BinaryHeap.{heap_items}
use Rattle.fk_timer.specs.Schedule.{Entry, Schedule}
use Rattle.fk_timer.specs.Private.{Due, entry_of, in_order}
use Rattle.fk_timer.proofs.Sums.{alone, leads, once-rest, taken}
use Rattle.fk_timer.proofs.Stored.{entries_of, Same-permuted, none-before, none-due, on_top}
use Rattle.fk_timer.proofs.timer.Timer.take_due.Goals as goal

pub returns-then-first-moment-clause-none : goal.returns-then-first-moment-clause-none
returns-then-first-moment-clause-none c =
    let items : List Due = heap_items c.self.inside.waiting in
    let entries : in_order (entries_of items) ≡ c.args.self.now.entries = ap (λ (schedule : Schedule). schedule.entries) c.self.view_is in (
      subst (All (λ (entry : Entry). c.args.moment < entry.moment)) entries
          (none-due c.args.moment c.in_ok-first.field-0.now items c.if-first-moment.true (c.in_ok-first.ensures.greatest c.self.invariant.ranks)),
      refl,
    )

pub invariant_of-self-2 : goal.invariant_of-self-2
invariant_of-self-2 c =
    let items : List Due = heap_items c.self.inside.waiting in
    let rest : List Due = heap_items c.pop.new.self in
    let due : Due = c.in_ok-id.field-0 in
    let same = Same-permuted items (due ∷ rest) c.in_ok-id.ensures.permutation in
    let none = none-before due rest (c.in_ok-id.ensures.below_top c.self.invariant.ranks) in
    let ranks = c.in_ok-id.ensures.heap_order c.self.invariant.ranks in
    record {
      ranks = ranks.0;
      once = once-rest (entries_of items) (entry_of due) (entries_of rest) c.self.invariant.once same none;
      within = omega (arith, c.in_ok-id.ensures.len, c.self.invariant.within);
      there = omega (arith, c.in_ok-id.ensures.capacity, c.self.invariant.there);
    }

pub returns-clause-some : goal.returns-clause-some
returns-clause-some c =
    let items : List Due = heap_items c.self.inside.waiting in
    let rest : List Due = heap_items c.pop.new.self in
    let due : Due = c.in_ok-id.field-0 in
    let entries : in_order (entries_of items) ≡ c.args.self.now.entries = ap (λ (schedule : Schedule). schedule.entries) c.self.view_is in
    let room = ap (λ (schedule : Schedule). schedule.room) c.self.view_is in
    let same = Same-permuted items (due ∷ rest) c.in_ok-id.ensures.permutation in
    let none = none-before due rest (c.in_ok-id.ensures.below_top c.self.invariant.ranks) in
    let top : c.in_ok-first.field-0.now ≡ due = on_top items rest c.in_ok-first.field-0.now due c.in_ok-id.ensures.permutation c.in_ok-first.ensures.lookup c.in_ok-id.ensures.top in
    let moment : c.in_ok-first.field-0.now.0.0 ≡ due.0.0 = ap (λ (due : Due). due.0.0) top in (
      record {
        entry = entry_of due;
        number = refl;
        due = omega (arith, moment, c.if-first-moment.false);
        taken = sym entries ∙ taken (entries_of items) (entry_of due) (entries_of rest) c.self.invariant.once same none;
        first = leads (entries_of items) (entry_of due) (entries_of rest) c.self.invariant.once same none;
        once = alone (entries_of items) (entry_of due) (entries_of rest) c.self.invariant.once same none;
      },
      omega (arith, c.in_ok-id.ensures.len, c.self.invariant.within, room),
    )
