use Rattle.std.proofs.Common.{◌≡◌, ◌∙◌, ◌==◌, not, ap, List, arith, false, length}
use Rattle.std.proofs.lemmas.List.Elements.{All-filter}
use Rattle.fk_timer.proofs.Orders.{IsInOrder-filter}
use Rattle.fk_timer.specs.Schedule.{Entry, holds, without}
use Rattle.fk_cycle.specs.Private.{Awaited}
use Rattle.fk_cycle.proofs.DuesLemmas.{removed, apart-of, apart-filter, length-without, without-none}
use Rattle.fk_cycle.proofs.dues.Dues.drop_id.Goals as goal

pub invariant_of-self : goal.invariant_of-self
invariant_of-self c =
    let come : List Entry = c.self.inside.come.items in
    let waiting : List Entry = c.self.inside.waiting.entries in
    let at = rw c.deref.ensures.value at c.in-Some.ensures.some in
    let left = c.remove.ensures.items ∙ removed c.args.id come c.in-Some.place c.self.invariant.order at in
    rw left (record {
      order = IsInOrder-filter (λ entry. not (entry.id == c.args.id)) come c.self.invariant.order;
      apart = All-filter (λ (entry : Entry). not (entry.id == c.args.id)) (λ entry. holds entry.id waiting ≡ false) come c.self.invariant.apart;
      timer = c.self.invariant.timer;
      there = omega (arith, c.remove.ensures.len, c.remove.ensures.capacity, c.self.invariant.there);
    })

pub invariant_of-self-in-None : goal.invariant_of-self-in-None
invariant_of-self-in-None c =
    let come : List Entry = c.self.inside.come.items in
    let waiting : List Entry = c.self.inside.waiting.entries in
    let fewer = length-without c.args.id waiting in
    let count = ap (λ (entries : List Entry). length entries) c.drop_id.ensures.entries in
    record {
      order = c.self.invariant.order;
      apart = rw c.drop_id.ensures.entries (apart-filter c.args.id come waiting c.self.invariant.apart);
      timer = omega (arith, c.drop_id.ensures.room, c.self.invariant.timer, fewer, count);
      there = omega (arith, fewer, count, c.self.invariant.there);
    }

pub returns-in-Some-clause-come : goal.returns-in-Some-clause-come
returns-in-Some-clause-come c =
    let come : List Entry = c.self.inside.come.items in
    let at = rw c.deref.ensures.value at c.in-Some.ensures.some in
    c.remove.ensures.items ∙ removed c.args.id come c.in-Some.place c.self.invariant.order at ∙ ap (λ (dues : Awaited). without c.args.id dues.come) c.self.view_is

pub returns-in-Some-clause-waiting : goal.returns-in-Some-clause-waiting
returns-in-Some-clause-waiting c =
    let come : List Entry = c.self.inside.come.items in
    let waiting : List Entry = c.self.inside.waiting.entries in
    let at = rw c.deref.ensures.value at c.in-Some.ensures.some in
    without-none c.args.id waiting (apart-of c.args.id come waiting c.in-Some.place at c.self.invariant.apart)
    ∙ ap (λ (dues : Awaited). without c.args.id dues.waiting) c.self.view_is

pub returns-in-None-clause-come : goal.returns-in-None-clause-come
returns-in-None-clause-come c =
    let none = rw c.deref.ensures.value at c.in-None.ensures.none in
    without-none c.args.id c.self.inside.come.items none ∙ ap (λ (dues : Awaited). without c.args.id dues.come) c.self.view_is
