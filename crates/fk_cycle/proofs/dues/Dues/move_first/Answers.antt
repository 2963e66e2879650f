use Rattle.std.specs.Prelude.{insert}
use Rattle.std.specs.List.{position_or_len, All}
use Rattle.fk_timer.proofs.Orders.{IsInOrder-with_entry}
use Rattle.std.proofs.Common.{ℕ, ◌≡◌, ◌∙◌, ◌∷◌, false, ap, sym, refl, subst, map, List, arith, length}
use Rattle.fk_timer.specs.Schedule.{Entry, holds, precedes, with_entry}
use Rattle.fk_cycle.specs.Private.{Awaited, Waits, entry_of}
use Rattle.fk_cycle.proofs.DuesLemmas.{Waits-right, place-within, unknown-come, apart-moved}
use Rattle.fk_cycle.proofs.TimedLemmas.{is_kept-taken, due-taken, entry_at}
use Rattle.fk_cycle.proofs.dues.Dues.move_first.Goals as goal

pub due-requires : goal.due-requires
due-requires c =
    let waits = Waits-right (map entry_of c.args.records.now.kept) c.args.self.now.come c.args.self.now.waiting c.requires.timed.waits in
    let waiting = ap (λ (dues : Awaited). dues.waiting) c.self.view_is in
    is_kept-taken c.args.records.now.kept c.args.moment c.in-Some.id c.self.inside.waiting.entries c.take_due.new.self.entries c.in-Some.ensures.some.0 (subst (Waits (map entry_of c.args.records.now.kept)) (sym waiting) waits)

pub insert-requires : goal.insert-requires
insert-requires c =
    let entry : Entry = record { id = c.in-Some.id; moment = c.due.result } in
    let within = place-within entry c.deref.result.now in
    omega (arith, within, c.place_behind-place.ensures, c.deref.ensures.len)

pub invariant_of-self-2 : goal.invariant_of-self-2
invariant_of-self-2 c =
    let machine = c.args.records.now.kept in
    let come : List Entry = c.self.inside.come.items in
    let old : List Entry = c.self.inside.waiting.entries in
    let new : List Entry = c.take_due.new.self.entries in
    let waiting = ap (λ (dues : Awaited). dues.waiting) c.self.view_is in
    let waits = subst (Waits (map entry_of machine)) (sym waiting) (Waits-right (map entry_of machine) c.args.self.now.come c.args.self.now.waiting c.requires.timed.waits) in
    let taken = c.in-Some.ensures.some.0 in
    let moment = due-taken machine c.args.moment c.in-Some.id old new taken waits c.due.result c.due.ensures in
    let same : entry_at c.in-Some.id c.due.result ≡ taken.entry = ap (λ (n : ℕ). entry_at n c.due.result) (sym taken.number) ∙ ap (entry_at taken.entry.id) moment in
    let place = c.place_behind-place.ensures ∙ ap (λ (entries : List Entry). position_or_len (λ other. precedes (entry_at c.in-Some.id c.due.result) other) entries) c.deref.ensures.value in
    let moved : c.insert.new.self.items ≡ with_entry taken.entry come =
    c.in-Ok.ensures.items ∙ ap (λ (n : ℕ). insert come n (entry_at c.in-Some.id c.due.result)) place ∙ ap (λ (entry : Entry). with_entry entry come) same in
    let apart = subst (λ (entries : List Entry). All (λ (entry : Entry). holds entry.id entries ≡ false) come) taken.taken c.self.invariant.apart in
    let once = subst (λ (n : ℕ). holds n new ≡ false) (sym taken.number) taken.once in
    let count : length old ≡ length (taken.entry ∷ new) = ap (λ (entries : List Entry). length entries) taken.taken in
    rw moved (record {
      order = IsInOrder-with_entry taken.entry come (unknown-come taken.entry come new apart) c.self.invariant.order;
      apart = apart-moved taken.entry come new apart once;
      timer = omega (arith, c.in-Some.ensures.some.1, c.self.invariant.timer);
      there = omega (arith, c.in-Ok.ensures.len, c.in-Ok.ensures.capacity, count, c.self.invariant.there);
    })

pub returns-clause-moved : goal.returns-clause-moved
returns-clause-moved c =
    λ _.
    let machine = c.args.records.now.kept in
    let come : List Entry = c.self.inside.come.items in
    let old : List Entry = c.self.inside.waiting.entries in
    let new : List Entry = c.take_due.new.self.entries in
    let waiting = ap (λ (dues : Awaited). dues.waiting) c.self.view_is in
    let waits = subst (Waits (map entry_of machine)) (sym waiting) (Waits-right (map entry_of machine) c.args.self.now.come c.args.self.now.waiting c.requires.timed.waits) in
    let taken = c.in-Some.ensures.some.0 in
    let moment = due-taken machine c.args.moment c.in-Some.id old new taken waits c.due.result c.due.ensures in
    let same : entry_at c.in-Some.id c.due.result ≡ taken.entry = ap (λ (n : ℕ). entry_at n c.due.result) (sym taken.number) ∙ ap (entry_at taken.entry.id) moment in
    let place = c.place_behind-place.ensures ∙ ap (λ (entries : List Entry). position_or_len (λ other. precedes (entry_at c.in-Some.id c.due.result) other) entries) c.deref.ensures.value in
    let moved : c.insert.new.self.items ≡ with_entry taken.entry come =
    c.in-Ok.ensures.items ∙ ap (λ (n : ℕ). insert come n (entry_at c.in-Some.id c.due.result)) place ∙ ap (λ (entry : Entry). with_entry entry come) same in
    record {
      entry = taken.entry;
      waiting = sym waiting ∙ taken.taken;
      come = moved ∙ ap (λ (dues : Awaited). with_entry taken.entry dues.come) c.self.view_is;
      passed = refl;
      at = ap (λ (dues : Awaited). dues.at) c.self.view_is;
      room = ap (λ (dues : Awaited). dues.room) c.self.view_is;
    }
