use Rattle.std.proofs.Common.{◌≡◌, ◌∙◌, ◌++◌, false, ap, List, arith}
use Rattle.fk_timer.specs.Schedule.{Entry, holds}
use Rattle.fk_cycle.specs.Private.{Awaited}
use Rattle.fk_cycle.proofs.DuesLemmas.{apart-put, none-left, length-with_entry}
use Rattle.fk_cycle.proofs.dues.Dues.put.Goals as goal

pub invariant_of-self : goal.invariant_of-self
invariant_of-self c =
    let come : List Entry = c.self.inside.come.items in
    let waiting : List Entry = c.self.inside.waiting.entries in
    let entry : Entry = record { id = c.args.id; moment = c.args.due } in
    let unknown : holds c.args.id (come ++ waiting) ≡ false = ap (λ (dues : Awaited). holds c.args.id (dues.come ++ dues.waiting)) c.self.view_is ∙ c.requires.unknown in
    let room = ap (λ (dues : Awaited). dues.room) c.self.view_is in
    let more = length-with_entry entry waiting in
    rw c.put.ensures.entries (record {
      order = c.self.invariant.order;
      apart = apart-put entry come waiting (none-left c.args.id come waiting unknown) c.self.invariant.apart;
      timer = omega (arith, c.put.ensures.room, c.self.invariant.timer, c.requires.room, room);
      there = omega (arith, more, c.self.invariant.there, c.requires.room, room);
    })
