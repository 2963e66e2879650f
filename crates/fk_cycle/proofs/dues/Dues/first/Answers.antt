use Rattle.std.proofs.Common.{ℕ, ◌++◌, List, map, ap, subst}
use Rattle.fk_timer.specs.Schedule.{Entry}
use Rattle.fk_cycle.specs.Private.{Awaited, IsFirstWaiting, entry_of}
use Rattle.fk_cycle.proofs.TimedLemmas.{first_ready, none-due}
use Rattle.fk_cycle.proofs.DuesLemmas.{joined, Waits-right}
use Rattle.fk_cycle.proofs.dues.Dues.first.Goals as goal

pub returns-clause-first : goal.returns-clause-first
returns-clause-first c =
    let machine = c.args.records.now.kept in
    let gathered = c.gather.new.self in
    let at = ap (λ (dues : Awaited). dues.at) c.turn_to.ensures.same in
    let come = ap (λ (dues : Awaited). dues.come) c.turn_to.ensures.same in
    let first = subst (λ (n : ℕ). IsFirstWaiting n machine gathered.come c.pass.result) at
    (subst (λ (entries : List Entry). IsFirstWaiting c.turn_to.new.self.at machine entries c.pass.result) come c.pass.ensures.first) in
    let none = none-due c.args.moment machine gathered.waiting (Waits-right (map entry_of machine) gathered.come gathered.waiting c.gather.ensures.timed.waits) c.gather.ensures.all in
    first_ready c.args.moment machine (gathered.come ++ gathered.waiting) c.gather.ensures.timed c.pass.result (joined c.args.moment machine gathered.come gathered.waiting c.pass.result none first)
