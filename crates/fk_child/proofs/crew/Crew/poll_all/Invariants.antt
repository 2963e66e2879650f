use Rattle.std.proofs.Common.{◌≡◌, length}
use Rattle.fk_child.specs.Crew.{on_host}
use Rattle.fk_child.specs.Calls.{AtEach}
use Rattle.fk_child.specs.Private.{PartlyPolled}
use Rattle.fk_child.proofs.crew.Crew.poll_all.Given as goal

abbrev pub invariant-loop : goal.invariant-loop
invariant-loop g l =
    let on = on_host g.H.Disk in
    AtEach (PartlyPolled l.moment l.counter) (on l.fn.self l.fn.host) (on l.self l.host) × (l.self.owed ≡ l.fn.self.owed) × (l.self.room ≡ l.fn.self.room) × (l.end ≡ length l.fn.self.children)
