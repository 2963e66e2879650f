use Rattle.std.proofs.Common.{arith, ap, length, ◌∙◌, List}
use Rattle.std.specs.BinaryHeap.{heap_items}
use Rattle.std.proofs.lemmas.List.{length-map}
use Rattle.fk_timer.specs.Schedule.{Schedule}
use Rattle.fk_timer.specs.Private.{Due, entry_of}
use Rattle.fk_timer.proofs.Sums.{length-in_order}
use Rattle.fk_timer.proofs.Stored.{entries_of}
use Rattle.fk_timer.proofs.timer.Timer.count.Goals as goal

pub returns : goal.returns
returns c =
    let items : List Due = heap_items c.self.inside.waiting in
    let entries = ap (λ (schedule : Schedule). length schedule.entries) c.self.view_is in
    let count = length-in_order (entries_of items) ∙ length-map items entry_of in
    omega (arith, entries, count)
