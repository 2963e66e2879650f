use Rattle.std.proofs.Common.{rules, tests, ap, ◌≡◌, ◌∙◌, sym, ◌==◌, List}
use Rattle.std.specs.BinaryHeap.{heap_items}
use Rattle.std.specs.List.{list_any}
use Rattle.std.proofs.lemmas.Iterator.{YieldsList-from_slice}
use Rattle.std.proofs.lemmas.Iterator.Search.{any_from_yields_List}
use Rattle.fk_timer.specs.Schedule.{Schedule, holds}
use Rattle.fk_timer.specs.Private.{Due, in_order}
use Rattle.fk_timer.proofs.Sums.{Same-in_order, holds-same}
use Rattle.fk_timer.proofs.Stored.{entries_of, holds-stored}
use Rattle.fk_timer.proofs.timer.Timer.holds.Goals as goal

pub returns : goal.returns
returns c =
    let items : List Due = heap_items c.self.inside.waiting in
    let any : c.any.result ≡ list_any (λ (due : Due). due.0.1 == c.args.id) items =
    any_from_yields_List (λ (due : Due). due.0.1 == c.args.id) _ _ _ c.any.ensures.ran (YieldsList-from_slice items c.iter.ensures.rest) (λ x b q k. search (rules, tests)) in
    any ∙ sym (holds-stored c.args.id items) ∙ sym (holds-same c.args.id (in_order (entries_of items)) (entries_of items) (Same-in_order (entries_of items)))
    ∙ ap (λ (schedule : Schedule). holds c.args.id schedule.entries) c.self.view_is
