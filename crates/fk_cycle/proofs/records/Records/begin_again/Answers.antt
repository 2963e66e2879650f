use Rattle.std.proofs.Common.{◌≤◌, length, arith, ap, List, map, ◌∙◌}
use Rattle.std.proofs.lemmas.List.Edits.{map_over_more}
use Rattle.fk_cycle.specs.Kept.{Register, noted_turn}
use Rattle.fk_cycle.specs.Private.{Stored}
use Rattle.fk_cycle.proofs.RecordLemmas.{untried, all-written, apart-untried, tried-untried, begun-again}
use Rattle.fk_cycle.proofs.records.Records.begin_again.Goals as goal

pub loop-kept-preserved : goal.loop-kept-preserved
loop-kept-preserved c =
    rw (c.forget_turn.ensures, ← c.kept-item.is)
    (map_over_more untried c.deref_mut-kept-items.result.now c.loop-kept.kept-items c.loop-kept.kept-index c.kept-item.result c.loop-kept-test.true c.loop-kept.invariant c.kept-item.is)

pub invariant_of-self : goal.invariant_of-self
invariant_of-self c =
    let items : List Stored = c.self.inside.kept.items in
    let start = c.deref_mut-kept-items.result.now in
    let all : length start ≤ c.loop-kept.kept-index = let test = c.loop-kept-test.false in let same = c.loop-kept.auto.kept-items in omega arith in
    let written = all-written untried items start c.loop-kept.kept-items c.self.inside.kept.len c.loop-kept.kept-index c.deref_mut-kept-items.ensures.value c.deref_mut-kept-items.ensures.len all c.loop-kept.invariant in
    rw written (record { apart = apart-untried items c.self.invariant.apart; tried = tried-untried items; started = omega arith })

pub returns-clause-kept : goal.returns-clause-kept
returns-clause-kept c =
    let items : List Stored = c.self.inside.kept.items in
    let start = c.deref_mut-kept-items.result.now in
    let all : length start ≤ c.loop-kept.kept-index = let test = c.loop-kept-test.false in let same = c.loop-kept.auto.kept-items in omega arith in
    let written = all-written untried items start c.loop-kept.kept-items c.self.inside.kept.len c.loop-kept.kept-index c.deref_mut-kept-items.ensures.value c.deref_mut-kept-items.ensures.len all c.loop-kept.invariant in
    rw written (begun-again c.self.inside.turn items) ∙ ap (λ (r : Register). map noted_turn r.kept) c.self.view_is
