use Rattle.std.proofs.Common.{arith, ap, List, map, ◌∙◌}
use Rattle.fk_cycle.specs.Kept.{Register, noted_turn}
use Rattle.fk_cycle.specs.Private.{Stored}
use Rattle.fk_cycle.proofs.RecordLemmas.{turned, tried-later}
use Rattle.fk_cycle.proofs.records.Records.turn.Goals as goal

pub invariant_of-self : goal.invariant_of-self
invariant_of-self c =
    let items : List Stored = c.self.inside.kept.items in
    rw c.in-Some.ensures.1 (record {
      apart = c.self.invariant.apart;
      tried = tried-later c.self.inside.turn items c.self.invariant.tried;
      started = omega arith;
    })

pub returns-in-Some-clause-kept : goal.returns-in-Some-clause-kept
returns-in-Some-clause-kept c =
    let items : List Stored = c.self.inside.kept.items in
    rw c.in-Some.ensures.1 (turned c.self.inside.turn items c.self.invariant.tried) ∙ ap (λ (r : Register). map noted_turn r.kept) c.self.view_is
