use Rattle.std.proofs.Common.{ℕ, List, ap, subst}
use Rattle.fk_cycle.specs.Kept.{Kept, Register}
use Rattle.fk_cycle.specs.Ranks.{IsFirstReady}
use Rattle.fk_cycle.proofs.RankLemmas.{next_due}
use Rattle.fk_cycle.proofs.machine.Machine.due.Goals as goal

pub returns-clause-stands : goal.returns-clause-stands
returns-clause-stands c =
    λ past ends live stands.
    let kept = ap (λ (r : Register). r.kept) c.self.view_is in
    next_due c.args.self.now.kept past ends live stands c.args.moment c.first.result
    (subst (λ (ks : List Kept). IsFirstReady c.args.moment ks c.first.result) kept
    (subst (λ (n : ℕ). IsFirstReady n c.self.inside.records.kept c.first.result) c.get.ensures.value c.first.ensures.first))
