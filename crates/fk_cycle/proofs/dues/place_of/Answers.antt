use Rattle.std.proofs.Common.{◌≡◌, ◌==◌, ℕ, ap, subst}
use Rattle.std.specs.Prelude.{position}
use Rattle.fk_timer.specs.Schedule.{Entry}
use Rattle.fk_cycle.proofs.DuesLemmas.{placed, unplaced}
use Rattle.fk_cycle.proofs.dues.place_of.Goals as goal

pub returns-clause-some : goal.returns-clause-some
returns-clause-some c =
    let number = ap (λ (entry : Entry). entry.id) c.due.view_is in
    placed c.args.due.id c.args.come.now c.place_by_walk.result
    (subst (λ (n : ℕ). c.place_by_walk.result ≡ position (λ (x : Entry). x.id == n) c.args.come.now) number c.place_by_walk.ensures)

pub returns-clause-none : goal.returns-clause-none
returns-clause-none c =
    let number = ap (λ (entry : Entry). entry.id) c.due.view_is in
    unplaced c.args.due.id c.args.come.now c.place_by_walk.result
    (subst (λ (n : ℕ). c.place_by_walk.result ≡ position (λ (x : Entry). x.id == n) c.args.come.now) number c.place_by_walk.ensures)
