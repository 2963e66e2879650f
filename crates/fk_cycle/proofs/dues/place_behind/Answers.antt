use Rattle.std.proofs.Common.{◌∙◌, length, refl}
use Rattle.fk_timer.specs.Schedule.{precedes}
use Rattle.fk_cycle.proofs.DuesLemmas.{place-unwrapped}
use Rattle.fk_cycle.proofs.dues.place_behind.Goals as goal

pub returns : goal.returns
returns c =
    c.unwrap_or.ensures
    ∙ place-unwrapped (λ other. precedes c.args.due other) c.args.come.now c.first_behind.result (length c.args.come.now) c.first_behind.ensures refl
