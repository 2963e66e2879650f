use Rattle.std.proofs.Common.{◌∙◌}
use Rattle.fk_cycle.proofs.ActLemmas.{act_by-at, Stands-acted}
use Rattle.fk_cycle.proofs.machine.Machine.ended.Goals as goal

pub returns-clause-tells : goal.returns-clause-tells
returns-clause-tells c =
    λ past ends live stands number runs.
    c.act-act.ensures ∙ act_by-at c.args.self.now.kept past ends live stands number c.args.purpose c.args.good runs

pub returns-clause-stands : goal.returns-clause-stands
returns-clause-stands c =
    λ past ends live stands number runs moments faults.
    let is_act = c.act-act.ensures ∙ act_by-at c.args.self.now.kept past ends live stands number c.args.purpose c.args.good runs in
    rw (c.forget_settled.ensures.kept, c.note_ended.ensures.kept, is_act)
    (Stands-acted c.args.self.now.kept past ends live stands number c.args.purpose c.args.good c.args.moment runs moments faults)
