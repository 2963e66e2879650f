use Rattle.std.proofs.Common.{Some, refl, sym, ap, ◌∙◌}
use Rattle.fk_values.specs.Given.{said_by}
use Rattle.fk_access.specs.AccessTable.{access_rule, access_rules}
use Rattle.fk_access.proofs.PairSteps.{rest_added, rest_refused}
use Rattle.fk_access.proofs.body.add_to_rest.Goals as goal

pub returns-in-Ok : goal.returns-in-Ok
returns-in-Ok c = λ before kept.
    let adds = c.in-Ok.ensures access_rules (access_rule c.args.name) c.requires.name (sym c.number.ensures.number) (sym c.is_value.ensures) in
    rest_added before (said_by c.args.line) c.args.name c.args.body.now _ c.requires.name c.requires.other refl refl adds kept

pub returns-in-Err : goal.returns-in-Err
returns-in-Err c = λ before kept.
    let refused = c.in-Err.ensures access_rules (access_rule c.args.name) c.requires.name (sym c.number.ensures.number) (sym c.is_value.ensures) in
    rest_refused before (said_by c.args.line) c.args.name c.args.body.now c.in-Err.fault c.requires.name c.requires.other kept refused.0
    ∙ ap Some (sym c.access_what.ensures)
