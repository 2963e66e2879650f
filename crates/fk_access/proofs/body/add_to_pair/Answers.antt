use Rattle.std.proofs.Common.{◌≡◌, ◌<◌, Some, length, refl, sym, ap, ◌∙◌, arith}
use Rattle.std.proofs.lemmas.Bool.{eq-eqb, ne_eqb}
use Rattle.fk_values.specs.Given.{said_by}
use Rattle.fk_access.specs.AccessTable.{access_rule, access_rules}
use Rattle.fk_access.proofs.PairSteps.{pair_added, pair_answered, pair_is_full, pair_refused}
use Rattle.fk_access.proofs.body.add_to_pair.Goals as goal

pub returns-then-count-eq-RING_LIMIT : goal.returns-then-count-eq-RING_LIMIT
returns-then-count-eq-RING_LIMIT c = λ before kept.
    let full : length c.args.body.now.ended ≡ 4 = omega arith in
    pair_is_full before (said_by c.args.line) c.args.name c.args.body.now c.requires.name c.requires.pair kept full

pub returns-in-Err : goal.returns-in-Err
returns-in-Err c = λ before kept.
    let bound = c.count.ensures.bound in
    let room : length c.args.body.now.ended < 4 = omega arith in
    let refused = c.in-Err.ensures access_rules (access_rule c.args.name) c.requires.name (sym c.number.ensures.number) (sym c.is_value.ensures) in
    pair_refused before (said_by c.args.line) c.args.name c.args.body.now c.in-Err.fault c.requires.name c.requires.pair room kept refused.0
    ∙ ap Some (sym c.access_what.ensures)

pub returns-then-number : goal.returns-then-number
returns-then-number c = λ before kept.
    let bound = c.count.ensures.bound in
    let room : length c.args.body.now.ended < 4 = omega arith in
    let ends : (access_rule c.args.name).sets ≡ 13 = omega arith in
    let adds = c.in_default.ensures access_rules (access_rule c.args.name) c.requires.name (sym c.number.ensures.number) (sym c.is_value.ensures) in
    pair_answered before (said_by c.args.line) c.args.name c.args.body.now _ c.end_pair.new.body c.end_pair.result c.requires.name c.requires.pair room
    (eq-eqb (access_rule c.args.name).sets 13 ends) refl refl adds c.end_pair.ensures.ends kept

pub returns-else-number : goal.returns-else-number
returns-else-number c = λ before kept.
    let bound = c.count.ensures.bound in
    let room : length c.args.body.now.ended < 4 = omega arith in
    let adds = c.in_default.ensures access_rules (access_rule c.args.name) c.requires.name (sym c.number.ensures.number) (sym c.is_value.ensures) in
    pair_added before (said_by c.args.line) c.args.name c.args.body.now _ c.requires.name c.requires.pair room
    (ne_eqb (access_rule c.args.name).sets 13 (λ ends. absurd (omega arith))) refl refl adds kept
