use Rattle.std.proofs.Common.{◌≡◌, ◌∷◌, ap, sym, ◌∙◌}
use Rattle.fk_subst.specs.CommandFault.{begins_unknown}
use Rattle.fk_subst.proofs.Known.{begins_unknown-run}
use Rattle.fk_subst.proofs.Templates.{none_from_some}
use Rattle.fk_subst.proofs.scan.begins_unknown.Goals as goal

pub returns-in-Some-eq36-default : goal.returns-in-Some-eq36-default
returns-in-Some-eq36-default c =
    let first = c.in-Some-eq36-default in
    let dollar = first.field-0-0-test in
    let cut : c.args.text.now ≡ 36 ∷ first.more.now = first.ensures.cases.0 ∙ ap (λ b. b ∷ first.more.now) dollar in
    let unknown = begins_unknown-run first.more.now c.name_front.result.0.now c.name_front.result.1.now c.name_front.ensures in
    let none = none_from_some c.var_named.result c.is_none.result c.is_none.ensures in
    let named = c.var_named.ensures in
    rw cut cc
