use Rattle.std.proofs.Common.{◌≡◌, ◌∷◌, true, ap, sym, ◌∙◌}
use Rattle.std.specs.Prelude.{is_none}
use Rattle.fk_subst.specs.Template.{var_named}
use Rattle.fk_subst.specs.CommandFault.{begins_unknown}
use Rattle.fk_subst.proofs.Known.{begins_unknown-run}
use Rattle.fk_subst.proofs.word.first_name.Goals as goal

pub returns-in_err-var_named-in-Some-eq36-default : goal.returns-in_err-var_named-in-Some-eq36-default
returns-in_err-var_named-in-Some-eq36-default c =
    let first = c.in-Some-eq36-default in
    let dollar = first.field-0-0-test in
    let cut : c.args.text.now ≡ 36 ∷ first.more.now = first.ensures.cases.0 ∙ ap (λ b. b ∷ first.more.now) dollar in
    let unknown = begins_unknown-run first.more.now c.name_front.result.0.now c.name_front.result.1.now c.name_front.ensures in
    rw c.from_residual.ensures (λ more is.
    rw cut (unknown ∙ ap is_none (sym c.var_named.ensures ∙ c.in_err-var_named-in-Some-eq36-default.was)))
