use Rattle.std.proofs.Common.{refl, sym, ap, ◌∙◌}
use Rattle.fk_values.proofs.NameRules.{rule_of-found, rule_of-missing}
use Rattle.fk_values.specs.Given.{given_at}
use Rattle.fk_values.specs.Settings.{NameRule, rule_fault}
use Rattle.std.proofs.Common.{Option}
use Rattle.fk_conf.specs.RcTable.{rc_names, rc_rule, rc_rules}
use Rattle.fk_conf.proofs.rc_body.add_line.Goals as goal

pub returns-in-Some : goal.returns-in-Some
returns-in-Some c =
    c.add.ensures rc_rules (rc_rule c.in-Some.name)
    (rule_of-found rc_rule rc_names c.args.line.name.now c.in-Some.name (sym c.in-Some.is ∙ c.of.ensures))
    (sym c.number.ensures.number) (sym c.is_value.ensures)

pub returns-in-None : goal.returns-in-None
returns-in-None c = (
  ap (λ (rule : Option NameRule). rule_fault (given_at c.args.given.now) c.args.line.value.now rule)
      (rule_of-missing rc_rule rc_names c.args.line.name.now (sym c.in-None.is ∙ c.of.ensures)),
  refl,
)
