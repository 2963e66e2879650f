use Rattle.std.proofs.Common.{sym, ◌∙◌}
use Rattle.fk_values.proofs.NameRules.{rule_of-found}
use Rattle.fk_conf.specs.Conf.{conf_names, conf_rule, conf_rules}
use Rattle.fk_conf.proofs.conf_settings.add_line.Goals as goal

pub returns-in-Some : goal.returns-in-Some
returns-in-Some c =
    c.add.ensures conf_rules (conf_rule c.in-Some.name) (rule_of-found conf_rule conf_names c.args.line.name.now c.in-Some.name (sym c.in-Some.is ∙ c.of.ensures))
    (sym c.number.ensures.number) (sym c.is_value.ensures)
