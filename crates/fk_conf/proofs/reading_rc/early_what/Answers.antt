use Rattle.std.proofs.Common.{Option, sym, ap, ◌∙◌, if◌then◌else◌}
use Rattle.std.specs.Prelude.{is_none}
use Rattle.fk_values.proofs.NameRules.{rule_of-found, rule_of-missing}
use Rattle.fk_values.specs.Settings.{NameRule}
use Rattle.fk_conf.specs.declared.conf_err.ConfWhat.TheVariants.{NoStanza, UnknownName}
use Rattle.fk_conf.specs.RcTable.{rc_names, rc_rule}
use Rattle.fk_conf.proofs.reading_rc.early_what.Goals as goal

pub returns-in-Some : goal.returns-in-Some
returns-in-Some c =
    sym (ap (λ (rule : Option NameRule). if is_none rule then UnknownName else NoStanza)
    (rule_of-found rc_rule rc_names c.args.name.now c.in-Some.field-0 (sym c.in-Some.is ∙ c.of.ensures)))

pub returns-in-None : goal.returns-in-None
returns-in-None c =
    sym (ap (λ (rule : Option NameRule). if is_none rule then UnknownName else NoStanza)
    (rule_of-missing rc_rule rc_names c.args.name.now (sym c.in-None.is ∙ c.of.ensures)))
