use Rattle.std.proofs.Common.{Option, sym, ap, ◌∙◌, if◌then◌else◌}
use Rattle.std.specs.Prelude.{is_none}
use Rattle.fk_values.proofs.NameRules.{rule_of-found, rule_of-missing}
use Rattle.fk_values.specs.Settings.{NameRule}
use Rattle.fk_access.specs.declared.access_err.AccessWhat.TheVariants.{NoSource, UnknownName}
use Rattle.fk_access.specs.AccessTable.{access_names, access_rule}
use Rattle.fk_access.proofs.reading.early_what.Goals as goal

pub returns-in-Some : goal.returns-in-Some
returns-in-Some c =
    sym (ap (λ (rule : Option NameRule). if is_none rule then UnknownName else NoSource)
    (rule_of-found access_rule access_names c.args.name.now c.in-Some.field-0 (sym c.in-Some.is ∙ c.of.ensures)))

pub returns-in-None : goal.returns-in-None
returns-in-None c =
    sym (ap (λ (rule : Option NameRule). if is_none rule then UnknownName else NoSource)
    (rule_of-missing access_rule access_names c.args.name.now (sym c.in-None.is ∙ c.of.ensures)))
