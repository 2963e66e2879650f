use Rattle.std.proofs.Common.{Option, Some, sym, ap, ◌∙◌}
use Rattle.std.specs.Option.{option_map_or}
use Rattle.fk_base.specs.FirstFailed.{first_failed}
use Rattle.fk_values.proofs.NameRules.{rule_of-found, rule_of-missing}
use Rattle.fk_values.specs.Given.{said_by}
use Rattle.fk_values.specs.Settings.{NameRule}
use Rattle.fk_access.specs.declared.access_err.AccessWhat.TheVariants.{UnknownName}
use Rattle.fk_access.specs.AccessFault.{rule_tests}
use Rattle.fk_access.specs.AccessTable.{access_names, access_rule}
use Rattle.fk_access.proofs.body.add_line.Goals as goal

pub add_to_pair-requires-clause-name : goal.add_to_pair-requires-clause-name
add_to_pair-requires-clause-name c = rule_of-found access_rule access_names c.args.line.name.now c.in-Some.name (sym c.in-Some.is ∙ c.of.ensures)

pub add_to_rest-requires-clause-name : goal.add_to_rest-requires-clause-name
add_to_rest-requires-clause-name c = rule_of-found access_rule access_names c.args.line.name.now c.in-Some.name (sym c.in-Some.is ∙ c.of.ensures)

pub returns-in-None : goal.returns-in-None
returns-in-None c = λ before kept.
    ap (λ (r : Option NameRule). option_map_or (λ rule. first_failed (rule_tests before (said_by c.args.line).value rule)) r (Some UnknownName))
    (rule_of-missing access_rule access_names c.args.line.name.now (sym c.in-None.is ∙ c.of.ensures))
