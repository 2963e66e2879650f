use Rattle.std.proofs.Common.{Option, length, sym, ap, ◌∙◌}
use Rattle.std.specs.Prelude.{is_some}
use Rattle.fk_lines.specs.Lines.{Setting}
use Rattle.fk_values.specs.Given.{given_at}
use Rattle.fk_values.specs.Settings.{read_of}
use Rattle.fk_values.specs.Values.{number_within}
use Rattle.fk_base.specs.declared.moment.TheConstants.{LONGEST_TIME}
use Rattle.fk_subst.specs.CommandFault.{is_template}
use Rattle.fk_access.specs.Private.{given_in_body}
use Rattle.fk_access.specs.StanzaKeys.{has_value}
use Rattle.fk_access.proofs.StanzaSteps.{closing_template, complete_from_none}
use Rattle.fk_access.proofs.stanza_of.stanza_of.Goals as goal

pub command_of-requires-clause-command : goal.command_of-requires-clause-command
command_of-requires-clause-command c =
    let complete = complete_from_none (length c.args.body.now.ended) (given_in_body c.args.body.now) (sym c.lacks_first.ensures ∙ c.in_default.is) in
    ap (λ (given : Option Setting). has_value is_template given) (sym c.line_in-6.ensures.line) ∙ complete.opening

pub command_of-requires-2-clause-command : goal.command_of-requires-2-clause-command
command_of-requires-2-clause-command c =
    let complete = complete_from_none (length c.args.body.now.ended) (given_in_body c.args.body.now) (sym c.lacks_first.ensures ∙ c.in_default.is) in
    ap (λ (given : Option Setting). has_value is_template given) (sym c.line_in-7.ensures.line)
    ∙ closing_template (given_at c.args.body.now.rest 10) complete.closing

pub timer_of-requires : goal.timer_of-requires
timer_of-requires c =
    let complete = complete_from_none (length c.args.body.now.ended) (given_in_body c.args.body.now) (sym c.lacks_first.ensures ∙ c.in_default.is) in
    ap (λ (given : Option Setting). is_some (read_of (number_within 1 LONGEST_TIME) given)) (sym c.line_in-8.ensures.line) ∙ complete.timer
