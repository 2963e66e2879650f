use Rattle.std.proofs.Common.{Some, sym, ◌∙◌}
use Rattle.fk_words.proofs.WordSteps.{command_is}
use Rattle.fk_words.proofs.operand_walk.read_fko.Goals as goal

pub returns-in-Some : goal.returns-in-Some
returns-in-Some c =
    c.read_operands.ensures
    ∙ sym (command_is c.args.words.now c.get.result.now (Some c.in-Some.command) c.get.ensures (sym c.of_command.ensures ∙ c.in-Some.is))
