use Rattle.std.proofs.Common.{sym, ◌∙◌}
use Rattle.fk_words.proofs.WordErrs.{is_word_err}
use Rattle.fk_words.proofs.reading.read_words.Goals as goal

pub returns-in-Err-clause-command : goal.returns-in-Err-clause-command
returns-in-Err-clause-command c = is_word_err c.args.tool c.args.words.now c.in-Err.fault (sym c.read_set.ensures ∙ c.in-Err.is)
