use Rattle.fk_words.proofs.Asked.{daemon-command, same-command}
use Rattle.fk_words.proofs.laws.daemon_words_ask_for_one_command.Goals as goal

pub returns-clause-own : goal.returns-clause-own
returns-clause-own c = daemon-command

pub returns-clause-one : goal.returns-clause-one
returns-clause-one c = same-command
