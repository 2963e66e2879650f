use Rattle.fk_words.proofs.Asked.{same-tool_command}
use Rattle.fk_words.proofs.laws.tool_words_ask_for_one_command.Goals as goal

pub returns : goal.returns
returns c = same-tool_command
