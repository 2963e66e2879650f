use Rattle.fk_words.proofs.WordsAsk.{of-program}
use Rattle.fk_words.proofs.laws.words_ask_for_their_program.Goals as goal

pub returns : goal.returns
returns c = of-program
