use Rattle.fk_words.proofs.WordsAsk.{ask-alike}
use Rattle.fk_words.proofs.laws.client_words_ask_for_one_packet.Goals as goal

pub returns : goal.returns
returns c = ask-alike
