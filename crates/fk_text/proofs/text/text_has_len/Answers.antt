use Rattle.fk_text.proofs.Symbols.{length-text_of}
use Rattle.fk_text.proofs.text.text_has_len.Goals as goal

pub returns : goal.returns
returns c = length-text_of
