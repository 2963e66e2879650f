use Rattle.fk_text.proofs.BytesFound.{bytes_in_iff}
use Rattle.fk_text.proofs.text.texts_are_found.Goals as goal

pub returns : goal.returns
returns c = bytes_in_iff
