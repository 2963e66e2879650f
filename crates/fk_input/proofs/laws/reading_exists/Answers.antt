use Rattle.fk_input.specs.Lines.{pieces}
use Rattle.fk_input.proofs.Readings.{Reads-some}
use Rattle.fk_input.proofs.laws.reading_exists.Goals as goal

pub returns : goal.returns
returns g c = λ value_of text. Reads-some value_of 0 1 (pieces text)
