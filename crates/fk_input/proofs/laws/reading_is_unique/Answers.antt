use Rattle.std.proofs.Common.{IsTrue}
use Rattle.fk_input.proofs.Readings.{Reads-one}
use Rattle.fk_input.proofs.laws.reading_is_unique.Goals as goal

pub returns : goal.returns
returns g c =
    λ is_line one text values others fault other left right. Reads-one (λ line value. IsTrue (is_line line value)) one left right
