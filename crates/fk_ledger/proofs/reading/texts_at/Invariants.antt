use Rattle.std.proofs.Common.{◌≡◌, ◌-◌}
use Rattle.fk_ledger.specs.Reading.{texts_at}
use Rattle.fk_ledger.proofs.Texts.{with_front}
use Rattle.fk_ledger.proofs.reading.texts_at.Given as goal

abbrev pub invariant-loop : goal.invariant-loop
invariant-loop l = with_front l.words (texts_at (l.count - l.counter) l.rest) ≡ texts_at l.count l.bytes
