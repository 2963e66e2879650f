use Rattle.fk_journal.proofs.Uniqueness.{same_held}
use Rattle.fk_journal.proofs.laws.same_entries_are_held.Goals as goal

pub returns : goal.returns
returns c = same_held
