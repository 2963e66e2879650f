use Rattle.fk_ledger.proofs.index.insert.Goals as goal
use Rattle.std.proofs.Common.{rules}

pub returns-clause-held : goal.returns-clause-held
returns-clause-held c = λ other. search rules
