use Rattle.std.proofs.Common.{ap, ◌∙◌}
use Rattle.fk_trace.specs.Ledger.{is_seen}
use Rattle.fk_ledger.specs.Book.{Book}
use Rattle.fk_ledger.proofs.ledger.Ledger.seen.Goals as goal

pub returns : goal.returns
returns c = c.holds.ensures ∙ c.self.invariant.index c.args.digest.now.0 ∙ ap (λ (b : Book). is_seen c.args.digest.now.0 b.changes) c.self.view_is
