use Rattle.std.proofs.Common.{List, ℕ, take, subst}
use Rattle.fk_log.proofs.Drafts.{GivesPart-cut, at_err}
use Rattle.fk_log.specs.Writing.{GivesPart}
use Rattle.fk_log.proofs.draft.Draft.finish.Goals as goal

pub returns-in_err-write_all-clause-part : goal.returns-in_err-write_all-clause-part
returns-in_err-write_all-clause-part g c =
    let part = c.in_err-write_all.ensures.part in
    let before = g.K.Sink.written c.args.out.now in
    let after = g.K.Sink.written c.write_all.new.out in
    let cut : GivesPart (take c.self.inside.used c.self.inside.bytes) before after =
    GivesPart-cut (take c.self.inside.used c.self.inside.bytes) part.0 before after part.1 part.2 in
    at_err (GivesPart c.args.self.now before after) c.from_residual.result (subst (λ (t : List ℕ). GivesPart t before after) c.self.view_is cut)
