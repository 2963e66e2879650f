use Rattle.std.proofs.Common.{sym, ◌∙◌, refl}
use Rattle.fk_trial.proofs.Lines.{lacks-none}
use Rattle.fk_trial.proofs.session.Session.print.Goals as goal

pub returns : goal.returns
returns g c = (
  lacks-none c.args.self.now.is_broken c.args.self.now.log.is_broken (sym c.if-lacks_lines.false ∙ c.lacks_lines.ensures),
  refl,
  c.send-self.ensures _ _,
)
