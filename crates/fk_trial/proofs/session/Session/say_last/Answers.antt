use Rattle.std.proofs.Common.{sym, ◌∙◌}
use Rattle.fk_log.specs.Printing.{sink_by}
use Rattle.fk_trial.proofs.Ending.{said-last, unsaid-last}
use Rattle.fk_trial.proofs.session.Session.say_last.Goals as goal

pub returns-then-not-may_write-clause-says : goal.returns-then-not-may_write-clause-says
returns-then-not-may_write-clause-says g c =
    let sink = sink_by g.K.Sink in
    unsaid-last c.args.stop c.args.self.now (sink c.args.out.now) (sym c.if-not-may_write.true ∙ c.may_write.ensures) c.requires.pages

pub returns-clause-says : goal.returns-clause-says
returns-clause-says g c =
    let sink = sink_by g.K.Sink in
    said-last c.args.stop c.args.self.now c.add_last.new.self (record c.add_last.new.self { is_broken = c.is_broken-self.result }) (sink c.args.out.now) (sink c.add_last.new.out) (sym c.if-not-may_write.false ∙ c.may_write.ensures) c.add_last.ensures.says
    c.is_broken-self.ensures
