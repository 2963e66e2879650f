use Rattle.fk_log.specs.Printing.{sink_by}
use Rattle.fk_trial.proofs.Ending.{ended}
use Rattle.fk_trial.proofs.session.Session.end.Goals as goal

pub returns : goal.returns
returns g c =
    let sink = sink_by g.K.Sink in
    ended c.args.stop c.args.self c.say_last.new.self c.status_of.result (sink c.args.out.now) (sink c.say_last.new.out) c.say_last.ensures.says (c.status_of.ensures _)
