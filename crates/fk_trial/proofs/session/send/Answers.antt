use Rattle.fk_log.specs.Printing.{sink_by}
use Rattle.fk_trial.proofs.Sending.{sent-broken, sent}
use Rattle.fk_trial.proofs.session.send.Goals as goal

pub returns-then-is_broken : goal.returns-then-is_broken
returns-then-is_broken g c =
    let sink = sink_by g.K.Sink in
    sent-broken c.args.text.now c.args.is_broken (sink c.args.out.now) c.if-is_broken.true

pub returns : goal.returns
returns g c =
    let sink = sink_by g.K.Sink in
    sent c.args.text.now c.args.is_broken c.is_err.result (sink c.args.out.now) (sink c.write_all.new.out) c.write_all.result c.if-is_broken.false
    c.write_all.ensures.given c.write_all.ensures.part c.write_all.ensures.cause c.is_err.ensures.value
