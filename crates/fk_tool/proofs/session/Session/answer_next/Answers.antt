use Rattle.fk_client.specs.Outside.{entropy_by}
use Rattle.fk_log.specs.Printing.{sink_by}
use Rattle.fk_tool.specs.Streams.{source_by}
use Rattle.fk_tool.proofs.Sessions.{line-goes, line-progress, stopped-end, stopped-failed, stopped-limit, stopped-long_line}
use Rattle.fk_tool.proofs.session.Session.answer_next.Goals as goal

pub returns-in-Line-clause-goes : goal.returns-in-Line-clause-goes
returns-in-Line-clause-goes g c = λ start going.
    let entropy = entropy_by g.N.Entropy in
    let source = source_by g.I.Source in
    let sink = sink_by g.K.Sink in
    line-goes c.args.job.now start c.args.self.now (entropy c.args.entropy.now) (source c.args.input.now) (source c.next.new.input) (sink c.args.out.now) c.next.new.self going
    c.next.ensures.bound c.in-Line.ensures.says c.in-Line.ensures.cause c.answer_line.result c.answer_line.new.self (entropy c.answer_line.new.entropy) (sink c.answer_line.new.out) c.answer_line.ensures

pub returns-in-Line-clause-progress : goal.returns-in-Line-clause-progress
returns-in-Line-clause-progress g c =
    let entropy = entropy_by g.N.Entropy in
    let sink = sink_by g.K.Sink in
    line-progress c.args.job.now c.answer_line.result c.args.self.now c.answer_line.new.self c.next.new.self (entropy c.args.entropy.now) (entropy c.answer_line.new.entropy)
    (sink c.args.out.now) (sink c.answer_line.new.out) _ _ c.in-Line.ensures.says c.answer_line.ensures

pub returns-in-End-clause-goes : goal.returns-in-End-clause-goes
returns-in-End-clause-goes g c = λ start going.
    let entropy = entropy_by g.N.Entropy in
    let source = source_by g.I.Source in
    let sink = sink_by g.K.Sink in
    stopped-end c.args.job.now start c.args.self.now (entropy c.args.entropy.now) (source c.args.input.now) (source c.next.new.input) (sink c.args.out.now) c.next.new.self going
    c.in-End.ensures.says c.next.ensures.bound c.in-End.ensures.cause

pub returns-in-LongLine-clause-goes : goal.returns-in-LongLine-clause-goes
returns-in-LongLine-clause-goes g c = λ start going.
    let entropy = entropy_by g.N.Entropy in
    let source = source_by g.I.Source in
    let sink = sink_by g.K.Sink in
    stopped-long_line c.args.job.now start c.args.self.now (entropy c.args.entropy.now) (source c.args.input.now) (source c.next.new.input) (sink c.args.out.now) c.next.new.self going
    c.in-LongLine.ensures.says c.next.ensures.bound c.in-LongLine.ensures.cause

pub returns-in-LongInput-clause-goes : goal.returns-in-LongInput-clause-goes
returns-in-LongInput-clause-goes g c = λ start going.
    let entropy = entropy_by g.N.Entropy in
    let source = source_by g.I.Source in
    let sink = sink_by g.K.Sink in
    stopped-limit c.args.job.now start c.args.self.now (entropy c.args.entropy.now) (source c.args.input.now) (source c.next.new.input) (sink c.args.out.now) c.next.new.self going
    c.in-LongInput.ensures.says c.next.ensures.bound c.in-LongInput.ensures.cause

pub returns-in-Failed-clause-goes : goal.returns-in-Failed-clause-goes
returns-in-Failed-clause-goes g c = λ start going.
    let entropy = entropy_by g.N.Entropy in
    let source = source_by g.I.Source in
    let sink = sink_by g.K.Sink in
    stopped-failed c.args.job.now start c.args.self.now (entropy c.args.entropy.now) (source c.args.input.now) (source c.next.new.input) (sink c.args.out.now) c.next.new.self going
    c.in-Failed.ensures.says c.next.ensures.bound c.in-Failed.ensures.cause
