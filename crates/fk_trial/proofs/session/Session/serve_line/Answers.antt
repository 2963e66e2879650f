use Rattle.fk_log.specs.Printing.{sink_by}
use Rattle.fk_trial.specs.Streams.{source_by}
use Rattle.fk_trial.proofs.Going.{may-serve}
use Rattle.fk_trial.proofs.Lines.{line-goes, line-progress}
use Rattle.fk_trial.proofs.Stopping.{stopped-end, stopped-long_line, stopped-limit, stopped-failed}
use Rattle.fk_trial.proofs.session.Session.serve_line.Goals as goal

pub serve_turn-requires : goal.serve_turn-requires
serve_turn-requires g c = may-serve c.args.policy.now c.requires.1 c.requires.0 _ c.next.new.self _ c.requires.2

pub returns-in-Line-clause-goes : goal.returns-in-Line-clause-goes
returns-in-Line-clause-goes g c = λ start turns going.
    let source = source_by g.I.Source in
    let sink = sink_by g.K.Sink in
    line-goes c.args.policy.now turns start c.args.self.now c.serve_turn.new.self (source c.args.input.now) (source c.next.new.input) (sink c.args.out.now) (sink c.serve_turn.new.out) c.next.new.self
    going c.next.ensures.bound c.in-Line.ensures.says c.in-Line.ensures.cause c.serve_turn.result (c.serve_turn.ensures _ going.served.rests)

pub returns-in-Line-clause-progress : goal.returns-in-Line-clause-progress
returns-in-Line-clause-progress g c =
    let sink = sink_by g.K.Sink in
    line-progress c.args.policy.now _ c.serve_turn.result c.args.self.now c.serve_turn.new.self c.next.new.self (sink c.args.out.now) (sink c.serve_turn.new.out) _ _
    c.in-Line.ensures.says (c.serve_turn.ensures _ c.requires.2.served.rests)

pub returns-in-End-clause-goes : goal.returns-in-End-clause-goes
returns-in-End-clause-goes g c = λ start turns going.
    let source = source_by g.I.Source in
    let sink = sink_by g.K.Sink in
    stopped-end c.args.policy.now turns start c.args.self.now (source c.args.input.now) (source c.next.new.input) (sink c.args.out.now) c.next.new.self going c.next.ensures.bound
    c.in-End.ensures.says c.in-End.ensures.cause

pub returns-in-LongLine-clause-goes : goal.returns-in-LongLine-clause-goes
returns-in-LongLine-clause-goes g c = λ start turns going.
    let source = source_by g.I.Source in
    let sink = sink_by g.K.Sink in
    stopped-long_line c.args.policy.now turns start c.args.self.now (source c.args.input.now) (source c.next.new.input) (sink c.args.out.now) c.next.new.self going c.next.ensures.bound
    c.in-LongLine.ensures.says c.in-LongLine.ensures.cause

pub returns-in-LongInput-clause-goes : goal.returns-in-LongInput-clause-goes
returns-in-LongInput-clause-goes g c = λ start turns going.
    let source = source_by g.I.Source in
    let sink = sink_by g.K.Sink in
    stopped-limit c.args.policy.now turns start c.args.self.now (source c.args.input.now) (source c.next.new.input) (sink c.args.out.now) c.next.new.self going c.next.ensures.bound
    c.in-LongInput.ensures.says c.in-LongInput.ensures.cause

pub returns-in-Failed-clause-goes : goal.returns-in-Failed-clause-goes
returns-in-Failed-clause-goes g c = λ start turns going.
    let source = source_by g.I.Source in
    let sink = sink_by g.K.Sink in
    stopped-failed c.args.policy.now turns start c.args.self.now (source c.args.input.now) (source c.next.new.input) (sink c.args.out.now) c.next.new.self going c.next.ensures.bound
    c.in-Failed.ensures.says c.in-Failed.ensures.cause
