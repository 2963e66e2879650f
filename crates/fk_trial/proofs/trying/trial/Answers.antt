use Rattle.std.proofs.Common.{[], ◌∷◌, subst}
use Rattle.fk_log.specs.Line.Line.{ReadyLine}
use Rattle.fk_log.specs.Printing.{sink_by}
use Rattle.fk_log.specs.Writing.{LogState, Logs, output}
use Rattle.fk_trial.specs.Sessions.{Standing}
use Rattle.fk_trial.specs.Streams.{source_by, streams_by}
use Rattle.fk_trial.proofs.Ending.{blank, tried, tried-counts, tried-none, may-end}
use Rattle.fk_trial.proofs.Going.{going-first}
use Rattle.fk_trial.proofs.trying.trial.Goals as goal

pub returns-in_default-clause-tries : goal.returns-in_default-clause-tries
returns-in_default-clause-tries g c =
    let source = source_by g.I.Source in
    let sink = sink_by g.K.Sink in
    let ready : Logs (ReadyLine 0 ∷ []) (output (blank c.args.task.now) (g.K.Sink.written c.args.out.now) (g.K.Sink.faults c.args.out.now))
    (output c.add.new.self (g.K.Sink.written c.add.new.out) (g.K.Sink.faults c.add.new.out)) =
    subst (λ (log : LogState). Logs (ReadyLine 0 ∷ []) (output log (g.K.Sink.written c.args.out.now) (g.K.Sink.faults c.args.out.now))
    (output c.add.new.self (g.K.Sink.written c.add.new.out) (g.K.Sink.faults c.add.new.out))) c.new-log.ensures c.add.ensures in
    tried-none c.args.task.now (source c.args.input.now) (sink c.args.out.now) (sink c.add.new.out) c.add.new.self ready

pub serve_lines-stop-requires : goal.serve_lines-stop-requires
serve_lines-stop-requires g c =
    let streams = streams_by g.I.Source g.K.Sink in
    let here : Standing = record { session = c.in-Ok.session; streams = streams c.args.input.now c.add.new.out } in
    (here, [], going-first c.args.task.now.policy c.add.new.self c.in-Ok.session (streams c.args.input.now c.add.new.out) c.in-Ok.ensures c.no_lines_log_nothing.ensures)

pub end-requires : goal.end-requires
end-requires g c =
    let source = source_by g.I.Source in
    let sink = sink_by g.K.Sink in
    let streams = streams_by g.I.Source g.K.Sink in
    let going = going-first c.args.task.now.policy c.add.new.self c.in-Ok.session (streams c.args.input.now c.add.new.out) c.in-Ok.ensures c.no_lines_log_nothing.ensures in
    let stopped = c.serve_lines-stop.ensures (record { session = c.in-Ok.session; streams = streams c.args.input.now c.add.new.out }) [] going in
    may-end c.args.task.now.policy c.serve_lines-stop.result _ c.serve_lines-stop.new.self _ stopped

pub returns-clause-tries : goal.returns-clause-tries
returns-clause-tries g c =
    let source = source_by g.I.Source in
    let sink = sink_by g.K.Sink in
    let ready : Logs (ReadyLine 0 ∷ []) (output (blank c.args.task.now) (g.K.Sink.written c.args.out.now) (g.K.Sink.faults c.args.out.now))
    (output c.add.new.self (g.K.Sink.written c.add.new.out) (g.K.Sink.faults c.add.new.out)) =
    subst (λ (log : LogState). Logs (ReadyLine 0 ∷ []) (output log (g.K.Sink.written c.args.out.now) (g.K.Sink.faults c.args.out.now))
    (output c.add.new.self (g.K.Sink.written c.add.new.out) (g.K.Sink.faults c.add.new.out))) c.new-log.ensures c.add.ensures in
    let streams = streams_by g.I.Source g.K.Sink in
    let going = going-first c.args.task.now.policy c.add.new.self c.in-Ok.session (streams c.args.input.now c.add.new.out) c.in-Ok.ensures c.no_lines_log_nothing.ensures in
    let stopped = c.serve_lines-stop.ensures (record { session = c.in-Ok.session; streams = streams c.args.input.now c.add.new.out }) [] going in
    tried c.args.task.now (source c.args.input.now) (source c.serve_lines-stop.new.input) (sink c.args.out.now) (sink c.add.new.out) (sink c.serve_lines-stop.new.out) (sink c.end.new.out)
    c.add.new.self c.in-Ok.session c.serve_lines-stop.new.self c.serve_lines-stop.result c.end.result ready c.in-Ok.ensures stopped c.end.ensures

pub returns-clause-input : goal.returns-clause-input
returns-clause-input g c =
    let source = source_by g.I.Source in
    let sink = sink_by g.K.Sink in
    let ready : Logs (ReadyLine 0 ∷ []) (output (blank c.args.task.now) (g.K.Sink.written c.args.out.now) (g.K.Sink.faults c.args.out.now))
    (output c.add.new.self (g.K.Sink.written c.add.new.out) (g.K.Sink.faults c.add.new.out)) =
    subst (λ (log : LogState). Logs (ReadyLine 0 ∷ []) (output log (g.K.Sink.written c.args.out.now) (g.K.Sink.faults c.args.out.now))
    (output c.add.new.self (g.K.Sink.written c.add.new.out) (g.K.Sink.faults c.add.new.out))) c.new-log.ensures c.add.ensures in
    let streams = streams_by g.I.Source g.K.Sink in
    let going = going-first c.args.task.now.policy c.add.new.self c.in-Ok.session (streams c.args.input.now c.add.new.out) c.in-Ok.ensures c.no_lines_log_nothing.ensures in
    let stopped = c.serve_lines-stop.ensures (record { session = c.in-Ok.session; streams = streams c.args.input.now c.add.new.out }) [] going in
    (tried-counts c.args.task.now (source c.args.input.now) (source c.serve_lines-stop.new.input) (sink c.args.out.now) (sink c.add.new.out) (sink c.serve_lines-stop.new.out) (sink c.end.new.out)
    c.add.new.self c.in-Ok.session c.serve_lines-stop.new.self c.serve_lines-stop.result c.end.result ready c.in-Ok.ensures stopped c.end.ensures).input

pub returns-clause-sink : goal.returns-clause-sink
returns-clause-sink g c =
    let source = source_by g.I.Source in
    let sink = sink_by g.K.Sink in
    let ready : Logs (ReadyLine 0 ∷ []) (output (blank c.args.task.now) (g.K.Sink.written c.args.out.now) (g.K.Sink.faults c.args.out.now))
    (output c.add.new.self (g.K.Sink.written c.add.new.out) (g.K.Sink.faults c.add.new.out)) =
    subst (λ (log : LogState). Logs (ReadyLine 0 ∷ []) (output log (g.K.Sink.written c.args.out.now) (g.K.Sink.faults c.args.out.now))
    (output c.add.new.self (g.K.Sink.written c.add.new.out) (g.K.Sink.faults c.add.new.out))) c.new-log.ensures c.add.ensures in
    let streams = streams_by g.I.Source g.K.Sink in
    let going = going-first c.args.task.now.policy c.add.new.self c.in-Ok.session (streams c.args.input.now c.add.new.out) c.in-Ok.ensures c.no_lines_log_nothing.ensures in
    let stopped = c.serve_lines-stop.ensures (record { session = c.in-Ok.session; streams = streams c.args.input.now c.add.new.out }) [] going in
    (tried-counts c.args.task.now (source c.args.input.now) (source c.serve_lines-stop.new.input) (sink c.args.out.now) (sink c.add.new.out) (sink c.serve_lines-stop.new.out) (sink c.end.new.out)
    c.add.new.self c.in-Ok.session c.serve_lines-stop.new.self c.serve_lines-stop.result c.end.result ready c.in-Ok.ensures stopped c.end.ensures).sink

pub returns-clause-bound : goal.returns-clause-bound
returns-clause-bound g c =
    let source = source_by g.I.Source in
    let sink = sink_by g.K.Sink in
    let streams = streams_by g.I.Source g.K.Sink in
    let going = going-first c.args.task.now.policy c.add.new.self c.in-Ok.session (streams c.args.input.now c.add.new.out) c.in-Ok.ensures c.no_lines_log_nothing.ensures in
    let stopped = c.serve_lines-stop.ensures (record { session = c.in-Ok.session; streams = streams c.args.input.now c.add.new.out }) [] going in
    stopped.bounded
