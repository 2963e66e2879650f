use Rattle.std.proofs.Common.{inl, inr}
use Rattle.fk_child.specs.View.{view_of}
use Rattle.fk_log.specs.Printing.{sink_by}
use Rattle.fk_daemon.specs.Outside.{outside_by}
use Rattle.fk_daemon.specs.Serving.{Serves}
use Rattle.fk_run.proofs.Runs.{settled-run}
use Rattle.fk_daemon.proofs.Ending.{begun, serves_begun, unopened}
use Rattle.fk_daemon.proofs.Causing.{serving-counts}
use Rattle.fk_daemon.proofs.serving.serve.Goals as goal

pub run-stop-requires-clause-begins : goal.run-stop-requires-clause-begins
run-stop-requires-clause-begins g c =
    let at = outside_by g.E.Feed g.H.Disk g.K.Sink in
    let view = view_of g.H.Disk in
    (c.in-Ok.daemon.book.changes, begun c.args.task.now (at c.args.feed.now c.args.host.now c.args.out.now) (view c.open_daemon.new.host) c.in-Ok.daemon c.new-session.result c.in-Ok.ensures.ok c.new-session.ensures)

pub end-requires : goal.end-requires
end-requires g c =
    let at = outside_by g.E.Feed g.H.Disk g.K.Sink in
    let view = view_of g.H.Disk in
    (c.run-stop.ensures c.in-Ok.daemon.book.changes
    (begun c.args.task.now (at c.args.feed.now c.args.host.now c.args.out.now) (view c.open_daemon.new.host) c.in-Ok.daemon c.new-session.result c.in-Ok.ensures.ok c.new-session.ensures)).parks

pub returns-in-Ok : goal.returns-in-Ok
returns-in-Ok g c =
    let at = outside_by g.E.Feed g.H.Disk g.K.Sink in
    let view = view_of g.H.Disk in
    let sink = sink_by g.K.Sink in
    let serves : Serves c.args.task.now (at c.args.feed.now c.args.host.now c.args.out.now) (at c.run-stop.new.feed c.run-stop.new.host c.end.new.out) c.end.result =
    inl (serves_begun c.args.task.now (at c.args.feed.now c.args.host.now c.args.out.now) (view c.open_daemon.new.host) c.in-Ok.daemon c.run-stop.result
    c.new-session.result c.run-stop.new.self (at c.run-stop.new.feed c.run-stop.new.host c.run-stop.new.out) (sink c.end.new.out) c.end.result c.in-Ok.ensures.ok c.new-session.ensures
    (c.run-stop.ensures c.in-Ok.daemon.book.changes
    (begun c.args.task.now (at c.args.feed.now c.args.host.now c.args.out.now) (view c.open_daemon.new.host) c.in-Ok.daemon c.new-session.result c.in-Ok.ensures.ok c.new-session.ensures))
    c.end.ensures settled-run c.legal_runs_keep_the_headline.ensures.once) in
    let counts = serving-counts c.args.task.now (at c.args.feed.now c.args.host.now c.args.out.now) (at c.run-stop.new.feed c.run-stop.new.host c.end.new.out) c.end.result serves in
    record { serves = serves; feed = counts.feed; disk = counts.disk; sink = counts.sink }

pub returns-in-Err : goal.returns-in-Err
returns-in-Err g c =
    let at = outside_by g.E.Feed g.H.Disk g.K.Sink in
    let view = view_of g.H.Disk in
    let sink = sink_by g.K.Sink in
    let serves : Serves c.args.task.now (at c.args.feed.now c.args.host.now c.args.out.now) (at c.args.feed.now c.open_daemon.new.host c.say_fault.new.out) c.say_fault.result =
    inr (unopened c.args.task.now.verbosity (at c.args.feed.now c.args.host.now c.args.out.now) (view c.open_daemon.new.host) c.in-Err.fault (sink c.say_fault.new.out) c.say_fault.result
    c.in-Err.ensures.vain c.in-Err.ensures.cause c.say_fault.ensures) in
    let counts = serving-counts c.args.task.now (at c.args.feed.now c.args.host.now c.args.out.now) (at c.args.feed.now c.open_daemon.new.host c.say_fault.new.out) c.say_fault.result serves in
    record { serves = serves; feed = counts.feed; disk = counts.disk; sink = counts.sink }
