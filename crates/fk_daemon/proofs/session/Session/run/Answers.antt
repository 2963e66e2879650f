use Rattle.std.proofs.Common.{[], true, false, sym, ◌∙◌}
use Rattle.fk_log.specs.Printing.{sink_by}
use Rattle.fk_daemon.specs.Outside.{feed_by}
use Rattle.fk_daemon.specs.Sessions.{standing_by}
use Rattle.fk_daemon.proofs.Going.{going-first, limit-reached, limit-ahead}
use Rattle.fk_daemon.proofs.Stopping.{finish-limit}
use Rattle.fk_daemon.proofs.Looping.{over-behind, may-serve, round-stops, round-goes_on, finish-unopened}
use Rattle.fk_daemon.proofs.session.Session.run.Goals as goal

pub returns-in-Err : goal.returns-in-Err
returns-in-Err g c = λ ledger begins.
    let at = standing_by g.E.Feed g.H.Disk g.K.Sink in
    let feed = feed_by g.E.Feed in
    finish-unopened c.args.task.now ledger (at c.args.self.now c.args.feed.now c.args.host.now c.args.out.now) (feed c.open.new.self) c.requires.limits begins
    c.in-Err.ensures.kept c.in-Err.ensures.cause (c.no_lines_log_nothing.ensures _)

pub loop-buffer-init : goal.loop-buffer-init
loop-buffer-init g c = λ ledger begins.
    let at = standing_by g.E.Feed g.H.Disk g.K.Sink in
    let feed = feed_by g.E.Feed in
    let sink = sink_by g.K.Sink in (
      [],
      going-first c.args.task.now ledger (at c.args.self.now c.args.feed.now c.args.host.now c.args.out.now) c.add.new.self (feed c.open.new.self) (sink c.add.new.out) c.live-live.result begins
          c.in_default.ensures.ok c.live-live.ensures c.add.ensures,
      c.in_default.ensures.cause,
    )

pub serve_next-requires : goal.serve_next-requires
serve_next-requires g c =
    let at = standing_by g.E.Feed g.H.Disk g.K.Sink in
    let going = c.loop-buffer.invariant c.requires.begins.0 c.requires.begins.1 in
    may-serve c.args.task.now c.requires.begins.0 going.0 (at c.args.self.now c.args.feed.now c.args.host.now c.args.out.now) (at c.loop-buffer.self c.loop-buffer.feed c.loop-buffer.host c.loop-buffer.out)
    c.requires.limits going.1 (sym c.is_over.ensures ∙ c.loop-buffer-test.true)

pub returns-in-Some : goal.returns-in-Some
returns-in-Some g c = λ ledger begins.
    let at = standing_by g.E.Feed g.H.Disk g.K.Sink in
    let going = c.loop-buffer.invariant ledger begins in
    round-stops c.args.task.now ledger going.0 (at c.args.self.now c.args.feed.now c.args.host.now c.args.out.now) (at c.loop-buffer.self c.loop-buffer.feed c.loop-buffer.host c.loop-buffer.out)
    (at c.serve_next.new.self c.serve_next.new.feed c.serve_next.new.host c.serve_next.new.out) c.in-Some.stop going.1 going.2
    (limit-ahead c.args.task.now.limits going.0 (over-behind c.args.task.now ledger going.0 (at c.args.self.now c.args.feed.now c.args.host.now c.args.out.now) (at c.loop-buffer.self c.loop-buffer.feed c.loop-buffer.host c.loop-buffer.out) false going.1 (sym c.is_over.ensures ∙ c.loop-buffer-test.true)))
    (c.in-Some.ensures _ going.1.rests)

pub loop-buffer-preserved : goal.loop-buffer-preserved
loop-buffer-preserved g c = λ ledger begins.
    let at = standing_by g.E.Feed g.H.Disk g.K.Sink in
    let going = c.loop-buffer.invariant ledger begins in
    round-goes_on c.args.task.now ledger going.0 (at c.args.self.now c.args.feed.now c.args.host.now c.args.out.now) (at c.loop-buffer.self c.loop-buffer.feed c.loop-buffer.host c.loop-buffer.out)
    (at c.serve_next.new.self c.serve_next.new.feed c.serve_next.new.host c.serve_next.new.out) going.1 going.2
    (limit-ahead c.args.task.now.limits going.0 (over-behind c.args.task.now ledger going.0 (at c.args.self.now c.args.feed.now c.args.host.now c.args.out.now) (at c.loop-buffer.self c.loop-buffer.feed c.loop-buffer.host c.loop-buffer.out) false going.1 (sym c.is_over.ensures ∙ c.loop-buffer-test.true)))
    (c.in_default-serve_next.ensures _ going.1.rests)

pub returns : goal.returns
returns g c = λ ledger begins.
    let at = standing_by g.E.Feed g.H.Disk g.K.Sink in
    let going = c.loop-buffer.invariant ledger begins in
    finish-limit c.args.task.now ledger going.0 (at c.args.self.now c.args.feed.now c.args.host.now c.args.out.now) (at c.loop-buffer.self c.loop-buffer.feed c.loop-buffer.host c.loop-buffer.out) going.1 going.2
    (limit-reached c.args.task.now.limits going.0 (over-behind c.args.task.now ledger going.0 (at c.args.self.now c.args.feed.now c.args.host.now c.args.out.now) (at c.loop-buffer.self c.loop-buffer.feed c.loop-buffer.host c.loop-buffer.out) true going.1 (sym c.is_over.ensures ∙ c.loop-buffer-test.false)))
