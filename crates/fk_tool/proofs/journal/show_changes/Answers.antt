use Rattle.std.proofs.Common.{◌+◌, arith, inl, inr, refl}
use Rattle.fk_log.specs.Printing.{sink_by}
use Rattle.fk_tool.proofs.Printed.{lines-break, lines-next, shown-step}
use Rattle.fk_tool.proofs.journal.show_changes.Goals as goal

pub returns-in-Err-write_line : goal.returns-in-Err-write_line
returns-in-Err-write_line g c =
    let at = sink_by g.K.Sink in
    let place = c.loop-change.change-index in
    inr (inl (
      refl,
      record {
        lines = place + 1;
        within = omega arith;
        printed = lines-break place c.as_slice.result.now (at c.args.out.now) (at c.loop-change.out) (at c.write_line.new.out)
            (shown-step c.args.changes.now place c.change-item.result c.in-Ok.line c.as_slice.result.now c.loop-change-test.true c.change-item.is c.in-Ok.ensures c.as_slice.ensures)
            c.loop-change.invariant c.in-Err-write_line.ensures;
      },
    ))

pub loop-change-preserved : goal.loop-change-preserved
loop-change-preserved g c =
    let at = sink_by g.K.Sink in
    let place = c.loop-change.change-index in
    lines-next place c.as_slice.result.now (at c.args.out.now) (at c.loop-change.out) (at c.write_line.new.out)
    (shown-step c.args.changes.now place c.change-item.result c.in-Ok.line c.as_slice.result.now c.loop-change-test.true c.change-item.is c.in-Ok.ensures c.as_slice.ensures)
    c.loop-change.invariant c.in_default.ensures
