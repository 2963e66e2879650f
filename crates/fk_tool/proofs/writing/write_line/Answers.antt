use Rattle.fk_log.specs.Printing.{sink_by}
use Rattle.fk_program.proofs.Saying.{wrote}
use Rattle.fk_tool.proofs.writing.write_line.Goals as goal

pub returns : goal.returns
returns g c =
    let at = sink_by g.K.Sink in
    let e = c.write_all.ensures in
    wrote c.args.line.now c.write_all.result (at c.args.out.now) (at c.write_all.new.out) e.given e.part e.cause
