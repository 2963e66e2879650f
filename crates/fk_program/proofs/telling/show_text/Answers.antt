use Rattle.std.specs.Prelude.{is_err}
use Rattle.fk_log.specs.Printing.{sink_by}
use Rattle.fk_program.proofs.Saying.{wrote}
use Rattle.fk_program.proofs.telling.show_text.Goals as goal

pub returns : goal.returns
returns g c =
    let at = sink_by g.K.Sink in record {
      is_broken = is_err c.write_all.result;
      printed = wrote c.args.text.now c.write_all.result (at c.args.out.now) (at c.write_all.new.out) c.write_all.ensures.given c.write_all.ensures.part c.write_all.ensures.cause;
      answered = c.printed_status.ensures;
    }
