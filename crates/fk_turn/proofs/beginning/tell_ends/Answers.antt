use Rattle.fk_log.specs.Writing.{output}
use Rattle.fk_turn.specs.Parts.{end_line}
use Rattle.fk_turn.proofs.Logging.{logs-nothing, told-more}
use Rattle.fk_turn.proofs.beginning.tell_ends.Goals as goal

pub loop-end-init : goal.loop-end-init
loop-end-init g c = logs-nothing (output c.args.log.now (g.K.Sink.written c.args.out.now) (g.K.Sink.faults c.args.out.now))

pub loop-end-preserved : goal.loop-end-preserved
loop-end-preserved g c = told-more (end_line c.args.moment) c.args.ends.now c.loop-end.end-index _ _ _ _ _ c.loop-end-test.true c.item_of_end.ensures c.loop-end.invariant c.add.ensures
