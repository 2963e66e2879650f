use Rattle.std.proofs.Common.{◌+◌, ◌-◌}
use Rattle.fk_input.specs.Lines.{input_limit}
use Rattle.fk_tool.specs.Sessions.{Going, standing_by}
use Rattle.fk_tool.specs.Streams.{Streams, streams_by}
use Rattle.fk_tool.proofs.session.Session.answer_lines.Given as goal

abbrev pub invariant-loop-stop : goal.invariant-loop-stop
invariant-loop-stop g l =
    let at = streams_by g.N.Entropy g.I.Source g.K.Sink in
    (start : Streams) → Going l.job start (standing_by l.fn.self (at l.fn.entropy l.fn.input l.fn.out)) → Going l.job start (standing_by l.self (at l.entropy l.input l.out))

abbrev pub decreases-loop-stop : goal.decreases-loop-stop
decreases-loop-stop g l = input_limit + 1 - l.self.reader.offset
