use Rattle.fk_tool.specs.Sessions.{Standing, standing_by}
use Rattle.fk_tool.specs.Streams.{Streams, streams_by}
use Rattle.fk_tool.proofs.Sessions.{going-new, input-answered}
use Rattle.fk_tool.proofs.input.answer_input.Goals as goal

pub answer_lines-stop-requires : goal.answer_lines-stop-requires
answer_lines-stop-requires g c =
    let start : Streams = streams_by g.N.Entropy g.I.Source g.K.Sink c.args.entropy.now c.args.input.now c.args.out.now in
    (start, going-new c.args.job.now start c.new-session.result c.new-session.ensures)

pub end-requires : goal.end-requires
end-requires g c =
    let start : Streams = streams_by g.N.Entropy g.I.Source g.K.Sink c.args.entropy.now c.args.input.now c.args.out.now in
    (c.answer_lines-stop.ensures start (going-new c.args.job.now start c.new-session.result c.new-session.ensures)).few

pub returns : goal.returns
returns g c =
    let at = streams_by g.N.Entropy g.I.Source g.K.Sink in
    let start : Streams = at c.args.entropy.now c.args.input.now c.args.out.now in
    let now : Standing = standing_by c.answer_lines-stop.new.self (at c.answer_lines-stop.new.entropy c.answer_lines-stop.new.input c.answer_lines-stop.new.out) in
    let end : Streams = at c.answer_lines-stop.new.entropy c.answer_lines-stop.new.input c.end.new.out in
    input-answered c.args.job.now c.answer_lines-stop.result start now end.sink c.end.result
    (c.answer_lines-stop.ensures start (going-new c.args.job.now start c.new-session.result c.new-session.ensures)) c.end.ensures
