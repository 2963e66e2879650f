use Rattle.std.proofs.Common.{◌<◌, ◌≤◌, arith}
use Rattle.fk_input.specs.Lines.{input_limit}
use Rattle.fk_tool.proofs.session.Session.answer_lines.Goals as goal

pub loop-stop-init : goal.loop-stop-init
loop-stop-init g c = λ start going. going

pub answer_next-requires : goal.answer_next-requires
answer_next-requires g c = (c.requires.0, c.loop-stop.invariant c.requires.0 c.requires.1)

pub returns-in-Some : goal.returns-in-Some
returns-in-Some g c = λ start going. c.in-Some.ensures.goes start (c.loop-stop.invariant start going)

pub loop-stop-smaller : goal.loop-stop-smaller
loop-stop-smaller g c =
    let now = c.loop-stop.invariant c.requires.0 c.requires.1 in
    let within : c.loop-stop.self.reader.offset ≤ input_limit = now.read.within in
    let further : c.loop-stop.self.reader.offset < c.answer_next.new.self.reader.offset = c.in_default.ensures.progress in
    omega arith

pub loop-stop-preserved : goal.loop-stop-preserved
loop-stop-preserved g c = λ start going. c.in_default.ensures.goes start (c.loop-stop.invariant start going)
