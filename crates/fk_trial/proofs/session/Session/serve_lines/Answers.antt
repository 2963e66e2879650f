use Rattle.std.proofs.Common.{◌<◌, ◌≤◌, ◌++◌, ◌∷◌, [], arith}
use Rattle.fk_input.specs.Lines.{input_limit}
use Rattle.fk_trial.proofs.session.Session.serve_lines.Goals as goal

pub loop-stop-init : goal.loop-stop-init
loop-stop-init g c = λ start turns going. (turns, going)

pub serve_line-requires : goal.serve_line-requires
serve_line-requires g c =
    let now = c.loop-stop.invariant c.requires.0 c.requires.1 c.requires.2 in
    (c.requires.0, now.0, now.1)

pub returns-in-Some : goal.returns-in-Some
returns-in-Some g c = λ start turns going.
    let now = c.loop-stop.invariant start turns going in
    c.in-Some.ensures.goes start now.0 now.1

pub loop-stop-smaller : goal.loop-stop-smaller
loop-stop-smaller g c =
    let now = c.loop-stop.invariant c.requires.0 c.requires.1 c.requires.2 in
    let within : c.loop-stop.self.reader.offset ≤ input_limit = now.1.read.within in
    let further : c.loop-stop.self.reader.offset < c.serve_line.new.self.reader.offset = c.in_default.ensures.progress in
    omega arith

pub loop-stop-preserved : goal.loop-stop-preserved
loop-stop-preserved g c = λ start turns going.
    let now = c.loop-stop.invariant start turns going in
    let next = c.in_default.ensures.goes start now.0 now.1 in
    (now.0 ++ next.0 ∷ [], next.1)
