use Rattle.std.proofs.Common.{◌+◌, ◌-◌, List}
use Rattle.fk_run.specs.Turn.{TakenTurn}
use Rattle.fk_input.specs.Lines.{input_limit}
use Rattle.fk_trial.specs.Sessions.{Going, Standing, standing_by}
use Rattle.fk_trial.proofs.session.Session.serve_lines.Given as goal

abbrev pub invariant-loop-stop : goal.invariant-loop-stop
invariant-loop-stop g l =
    let at = standing_by g.I.Source g.K.Sink in
    (start : Standing) (turns : List TakenTurn) → Going l.task.policy turns start (at l.fn.self l.fn.input l.fn.out)
    → (later : List TakenTurn) × Going l.task.policy later start (at l.self l.input l.out)

abbrev pub decreases-loop-stop : goal.decreases-loop-stop
decreases-loop-stop g l = input_limit + 1 - l.self.reader.offset
