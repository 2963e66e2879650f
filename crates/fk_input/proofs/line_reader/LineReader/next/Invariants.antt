use Rattle.std.proofs.Common.{◌≡◌, ◌+◌, ◌-◌, length}
use Rattle.fk_input.specs.Lines.{line_limit}
use Rattle.fk_input.specs.Reading.{rest}
use Rattle.fk_input.proofs.Calls.{IsWithinLine}
use Rattle.fk_input.proofs.line_reader.LineReader.next.Given as goal

abbrev pub invariant-loop-b : goal.invariant-loop-b
invariant-loop-b g l = record {
  so_far : IsWithinLine l.fn.self l.self (rest l.fn.self (g.I.Source.left l.initial.input)) (rest l.self (g.I.Source.left l.input));
  count : g.I.Source.faults l.input ≡ g.I.Source.faults l.initial.input;
}

abbrev pub decreases-loop-b : goal.decreases-loop-b
decreases-loop-b g l = line_limit + 1 - length l.self.line
