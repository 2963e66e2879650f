use Rattle.std.proofs.Common.{◌≡◌, ◌+◌, ◌≤◌, length}
use Rattle.fk_lines.specs.Lines.{lines_from, raw_lines}
use Rattle.fk_base.specs.declared.file.TheConstants.{FILE_LIMIT}
use Rattle.fk_lines.proofs.lines.next_kept.Given as goal

-- only skipped lines were passed
abbrev pub invariant-loop-left : goal.invariant-loop-left
invariant-loop-left l = record {
  within : l.at + length l.left ≤ FILE_LIMIT;
  same : lines_from (l.number + 1) (raw_lines l.rest) ≡ lines_from (l.at + 1) (raw_lines l.left);
}

abbrev pub decreases-loop-left : goal.decreases-loop-left
decreases-loop-left l = length l.left
