use Rattle.std.proofs.Common.{◌≡◌, None, length}
use Rattle.std.specs.Prelude.{IfSome}
use Rattle.fk_lines.specs.Lines.{lines_of}
use Rattle.fk_values.specs.Stanzas.{before_head, stanzas_from}
use Rattle.fk_conf.proofs.RcSteps.{IsRcReading}
use Rattle.fk_conf.specs.RcFault.{early_fault}
use Rattle.fk_conf.specs.RcPrivate.{IsHead}
use Rattle.fk_conf.specs.RcTable.{head_name}
use Rattle.fk_conf.proofs.reading_rc.read_rc.Given as goal

abbrev pub invariant-loop-next : goal.invariant-loop-next
invariant-loop-next l = record {
  early : early_fault (before_head head_name (lines_of l.text)) ≡ None;
  stanzas : IsRcReading l.text (stanzas_from head_name l.next l.lines.left) l.file;
  next : IfSome l.next IsHead;
}

abbrev pub decreases-loop-next : goal.decreases-loop-next
decreases-loop-next l = length (stanzas_from head_name l.next l.lines.left)
