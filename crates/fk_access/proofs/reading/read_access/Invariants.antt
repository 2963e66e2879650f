use Rattle.std.proofs.Common.{◌≡◌, length}
use Rattle.std.specs.Prelude.{IfSome, None}
use Rattle.fk_lines.specs.Lines.{lines_of}
use Rattle.fk_values.specs.Stanzas.{before_head, stanzas_from}
use Rattle.fk_access.specs.AccessTable.{source_name}
use Rattle.fk_access.proofs.StanzaSteps.{IsAccessReading}
use Rattle.fk_access.specs.AccessFault.{early_fault}
use Rattle.fk_access.specs.Private.{IsSourceLine}
use Rattle.fk_access.proofs.reading.read_access.Given as goal

abbrev pub invariant-loop-next : goal.invariant-loop-next
invariant-loop-next l = record {
  early : early_fault (before_head source_name (lines_of l.text)) ≡ None;
  stanzas : IsAccessReading (lines_of l.text) (stanzas_from source_name l.next l.lines.left) l.access;
  next : IfSome l.next IsSourceLine;
}

abbrev pub decreases-loop-next : goal.decreases-loop-next
decreases-loop-next l = length (stanzas_from source_name l.next l.lines.left)
