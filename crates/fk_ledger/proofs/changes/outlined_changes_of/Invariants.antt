use Rattle.std.proofs.Common.{take}
use Rattle.fk_journal.specs.Entries.{contents_of}
use Rattle.fk_ledger.specs.Private.{AreLedger, said_in}
use Rattle.fk_ledger.specs.Index.{Outlines}
use Rattle.fk_ledger.proofs.RoomLaws.{IsCounted}
use Rattle.fk_ledger.proofs.changes.outlined_changes_of.Given as goal

abbrev pub invariant-loop-entry : goal.invariant-loop-entry
invariant-loop-entry l = AreLedger (said_in l.format) (contents_of (take l.entry-index l.entries)) l.changes.items × IsCounted l.changes.items × Outlines l.outline l.changes.items
