use Rattle.std.proofs.Common.{◌≡◌, ◌≤◌, ◌∷◌, take, vec_capacity}
use Rattle.fk_journal.specs.Entries.{format_byte, entries_bytes}
use Rattle.fk_ledger.specs.Payloads.{ledger_contents}
use Rattle.fk_ledger.proofs.migration.list_of.Given as goal

abbrev pub invariant-loop-change : goal.invariant-loop-change
invariant-loop-change l = (l.bytes.items ≡ format_byte ∷ entries_bytes (ledger_contents (take l.change-index l.changes))) × (12136 ≤ vec_capacity l.payload)
