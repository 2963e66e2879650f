-- The list of the live records.
use Rattle.std.specs.Prelude.{◌≡◌, ◌⊎◌, ℕ, List, map}
use Rattle.fk_base.specs.declared.status.Status.{Status}
use Rattle.fk_trace.specs.declared.change.Change.{Change}
use Rattle.fk_trace.specs.Ledger.{live}
use Rattle.fk_host.specs.Disk.{IfTold}
use Rattle.fk_log.specs.Line.{text_of_lines}
use Rattle.fk_log.specs.Line.Line.{ListedLine}
use Rattle.fk_journal.specs.declared.fault.JournalErr.{JournalErr}
use Rattle.fk_ledger.specs.Holds.{HoldsChanges}
use Rattle.fk_serve.specs.World.{World}
use Rattle.fk_program.specs.Telling.{Shows, Stops}
use Rattle.fk_view.specs.Viewing.{FailsToView, OnlyReads, view_status, view_text}

-- a line for each live record, by rising number
abbrev pub list_text : List Change → List ℕ
list_text ledger = text_of_lines (map ListedLine (live ledger))

-- the areas hold these changes, and the records that are live by them were printed
pub record ListsLedger (old new : World) (answer : Status) : Type 0 where
  pub ledger : List Change
  pub held : IfTold old.outside.host.told new.outside.host.told (λ before later. HoldsChanges before.areas ledger)
  pub disk : new.outside.host.faults ≡ old.outside.host.faults
  pub shows : Shows (list_text ledger) old.outside.sink new.outside.sink answer

-- no ledger was read, and it was told why
pub record ListsNothing (old new : World) (answer : Status) : Type 0 where
  pub fault : JournalErr
  pub fails : FailsToView fault old.outside.host new.outside.host
  pub tells : Stops (view_status fault) (view_text fault) old.outside.sink new.outside.sink answer

-- The live records are listed, or it is told why not. Nothing but the disk is asked, and that is only read.
pub record Lists (old new : World) (answer : Status) : Type 0 where
  pub files : new.files ≡ old.files
  pub input : new.input ≡ old.input
  pub feed : new.outside.feed ≡ old.outside.feed
  pub host : OnlyReads old.outside.host new.outside.host
  pub came : ListsLedger old new answer ⊎ ListsNothing old new answer
