-- A ledger that is served, as contracts see it, and its room.
use Rattle.std.specs.Prelude.{ℕ, ◌+◌, ◌*◌, nat_le, Bool, true, false, List, [], ◌∷◌, length, map, Option}
use Rattle.std.specs.List.{sum_by}
use Rattle.fk_trace.specs.declared.change.OpenRecord.{OpenRecord}
use Rattle.fk_trace.specs.declared.change.Change.{Change}
use Rattle.fk_trace.specs.declared.change.Change.TheVariants.{Open, Done, Settled, Floor}
use Rattle.fk_trace.specs.Ledger.{live, after_one}
use Rattle.fk_trace.specs.Decision.{Room, making}
use Rattle.fk_host.specs.declared.disk.Area.{Area}
use Rattle.fk_ledger.specs.declared.fault.RecordFault.{RecordFault}
use Rattle.fk_ledger.specs.declared.fault.RecordFault.TheVariants.{Full, Disk}
use Rattle.fk_ledger.specs.Payloads.{content_of}

pub record Book : Type 0 where
  -- all changes, those that were found and those that were made
  pub changes : List Change
  -- how many records may be live at once
  pub limit : ℕ
  -- for how many seconds a digest is kept at least: where the ledger begins anew, it may leave out those that are older
  pub keep : ℕ
  -- the area on which its journal stands
  pub area : Area
  -- how many bytes the journal may use
  pub room : ℕ
  -- how long the payload of a record's entry may be, so that neither the record nor its end asks for memory
  pub reserved : ℕ
  -- a call failed, and the ledger has to be opened again
  pub is_spent : Bool

-- how many bytes a ledger uses: the format byte, the closing gate, and for each change the six bytes round its payload and that
abbrev pub used : List Change → ℕ
used ledger = 2 + sum_by (λ change. 6 + length (content_of change).payload) ledger

-- how many bytes a ledger needs: those that it uses, and 14 for the Done that each live record is owed
abbrev pub needs : List Change → ℕ
needs ledger = used ledger + 14 * length (live ledger)

-- the room of a ledger whose journal may use so many bytes, of which so many records may be live, and which keeps digests so long
abbrev pub room_within : ℕ → ℕ → ℕ → Room
room_within room limit keep = record { limit = limit; keep = keep; fits = λ ledger. nat_le (needs ledger) room }

abbrev pub room_of : Book → Room
room_of book = room_within book.room book.limit book.keep

-- what is made so that the ledger has this record
abbrev pub making_record : Book → OpenRecord → Option (List Change)
making_record book item = making (room_of book) item.moment book.changes (Open item)

-- How many calls of the disk make a change: four where it is written behind the others. Where the ledger begins anew, two empty the other
-- area, one writes each entry there, and four switch to it.
abbrev pub calls_of_one : List Change → Change → ℕ
calls_of_one ledger (Open item) = 4
calls_of_one ledger (Done id) = 4
calls_of_one ledger (Settled id stamp digest) = 4
calls_of_one ledger (Floor floor next) = 2 + length (after_one ledger (Floor floor next)) + 4

-- and these changes, one after another
abbrev pub calls_of : List Change → List Change → ℕ
calls_of ledger [] = 0
calls_of ledger (change ∷ changes) = calls_of_one ledger change + calls_of (after_one ledger change) changes

-- the numbers of the live records, rising
abbrev pub live_ids : List Change → List ℕ
live_ids ledger = map (λ item. item.id) (live ledger)

-- an error that a fault of the disk brings
abbrev pub is_disk_record_fault : RecordFault → Bool
is_disk_record_fault Full = false
is_disk_record_fault Disk = true
