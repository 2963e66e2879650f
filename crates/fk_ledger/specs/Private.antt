-- What the contracts of this crate's private functions alone speak of. No public contract cites it, so no caller has to believe it.
use Rattle.std.specs.Prelude.{◌≡◌, ◌≢◌, ◌⊎◌, [], ℕ, ◌==◌, nat_eq, Bool, true, false, ◌+◌, ◌≤◌, ◌&&◌, nat_lt, nat_le, min, not, map, List, length, if◌then◌else◌, vec_capacity}
use Rattle.std.specs.List.{AllByRecursion, AllPass, filter, list_any}
use Rattle.fk_base.specs.Characters.{is_word_byte}
use Rattle.fk_trace.specs.declared.change.OpenRecord.{OpenRecord}
use Rattle.fk_trace.specs.declared.change.Change.{Change}
use Rattle.fk_trace.specs.declared.change.Change.TheVariants.{Open, Done, Settled, Floor}
use Rattle.std.specs.Cmp.Lexicographic.{pointwise}
use Rattle.fk_trace.specs.Ledger.{is_seen, next_id, floor_of, rise, compacted, IsLedger}
use Rattle.std.specs.HashSet.{contains, hash_set_len, spare}
use Rattle.fk_journal.specs.declared.fault.JournalErr.{JournalErr}
use Rattle.fk_journal.specs.Entries.{Content, area_bytes}
use Rattle.fk_journal.specs.Older.{IsOlder}
use Rattle.fk_ledger.specs.declared.ledger.Ledger.TheInside.{Inside}
use Rattle.fk_ledger.specs.Book.{Book, live_ids, used}
use Rattle.fk_ledger.specs.Payloads.{ledger_contents, IsChange}
use Rattle.fk_ledger.specs.Older.{stamped}
use Rattle.fk_ledger.specs.Holds.{IsOldDamagedAt}
use Rattle.fk_ledger.specs.declared.older.Format.{Format}
use Rattle.fk_ledger.specs.declared.older.Format.TheVariants.{Current, Older}

-- there is room in memory for so many changes and digests
abbrev pub has_slots : Inside → Bool
has_slots ledger =
    nat_le (length ledger.changes.items + length ledger.live.items + 3) (vec_capacity ledger.changes)
    && (nat_le (length ledger.changes.items + length ledger.live.items + 2) (hash_set_len ledger.index + spare ledger.index) && nat_lt 0 (spare ledger.index))

-- A further record needs room for itself and for its Done, beside that for the Done of each live record, and for a Floor.
abbrev pub book_of : Inside → Book
book_of ledger = record {
  changes = ledger.changes.items;
  limit = ledger.limit;
  keep = ledger.keep;
  area = ledger.journal.area;
  room = ledger.journal.limit;
  reserved = if has_slots ledger then min (vec_capacity ledger.payload) ledger.journal.reserved else 0;
  is_spent = ledger.journal.is_spent;
}

-- The journal, the numbers of the live records, the next number and the floor are those of the changes. There is room for the Done of each
-- live record, for the numbers of as many as may be live, and for the payload of each.
pub record IsInOrder (ledger : Inside) : Type 0 where
  pub live : ledger.live.items ≡ live_ids ledger.changes.items
  pub next : ledger.next ≡ next_id ledger.changes.items
  pub floor : ledger.floor ≡ floor_of ledger.changes.items
  pub used : ledger.journal.is_spent ≡ false → used ledger.changes.items ≡ ledger.journal.end + 1
  pub idle : ledger.journal.is_spent ≡ false → ledger.journal.is_copying ≡ false
  pub room : length ledger.changes.items + length ledger.live.items ≤ vec_capacity ledger.changes
  pub numbers : ledger.limit ≤ vec_capacity ledger.live
  pub reserved : (12136 ≤ ledger.journal.reserved) × (12136 ≤ vec_capacity ledger.payload)
  pub index : (digest : List ℕ) → contains (pointwise nat_eq) ledger.index digest ≡ is_seen digest ledger.changes.items

-- the entries, which say what this function gives, are those of a ledger
pub record AreLedger (says : Content → Content) (contents : List Content) (ledger : List Change) : Type 0 where
  pub entries : map says contents ≡ ledger_contents ledger
  pub each : AllByRecursion IsChange ledger
  pub follow : IsLedger ledger

-- what an entry of this format says
abbrev pub said_in : Format → Content → Content
said_in Current content = content
said_in Older content = stamped content

-- one of the words of a command
pub record IsCommandWord (word : List ℕ) : Type 0 where
  pub filled : word ≢ []
  pub bytes : AllPass is_word_byte word

-- what one change has to do with a digest or a number
abbrev pub has_digest : List ℕ → Change → Bool
has_digest digest (Open item) = pointwise nat_eq item.digest.0 digest
has_digest digest (Done id) = false
has_digest digest (Settled id stamp other) = pointwise nat_eq other.0 digest
has_digest digest (Floor floor next) = false

abbrev pub is_below : ℕ → Change → Bool
is_below id (Open item) = nat_lt item.id id
is_below id (Done done) = true
is_below id (Settled settled stamp digest) = nat_lt settled id
is_below id (Floor floor next) = true

abbrev pub opens_id : ℕ → Change → Bool
opens_id id (Open item) = item.id == id
opens_id id (Done done) = false
opens_id id (Settled settled stamp digest) = false
opens_id id (Floor floor next) = false

abbrev pub settles_id : ℕ → Change → Bool
settles_id id (Open item) = false
settles_id id (Done done) = done == id
settles_id id (Settled settled stamp digest) = false
settles_id id (Floor floor next) = false

-- the numbers of those of these records that no change of the ledger settles
abbrev pub ids_of : List Change → List OpenRecord → List ℕ
ids_of ledger items = map (λ item. item.id) (filter (λ item. not (list_any (settles_id item.id) ledger)) items)

-- these bytes are those of the ledger that the entries of the older format are, as it begins anew with the floor 0
pub record MigratesTo (contents : List Content) (bytes : List ℕ) : Type 0 where
  pub changes : List Change
  pub are : AreLedger stamped contents changes
  pub first : IsChange (rise 0 changes)
  pub bytes_are : bytes ≡ area_bytes (ledger_contents (compacted 0 changes))

-- the area has no ledger of the older format: it is damaged there, or is not of that format, at 0
abbrev pub IsNoOlderAt : List ℕ → ℕ → Type 0
IsNoOlderAt area place = IsOldDamagedAt area place ⊎ ((IsOlder area → ⊥) × (place ≡ 0))

-- it says that the area is not of this format
abbrev pub is_other_format : JournalErr → Bool
is_other_format JournalErr.Disk = false
is_other_format (JournalErr.Damaged place) = place == 0
is_other_format JournalErr.NoMemory = false
