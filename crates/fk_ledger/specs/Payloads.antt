-- What a journal's entry says of a change. Numbers are written high byte first.
use Rattle.std.specs.Prelude.{ℕ, ◌<◌, ◌≤◌, ◌^◌, List, ◌∷◌, ◌++◌, length, map}
use Rattle.std.specs.List.{flat_map}
use Rattle.std.specs.Int.{w16, w32, w64, to_be_bytes}
use Rattle.fk_base.specs.Bytes.{HasBytes}
use Rattle.fk_base.specs.CommandWords.{AreCommandWords}
use Rattle.fk_base.specs.declared.digest.Digest.{Digest}
use Rattle.fk_base.specs.declared.moment.TheConstants.{GREATEST_MOMENT}
use Rattle.fk_base.specs.declared.pair.Proto.{Proto}
use Rattle.fk_base.specs.declared.pair.Proto.TheVariants.{Tcp, Udp}
use Rattle.fk_trace.specs.declared.change.OpenRecord.{OpenRecord}
use Rattle.fk_trace.specs.declared.change.Change.{Change}
use Rattle.fk_trace.specs.declared.change.Change.TheVariants.{Open, Done, Settled, Floor}
use Rattle.fk_journal.specs.Entries.{Content}

-- the number of a protocol above IP (RFC 1700, "Protocol Numbers")
abbrev pub proto_number : Proto → ℕ
proto_number Tcp = 6
proto_number Udp = 17

-- a word: how long it is in two bytes, and its bytes
abbrev pub word_bytes : List ℕ → List ℕ
word_bytes word = to_be_bytes w16 (length word) ++ word

-- the words of a command: how many they are in one byte, and each
abbrev pub words_bytes : List (List ℕ) → List ℕ
words_bytes words = length words ∷ flat_map word_bytes words

-- a record: 71 bytes of its number, digest, stamp, moment, due, address, protocol and port, and then the words of its close
abbrev pub record_bytes : OpenRecord → List ℕ
record_bytes item =
    to_be_bytes w64 item.id ++ (item.digest.0 ++ (to_be_bytes w64 item.stamp ++ (to_be_bytes w64 item.moment ++ (to_be_bytes w64 item.due
    ++ (to_be_bytes w32 item.ip.0 ++ (proto_number item.pair.proto ∷ (to_be_bytes w16 item.pair.port ++ words_bytes item.close)))))))

-- of a settled record: its number, stamp and digest
abbrev pub settled_bytes : ℕ → ℕ → Digest → List ℕ
settled_bytes id stamp digest = to_be_bytes w64 id ++ (to_be_bytes w64 stamp ++ digest.0)

-- a floor, and the number of the next record
abbrev pub floor_bytes : ℕ → ℕ → List ℕ
floor_bytes floor next = to_be_bytes w64 floor ++ to_be_bytes w64 next

-- the entry of a change: an Open is of kind 1, a Done, which has the number of its record, of kind 2, a Settled of kind 3, and a Floor of kind 4
abbrev pub content_of : Change → Content
content_of (Open item) = record { kind = 1; payload = record_bytes item }
content_of (Done id) = record { kind = 2; payload = to_be_bytes w64 id }
content_of (Settled id stamp digest) = record { kind = 3; payload = settled_bytes id stamp digest }
content_of (Floor floor next) = record { kind = 4; payload = floor_bytes floor next }

abbrev pub ledger_contents : List Change → List Content
ledger_contents ledger = map content_of ledger

-- the greatest stamp: a year, which is the greatest age of a packet that can be set, past the greatest moment
abbrev pub greatest_stamp : ℕ
greatest_stamp = 1000031535999

-- the values that a record may have
pub record IsRecord (item : OpenRecord) : Type 0 where
  pub id : item.id < 2 ^ 64
  pub digest : HasBytes 32 item.digest.0
  pub stamp : item.stamp ≤ greatest_stamp
  pub moment : item.moment ≤ GREATEST_MOMENT
  pub due : item.due < 2 ^ 64
  pub ip : item.ip.0 < 2 ^ 32
  pub port : item.pair.port < 2 ^ 16
  pub close : AreCommandWords item.close

-- the values that a change may have
abbrev pub IsChange : Change → Type 0
IsChange (Open item) = IsRecord item
IsChange (Done id) = id < 2 ^ 64
IsChange (Settled id stamp digest) = (id < 2 ^ 64) × (stamp ≤ greatest_stamp) × HasBytes 32 digest.0
IsChange (Floor floor next) = (floor < 2 ^ 64) × (1 ≤ next) × (next ≤ 2 ^ 63)
