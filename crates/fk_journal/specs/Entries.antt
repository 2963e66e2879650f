-- The bytes of a journal: the format byte 2, then entries, each behind a gate byte of 1, and behind the last a gate byte of
-- another value. Numbers are written high byte first.
use Rattle.std.specs.Prelude.{◌≡◌, ◌≢◌, ◌⊎◌, ℕ, ◌+◌, ◌<◌, ◌≤◌, ◌^◌, List, [], ◌∷◌, ◌++◌, length, map, slice_index}
use Rattle.std.specs.List.{AllByRecursion, flat_map}
use Rattle.std.specs.Int.{w32, to_be_bytes}
use Rattle.fk_journal.specs.declared.entry.Entry.{Entry}

-- the first byte of an area
abbrev pub format_byte : ℕ
format_byte = 2

-- what an entry says
pub record Content : Type 0 where
  pub kind : ℕ
  pub payload : List ℕ

-- an entry behind its gate: how long its payload is, its kind, and the payload
abbrev pub body : Content → List ℕ
body content = to_be_bytes w32 (length content.payload) ++ content.kind ∷ content.payload

-- an entry behind its open gate
abbrev pub entry_bytes : Content → List ℕ
entry_bytes content = 1 ∷ body content

abbrev pub entries_bytes : List Content → List ℕ
entries_bytes contents = flat_map entry_bytes contents

-- all that is written for a list of entries: the format, the entries, and a closed gate
abbrev pub area_bytes : List Content → List ℕ
area_bytes contents = format_byte ∷ entries_bytes contents ++ 0 ∷ []

-- the place of the gate behind the entries; the bytes up to it and that gate are the used ones
abbrev pub place_behind : List Content → ℕ
place_behind contents = 1 + length (entries_bytes contents)

-- the kinds of entries are 1 to 4, and a payload's length has four bytes
pub record IsContent (content : Content) : Type 0 where
  pub kind : (1 ≤ content.kind) × (content.kind ≤ 4)
  pub size : length content.payload < 2 ^ 32

-- the area has this format, then these entries, and then these bytes
pub record BeginsWith (format : ℕ) (contents : List Content) (rest area : List ℕ) : Type 0 where
  pub each : AllByRecursion IsContent contents
  pub bytes : area ≡ format ∷ entries_bytes contents ++ rest

-- the area has the format, these entries and a gate that is not open; what stands behind that gate says nothing
abbrev pub IsClosedBehind : List Content → List ℕ → Type 0
IsClosedBehind contents area = (gate : ℕ) × (rest : List ℕ) × (gate ≢ 1) × BeginsWith format_byte contents (gate ∷ rest) area

-- which entries an area holds: none where it is shorter than three bytes, and else those before its first gate that is not open
abbrev pub HoldsEntries : List ℕ → List Content → Type 0
HoldsEntries area contents = ((length area < 3) × (contents ≡ [])) ⊎ IsClosedBehind contents area

-- a gate is open, and no entry with a further gate behind it stands there
abbrev pub IsBrokenGate : List ℕ → Type 0
IsBrokenGate bytes = (rest : List ℕ) × (bytes ≡ 1 ∷ rest)
    × ((content : Content) (gate : ℕ) (more : List ℕ) → IsContent content → rest ≡ body content ++ gate ∷ more → ⊥)

-- the first place at which an area is not in the format: its first byte, or the gate of the first entry that is none
abbrev pub IsDamagedAt : List ℕ → ℕ → Type 0
IsDamagedAt area place = (3 ≤ length area) × (((slice_index area 0 ≢ format_byte) × (place ≡ 0))
    ⊎ ((contents : List Content) × (rest : List ℕ) × BeginsWith format_byte contents rest area × IsBrokenGate rest × (place ≡ place_behind contents)))

-- what entries say that were read with the places of their gates
abbrev pub content_of_entry : Entry → Content
content_of_entry entry = record { kind = entry.kind; payload = entry.payload }

abbrev pub contents_of : List Entry → List Content
contents_of entries = map content_of_entry entries

-- the gates of the entries stand at these places, of which the first is given
abbrev pub ArePlacedFrom : ℕ → List Entry → Type 0
ArePlacedFrom place [] = Unit {0}
ArePlacedFrom place (entry ∷ entries) = (entry.place ≡ place) × ArePlacedFrom (place + length (entry_bytes (content_of_entry entry))) entries
