-- What an entry says in the format before this one, in which a record has no stamp, and how a ledger of that format comes into this one.
use Rattle.std.specs.Prelude.{ℕ, ◌+◌, ◌-◌, ◌^◌, ◌==◌, nat_lt, min, List, ◌++◌, length, take, drop, if◌then◌else◌}
use Rattle.std.specs.Int.{w64, to_be_bytes, from_be_bytes}
use Rattle.fk_journal.specs.Entries.{Content}

-- the greatest age of a packet that can be set, in seconds
abbrev pub year : ℕ
year = 31536000

-- the stamp of a record by the bytes of its moment: a year past it, so that it is not below the stamp of its packet
abbrev pub stamp_by : List ℕ → ℕ
stamp_by moment = min (from_be_bytes w64 moment + year) (2 ^ 64 - 1)

-- the payload with that stamp at the place of its moment, and so many bytes from there on left out; one that ends before has none
abbrev pub with_stamp : ℕ → ℕ → List ℕ → List ℕ
with_stamp at out payload =
    if nat_lt (length payload) (at + 8) then payload
    else take at payload ++ (to_be_bytes w64 (stamp_by (take 8 (drop at payload))) ++ drop out (drop at payload))

abbrev pub content_with : ℕ → List ℕ → Content
content_with kind payload = record { kind = kind; payload = payload }

-- The entry of this format that says what one of the older format says. A record gets its stamp before its moment, and what is kept of one
-- that has ended in its moment's place; an end is the same. There is no floor, so an entry of another kind says nothing.
abbrev pub stamped : Content → Content
stamped content =
    if content.kind == 1 then content_with 1 (with_stamp 40 0 content.payload)
    else if content.kind == 2 then content
    else if content.kind == 3 then content_with 3 (with_stamp 8 8 content.payload)
    else content_with 0 content.payload

-- an entry of this format says what it says
abbrev pub itself : Content → Content
itself content = content
