-- What one area of a disk may hold after a crash. Between two syncs that ended well each written range may hold any bytes, the
-- length is between the least and the greatest since the last of them, and all other bytes stay.
use Rattle.std.specs.Prelude.{◌≡◌, ◌⊎◌, ℕ, ◌+◌, ◌-◌, ◌<◌, ◌≤◌, min, max, Bool, true, false, List, [], ◌∷◌, ◌++◌, length, take, drop, slice_index, if◌then◌else◌}
use Rattle.std.specs.List.{AllByRecursion}
use Rattle.fk_host.specs.Disk.{Areas, area_of}
use Rattle.fk_host.specs.declared.disk.Area.{Area}
use Rattle.fk_host.specs.declared.disk.Area.TheVariants.{Head, One, Two}
use Rattle.fk_memory.specs.declared.host.Call.{Call}
use Rattle.fk_memory.specs.declared.host.Call.TheVariants.{Other, Write, Cut, Sync}

-- bytes that a write was to reach, since the last sync that ended well
pub record Range : Type 0 where
  pub at : ℕ
  pub count : ℕ

-- how an area stands
pub record AreaState : Type 0 where
  -- what a read gives
  pub reads : List ℕ
  -- what a read gave at the last sync that ended well
  pub synced : List ℕ
  -- the least and the greatest length since then
  pub least : ℕ
  pub greatest : ℕ
  -- each range that was written since then, the latest first
  pub written : List Range

-- all of it is on the disk
abbrev pub at_rest : List ℕ → AreaState
at_rest bytes = record { reads = bytes; synced = bytes; least = length bytes; greatest = length bytes; written = [] }

-- the place is outside of the range
abbrev pub IsOutside : ℕ → Range → Type 0
IsOutside i range = (i < range.at) ⊎ (range.at + range.count ≤ i)

-- what a crash may leave of the area
pub record MayHold (state : AreaState) (image : List ℕ) : Type 0 where
  pub no_shorter : state.least ≤ length image
  pub no_longer : length image ≤ state.greatest
  pub kept : (i : ℕ) → i < length image → i < length state.synced → AllByRecursion (IsOutside i) state.written
      → slice_index image i ≡ slice_index state.synced i

-- the bytes with a piece written over them from this place on
abbrev pub overwritten : ℕ → List ℕ → List ℕ → List ℕ
overwritten at piece bytes = take at bytes ++ piece ++ drop (at + length piece) bytes

-- what a write puts: all of its bytes, or where the call failed only so many of them from the front on
abbrev pub put_bytes : List ℕ → Bool → ℕ → List ℕ
put_bytes bytes failed done = if failed then take done bytes else bytes

-- A write, which a failed call may have done in part. It begins at the end at the latest.
abbrev pub after_write : ℕ → List ℕ → Bool → ℕ → AreaState → AreaState
after_write place bytes failed done state =
    let at = min place (length state.reads) in
    record state {
      reads = overwritten at (put_bytes bytes failed done) state.reads;
      greatest = max state.greatest (at + length bytes);
      written = record { at = at; count = length bytes } ∷ state.written;
    }

-- the length to which a cut goes: the one that was asked for, or where the call failed only so many bytes down to it from this one
abbrev pub cut_length : ℕ → Bool → ℕ → ℕ → ℕ
cut_length len failed done before = if failed then max len (before - done) else len

-- a cut, which a failed call may have done in part
abbrev pub after_cut : ℕ → Bool → ℕ → AreaState → AreaState
after_cut len failed done state = record state {
  reads = take (cut_length len failed done (length state.reads)) state.reads;
  least = min state.least len;
}

-- a sync
abbrev pub after_sync : Bool → AreaState → AreaState
after_sync failed state = if failed then state else at_rest state.reads

abbrev pub is_same_area : Area → Area → Bool
is_same_area Head Head = true
is_same_area One One = true
is_same_area Two Two = true
is_same_area _ _ = false

-- what a call of a host does to this area
abbrev pub after_call : Area → Call → AreaState → AreaState
after_call area Other state = state
after_call area (Write of at bytes failed done) state = if is_same_area of area then after_write at bytes failed done state else state
after_call area (Cut of len failed done) state = if is_same_area of area then after_cut len failed done state else state
after_call area (Sync of failed) state = if is_same_area of area then after_sync failed state else state

abbrev pub after_calls : Area → List Call → AreaState → AreaState
after_calls area [] state = state
after_calls area (call ∷ calls) state = after_calls area calls (after_call area call state)

-- how an area stands after these calls, which at first was at rest
abbrev pub area_after : Areas → List Call → Area → AreaState
area_after first calls area = after_calls area calls (at_rest (area_of area first))

-- what a read gives after these calls
abbrev pub areas_after : Areas → List Call → Areas
areas_after first calls = record {
  head = (area_after first calls Head).reads;
  one = (area_after first calls One).reads;
  two = (area_after first calls Two).reads;
}

-- What a crash may leave after the first k of these calls: each area may be left on its own.
abbrev pub MayLeave : Areas → List Call → ℕ → Areas → Type 0
MayLeave first calls k image = (area : Area) → MayHold (area_after first (take k calls) area) (area_of area image)

-- what a read gives after a call, from what it gave before
abbrev pub reads_after : Area → Call → List ℕ → List ℕ
reads_after area call bytes = (after_call area call (at_rest bytes)).reads
