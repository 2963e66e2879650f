-- The disk under a journal: three areas of bytes, what a call does to what a read gives, and what a crash may leave.
use Rattle.std.specs.Prelude.{◌≡◌, ◌⊎◌, ◌↔◌, ℕ, ◌+◌, ◌<◌, ◌≤◌, min, max, List, ◌++◌, length, take, drop, slice_index, Option, IfSome, IsSomeAnd}
use Rattle.fk_trace.specs.Trace.{Item, Child}
use Rattle.fk_host.specs.declared.disk.Area.{Area}
use Rattle.fk_host.specs.declared.disk.Area.TheVariants.{Head, One, Two}

-- the bytes of the three areas: what a read gives of each, or what a crash leaves of each (an image)
pub record Areas : Type 0 where
  pub head : List ℕ
  pub one : List ℕ
  pub two : List ℕ

abbrev pub area_of : Area → Areas → List ℕ
area_of Head areas = areas.head
area_of One areas = areas.one
area_of Two areas = areas.two

-- what a host says of itself, where it tells
pub record Told : Type 0 where
  -- what a read gives
  pub areas : Areas
  -- how many calls of the host were made, failed ones too; after each of them a crash may come
  pub moments : ℕ
  -- what the calls for turns and children have brought
  pub trace : List Item

-- the bytes stand at this place of the area, and the rest is as before
abbrev pub Written : ℕ → List ℕ → List ℕ → List ℕ → Type 0
Written at bytes old new = new ≡ take at old ++ bytes ++ drop (at + length bytes) old

-- after a write of so many bytes that may have been done in part: any bytes in its range and past the old end, the rest as
-- before, and a length between the old one and the place where the write ends
pub record Torn (at count : ℕ) (old new : List ℕ) : Type 0 where
  pub no_shorter : length old ≤ length new
  pub no_longer : length new ≤ max (length old) (at + count)
  pub kept : (i : ℕ) → i < length old → (i < at) ⊎ (at + count ≤ i) → slice_index new i ≡ slice_index old i

-- After a cut to this length that may have been done in part: a front, no shorter than that. What is shorter already, as
-- an image may be that never got a write, stays as it is.
pub record Cut (len : ℕ) (old new : List ℕ) : Type 0 where
  pub front : new ≡ take (length new) old
  pub no_shorter : min (length old) len ≤ length new

-- nothing changes
abbrev pub Same : Areas → Areas → Type 0
Same old new = new ≡ old

-- this happens to one area, and nothing to the others
abbrev pub InArea : Area → (List ℕ → List ℕ → Type 0) → Areas → Areas → Type 0
InArea Head Step old new = Step old.head new.head × (new.one ≡ old.one) × (new.two ≡ old.two)
InArea One Step old new = (new.head ≡ old.head) × Step old.one new.one × (new.two ≡ old.two)
InArea Two Step old new = (new.head ≡ old.head) × (new.one ≡ old.one) × Step old.two new.two

-- nothing changes, and of this area the second has what a read gives
abbrev pub Synced : Area → Areas → Areas → Areas → Type 0
Synced area read old new = (new ≡ old) × (area_of area new ≡ area_of area read)

-- What a crash may leave, as a relation of a moment and an image. It stays what it was for the moments so far.
abbrev pub KeepsPast : ℕ → (ℕ → Areas → Type 0) → (ℕ → Areas → Type 0) → Type 0
KeepsPast moments old new = (k : ℕ) (image : Areas) → k ≤ moments → (new k image ↔ old k image)

-- each image of the later set is one of the earlier set after this step
abbrev pub Follows : (Areas → Areas → Type 0) → (Areas → Type 0) → (Areas → Type 0) → Type 0
Follows Step old new = (image : Areas) → new image → (from : Areas) × old from × Step from image

-- One call was made: what a read gives went over by `Reads`, and each image of the one new moment came by `Leaves` from one of
-- the moment before it.
pub record Passes (Reads Leaves : Areas → Areas → Type 0) (old_images new_images : ℕ → Areas → Type 0) (old new : Told) : Type 0 where
  pub moments : new.moments ≡ old.moments + 1
  pub reads : Reads old.areas new.areas
  pub past : KeepsPast old.moments old_images new_images
  pub now : Follows Leaves (old_images old.moments) (new_images new.moments)

-- A fact of what is told before and after a call, where it is told after it: then it was told before it.
abbrev pub IfTold : Option Told → Option Told → (Told → Told → Type 0) → Type 0
IfTold old new Fact = IfSome new (λ after. IsSomeAnd old (λ before. Fact before after))

-- one call of a host was made, with these steps of what a read gives and of the images
abbrev pub Calls : {D : Type 0} → (D → Option Told) → (D → ℕ → Areas → Type 0) → D → D → (Areas → Areas → Type 0) → (Areas → Areas → Type 0) → Type 0
Calls told may_leave old new Reads Leaves = IfTold (told old) (told new) (Passes Reads Leaves (may_leave old) (may_leave new))

-- what is said of the host above a disk, whether it tells or not
pub record Above : Type 0 where
  -- the children that were begun and that no poll has seen to end
  pub running : List Child
  -- how often a start or a poll has failed
  pub faults : ℕ
  -- the number of the child that began last, or 0
  pub last_child : ℕ

-- What calls of the disk leave of the host above it: all that is said of it, and the trace where it is told after them.
pub record LeavesHost {D : Type 0} (told : D → Option Told) (above : D → Above) (old new : D) : Type 0 where
  pub trace : IfTold (told old) (told new) (λ before after. after.trace ≡ before.trace)
  pub rest : above new ≡ above old

-- Calls were made that left the areas alone: a read gives what it gave, and each image of each later moment is one of the moment
-- before the calls.
pub record LeavesAreas (old_images new_images : ℕ → Areas → Type 0) (old new : Told) : Type 0 where
  pub later : old.moments ≤ new.moments
  pub reads : new.areas ≡ old.areas
  pub past : KeepsPast old.moments old_images new_images
  pub each : (k : ℕ) (image : Areas) → old.moments < k → k ≤ new.moments → new_images k image → old_images old.moments image
