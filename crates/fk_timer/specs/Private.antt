-- What a timer keeps to itself. No public contract cites it, so no caller has to believe it.
use Rattle.std.specs.Prelude.{◌≡◌, ◌==◌, ◌≤◌, ℕ, true, false, List, [], ◌∷◌, map, All, if◌then◌else◌}
use Rattle.std.specs.List.{sum_by}
use Rattle.std.specs.Ordering.{nat_cmp, ordering_then}
use Rattle.std.specs.BinaryHeap.{IsHeap}
use Rattle.std.specs.declared.cmp.Ordering.{Ordering}
use Rattle.std.specs.declared.cmp.Reverse.{Reverse}
use Rattle.fk_timer.specs.Schedule.{Entry, precedes, holds, with_entry}

-- a moment and a number, as the heap stores them
abbrev pub Due : Type 0
Due = Reverse (ℕ × ℕ)

abbrev pub entry_of : Due → Entry
entry_of due = record { id = due.0.1; moment = due.0.0 }

-- how the heap ranks two of them: the later one is the lesser
abbrev pub ranked : Due → Due → Ordering
ranked a b = ordering_then (nat_cmp b.0.0 a.0.0) (nat_cmp b.0.1 a.0.1)

-- the entries in the order in which they fall due
abbrev pub in_order : List Entry → List Entry
in_order [] = []
in_order (entry ∷ entries) = with_entry entry (in_order entries)

-- how many of the entries have this number
abbrev pub times : ℕ → List Entry → ℕ
times id entries = sum_by (λ entry. if entry.id == id then 1 else 0) entries

-- no number waits twice
abbrev pub EachOnce : List Entry → Type 0
EachOnce entries = (id : ℕ) → times id entries ≤ 1

-- the heap is in order, no number waits twice, and what is reserved is there
pub record IsStored (items : List Due) (len reserved capacity : ℕ) : Type 0 where
  pub ranks : IsHeap ranked items
  pub once : EachOnce (map entry_of items)
  pub within : len ≤ reserved
  pub there : reserved ≤ capacity
