-- The host above a disk: turns, and the children that it starts and polls.
use Rattle.std.specs.Prelude.{◌≡◌, ℕ, ◌==◌, Bool, true, false, List, [], ◌∷◌, ◌++◌, Option, Some, None, Result, Ok, Err, if◌then◌else◌}
use Rattle.std.specs.List.{list_any}
use Rattle.fk_base.specs.declared.memory.Failed.{Failed}
use Rattle.fk_base.specs.declared.purpose.Purpose.{Purpose}
use Rattle.fk_trace.specs.Trace.{Event, Item, still_running, begun_by}
use Rattle.fk_trace.specs.Trace.Event.{Turn, Began, StartFailed, Ended, Runs, PollFailed}
use Rattle.fk_host.specs.declared.host.ChildId.{ChildId}
use Rattle.fk_host.specs.declared.host.StartErr.{StartErr}
use Rattle.fk_host.specs.declared.host.StartErr.TheVariants.{Failed as NotStarted, NoMemory}
use Rattle.fk_host.specs.Count.{counted}
use Rattle.fk_host.specs.Disk.{Areas, Told, Above, IfTold, Passes, Same}

-- what a start has brought, by its answer: nothing where memory was wanting
abbrev pub brought_by_start : Purpose → List (List ℕ) → Result ChildId StartErr → Option Event
brought_by_start purpose words (Ok child) = Some (Began child.0 purpose words)
brought_by_start purpose words (Err NotStarted) = Some (StartFailed purpose words)
brought_by_start purpose words (Err NoMemory) = None

-- what a poll of the child of this number has brought, by its answer
abbrev pub brought_by_poll : ℕ → Result (Option Bool) Failed → Option Event
brought_by_poll number (Ok (Some good)) = Some (Ended number good)
brought_by_poll number (Ok None) = Some (Runs number)
brought_by_poll number (Err error) = Some (PollFailed number)

-- the item of an event, if there is one, with the counts as they stand after the call
abbrev pub items_of : Option Event → ℕ → ℕ → List Item
items_of None moments faults = []
items_of (Some event) moments faults = record { event = event; moments = moments; faults = faults } ∷ []

-- A call above the disk was made: it is one moment and leaves the areas, and the item of what it brought is the trace's new end.
pub record Brings (event : Option Event) (faults : ℕ) (old_images new_images : ℕ → Areas → Type 0) (old new : Told) : Type 0 where
  pub call : Passes Same Same old_images new_images old new
  pub trace : new.trace ≡ old.trace ++ items_of event new.moments faults

-- the same of a host, where it tells, with its disk's count of faults as it stands after the call
abbrev pub CallsAbove : {H : Type 0} (told : H → Option Told) (may_leave : H → ℕ → Areas → Type 0) (faults : H → ℕ) → Option Event → H → H → Type 0
CallsAbove told may_leave faults event old new = IfTold (told old) (told new) (Brings event (faults new) (may_leave old) (may_leave new))

-- the event is a failed start or a failed poll
abbrev pub is_host_fault : Event → Bool
is_host_fault (Turn number) = false
is_host_fault (Began number purpose words) = false
is_host_fault (StartFailed purpose words) = true
is_host_fault (Ended number good) = false
is_host_fault (Runs number) = false
is_host_fault (PollFailed number) = true

-- the number of the child that began last, after an event
abbrev pub last_child_after : Event → ℕ → ℕ
last_child_after (Turn number) last = last
last_child_after (Began number purpose words) last = number
last_child_after (StartFailed purpose words) last = last
last_child_after (Ended number good) last = last
last_child_after (Runs number) last = last
last_child_after (PollFailed number) last = last

-- What is said above the disk after an event: the children run that the trace says to run, and each failed start and poll is
-- counted once.
abbrev pub above_after : Event → Above → Above
above_after event above = record {
  running = still_running event above.running ++ begun_by event;
  faults = if is_host_fault event then counted above.faults else above.faults;
  last_child = last_child_after event above.last_child;
}

-- the same after a call that may have brought nothing
abbrev pub above_by : Option Event → Above → Above
above_by None above = above
above_by (Some event) above = above_after event above

-- the child of this number was begun, and no poll has seen it to end
abbrev pub is_running : ℕ → Above → Bool
is_running number above = list_any (λ child. child.number == number) above.running
