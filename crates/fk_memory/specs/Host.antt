-- A host in memory: its disk, of which each call is kept, and the children above it.
use Rattle.std.specs.Prelude.{ℕ, ◌+◌, ◌==◌, ◌||◌, nat_lt, Bool, true, List, [], ◌∷◌, ◌++◌, length, find, if◌then◌else◌, Option, Some, None}
use Rattle.std.specs.List.{list_any}
use Rattle.fk_trace.specs.Trace.{Event, Item}
use Rattle.fk_host.specs.Count.{counted}
use Rattle.fk_host.specs.Disk.{Areas, Told, Above}
use Rattle.fk_host.specs.Host.{items_of, above_by}
use Rattle.fk_memory.specs.declared.host.FailingCall.{FailingCall}
use Rattle.fk_memory.specs.declared.host.Call.{Call}
use Rattle.fk_memory.specs.declared.host.Call.TheVariants.{Other}
use Rattle.fk_memory.specs.Area.{areas_after, MayLeave}
use Rattle.fk_memory.specs.Children.{Children, above_children, children_by}

-- where a host in memory stands
pub record HostState : Type 0 where
  -- what the areas were at first, all of it on the disk
  pub first : Areas
  -- each call of the host, one for each moment
  pub calls : List Call
  -- how many of them were calls of the disk, and those that are to fail
  pub disk_calls : ℕ
  pub failing : List FailingCall
  pub faults : ℕ
  -- what the calls for turns and children have brought, and the children
  pub trace : List Item
  pub children : Children
  -- It couldn't grow for its own record. From then on it tells nothing, each call of the disk and each poll fails, and no child is
  -- begun.
  pub is_short : Bool

-- what the host tells
abbrev pub told_of : HostState → Option Told
told_of host = if host.is_short then None else Some (record { areas = areas_after host.first host.calls; moments = length host.calls; trace = host.trace })

-- what a crash at each of its moments may leave
abbrev pub leaves_of : HostState → ℕ → Areas → Type 0
leaves_of host = MayLeave host.first host.calls

-- what it says of its children, whether it tells or not
abbrev pub above_of : HostState → Above
above_of host = above_children host.children

-- the next call of the disk is to fail
abbrev pub fails_next : HostState → Bool
fails_next host = host.is_short || list_any (λ failing. failing.call == host.disk_calls + 1) host.failing

abbrev pub done_by : Option FailingCall → ℕ
done_by None = 0
done_by (Some failing) = failing.done

-- How much the next call of the disk does where it fails: as much as it is told where it is first told to fail, or else nothing.
abbrev pub done_next : HostState → ℕ
done_next host = done_by (find (λ failing. failing.call == host.disk_calls + 1) host.failing)

-- a write that is made next and ends at this place is to fail: also where that is past 2^40
abbrev pub fails_to_write : HostState → ℕ → Bool
fails_to_write host end = fails_next host || nat_lt 1099511627776 end

-- the host after a call of its disk: it may be short then, or else the call is kept
abbrev pub after_disk_call : Call → Bool → Bool → HostState → HostState
after_disk_call call failed is_short host =
    if is_short then record host { faults = counted host.faults; is_short = true }
    else record host {
      calls = host.calls ++ call ∷ [];
      disk_calls = host.disk_calls + 1;
      faults = if failed then counted host.faults else host.faults;
    }

-- The host after a call above its disk that brought this. It may be short then, and counts only a fault of the call; or else the
-- call is kept.
abbrev pub after_call_above : Option Event → Bool → HostState → HostState
after_call_above event is_short host =
    if is_short then record host { is_short = true; children = record host.children { faults = (above_by event (above_of host)).faults } }
    else record host {
      calls = host.calls ++ Other ∷ [];
      trace = host.trace ++ items_of event (length host.calls + 1) host.faults;
      children = children_by event host.children;
    }
