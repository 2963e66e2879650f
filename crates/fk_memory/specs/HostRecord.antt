-- What a host in memory keeps of bytes, events and children in its own record, as contracts see it.
use Rattle.std.specs.Prelude.{ℕ, ◌≤◌}
use Rattle.fk_trace.specs.Trace.{Event}
use Rattle.fk_trace.specs.Trace.Event.{Turn, Began, StartFailed, Ended, Runs, PollFailed}
use Rattle.fk_host.specs.Disk.{Areas}
use Rattle.fk_memory.specs.declared.host.Texts.{Texts}
use Rattle.fk_memory.specs.declared.children.MemChildren.{MemChildren}
use Rattle.fk_memory.specs.declared.trace.HostEvent.{HostEvent}
use Rattle.fk_memory.specs.declared.trace.HostEvent.TheVariants.{Turn as TurnKept, Began as BeganKept, StartFailed as StartFailedKept, Ended as EndedKept, Runs as RunsKept, PollFailed as PollFailedKept}
use Rattle.fk_memory.specs.Children.{Children}

-- the bytes of three texts
abbrev pub texts : Texts → Areas
texts t = record { head = t.head.items; one = t.one.items; two = t.two.items }

-- what is kept of an event
abbrev pub event_of : HostEvent → Event
event_of (TurnKept number) = Turn number
event_of (BeganKept child purpose words) = Began child purpose words
event_of (StartFailedKept purpose words) = StartFailed purpose words
event_of (EndedKept child good) = Ended child good
event_of (RunsKept child) = Runs child
event_of (PollFailedKept child) = PollFailed child

-- what is kept of the children
abbrev pub children_of : MemChildren → Children
children_of kept = record {
  scripts = kept.scripts.items;
  turns = kept.turns;
  running = kept.running.items;
  begun = kept.begun;
  polls = kept.polls;
  failing = kept.failing.items;
  faults = kept.faults;
}

-- no count of calls is above this number
pub record CountsWithin (kept : MemChildren) (most : ℕ) : Type 0 where
  pub turns : kept.turns ≤ most
  pub begun : kept.begun ≤ most
  pub polls : kept.polls ≤ most
