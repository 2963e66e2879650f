-- What the trace of a host in memory says where nothing is scripted: each answer is the one that its children give at that place.
use Rattle.std.specs.Prelude.{◌≡◌, false, IsTrue, List, [], ◌∷◌, Some, None, Ok, Err}
use Rattle.fk_trace.specs.Trace.{Event, Item}
use Rattle.fk_trace.specs.Trace.Event.{Turn, Began, StartFailed, Ended, Runs, PollFailed}
use Rattle.fk_host.specs.declared.host.StartErr.TheVariants.{Failed as NotStarted}
use Rattle.fk_host.specs.Host.{is_running}
use Rattle.fk_memory.specs.Children.{Children, above_children, start_answer, poll_answer, children_after}
use Rattle.fk_memory.specs.Host.{HostState}

-- the children of a new host: none, and nothing is scripted
abbrev pub no_children : Children
no_children = record { scripts = []; turns = 0; running = []; begun = 0; polls = 0; failing = []; faults = 0 }

-- the host was just made, with empty areas
abbrev pub IsNewHost : HostState → Type 0
IsNewHost host = host ≡ record {
  first = record { head = []; one = []; two = [] };
  calls = [];
  disk_calls = 0;
  failing = [];
  faults = 0;
  trace = [];
  children = no_children;
  is_short = false;
}

-- the children behind these items
abbrev pub children_behind : Children → List Item → Children
children_behind children [] = children
children_behind children (item ∷ items) = children_behind (children_after item.event children) items

-- the event is what a call brings where the children stand so; only a child that runs is polled
abbrev pub IsAnswer : Children → Event → Type 0
IsAnswer children (Turn number) = Unit {0}
IsAnswer children (Began number purpose words) = start_answer false children ≡ Ok (record { 0 = number })
IsAnswer children (StartFailed purpose words) = start_answer false children ≡ Err NotStarted
IsAnswer children (Ended number good) = IsTrue (is_running number (above_children children)) × (poll_answer false number children ≡ Ok (Some good))
IsAnswer children (Runs number) = IsTrue (is_running number (above_children children)) × (poll_answer false number children ≡ Ok None)
IsAnswer children (PollFailed number) = IsTrue (is_running number (above_children children)) × (poll_answer false number children ≡ Err (record {}))

-- each of these items, one after another
abbrev pub AreAnswers : Children → List Item → Type 0
AreAnswers children [] = Unit {0}
AreAnswers children (item ∷ items) = IsAnswer children item.event × AreAnswers (children_after item.event children) items

-- the trace of the host is one of answers, and its children stand behind it
pub record IsReplay (host : HostState) : Type 0 where
  pub answers : AreAnswers no_children host.trace
  pub children : host.children ≡ children_behind no_children host.trace

-- the host of a trial, unless it could not grow for its own record
abbrev pub IsTrialHost : HostState → Type 0
IsTrialHost host = host.is_short ≡ false → IsReplay host
