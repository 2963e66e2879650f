-- The children of a host in memory. How they fare is scripted.
use Rattle.std.specs.Prelude.{◌≡◌, ℕ, ◌+◌, ◌-◌, ◌<◌, ◌≤◌, ◌==◌, ◌||◌, nat_le, Bool, true, not, List, [], ◌∷◌, ◌++◌, map, drop, find, Option, Some, None, Result, Ok, Err, if◌then◌else◌}
use Rattle.std.specs.List.{filter, list_any, AllByRecursion}
use Rattle.fk_base.specs.declared.memory.Failed.{Failed}
use Rattle.fk_trace.specs.Trace.{Event, Child}
use Rattle.fk_trace.specs.Trace.Event.{Turn, Began, StartFailed, Ended, Runs, PollFailed}
use Rattle.fk_host.specs.declared.host.ChildId.{ChildId}
use Rattle.fk_host.specs.declared.host.StartErr.{StartErr}
use Rattle.fk_host.specs.declared.host.StartErr.TheVariants.{Failed as NotStarted, NoMemory}
use Rattle.fk_memory.specs.declared.children.StartScript.{StartScript}
use Rattle.fk_memory.specs.declared.children.StartScript.TheVariants.{Fails, Never, Ends}
use Rattle.fk_memory.specs.declared.children.HeldChild.{HeldChild}
use Rattle.fk_host.specs.Count.{counted}
use Rattle.fk_host.specs.Disk.{Above}

-- where the children of a host in memory stand
pub record Children : Type 0 where
  -- how the next starts fare, in their order
  pub scripts : List StartScript
  -- how many turns have begun
  pub turns : ℕ
  -- the children that were begun and that no poll has seen to end
  pub running : List HeldChild
  -- how many children were begun; they are numbered from 1
  pub begun : ℕ
  -- how many polls were made, and the numbers of those that are to fail, counted from 1
  pub polls : ℕ
  pub failing : List ℕ
  -- how often a start or a poll has failed
  pub faults : ℕ

-- a child, without its script
abbrev pub child_of : HeldChild → Child
child_of held = record { number = held.number; purpose = held.purpose }

-- what is said of these children
abbrev pub above_children : Children → Above
above_children children = record { running = map child_of children.running; faults = children.faults; last_child = children.begun }

-- how the next start fares: past the scripts a child begins and ends well after one turn
abbrev pub next_script : List StartScript → StartScript
next_script [] = Ends 1 true
next_script (next ∷ scripts) = next

-- the answer of a start that fares so, where a child that begins gets this number
abbrev pub start_by : StartScript → ℕ → Result ChildId StartErr
start_by Fails number = Err NotStarted
start_by Never number = Ok (record { 0 = number })
start_by (Ends after good) number = Ok (record { 0 = number })

-- The answer of the next start. Where the host has become short, it is want of memory.
abbrev pub start_answer : Bool → Children → Result ChildId StartErr
start_answer is_short children = if is_short then Err NoMemory else start_by (next_script children.scripts) (children.begun + 1)

-- what a poll finds of a child of this script that began so many turns ago
abbrev pub end_by : StartScript → ℕ → Option Bool
end_by Fails turns = None
end_by Never turns = None
end_by (Ends after good) turns = if nat_le after turns then Some good else None

abbrev pub end_of : ℕ → Option HeldChild → Option Bool
end_of turns None = None
end_of turns (Some held) = end_by held.script (turns - held.turn)

-- The answer of the next poll, made of the child of this number. It fails where it is told to, and where the host has become
-- short.
abbrev pub poll_answer : Bool → ℕ → Children → Result (Option Bool) Failed
poll_answer is_short number children =
    if is_short || list_any (λ poll. poll == children.polls + 1) children.failing
    then Err (record {})
    else Ok (end_of children.turns (find (λ held. held.number == number) children.running))

-- the children after an event
abbrev pub children_after : Event → Children → Children
children_after (Turn number) children = record children { turns = children.turns + 1 }
children_after (Began number purpose words) children = record children {
  scripts = drop 1 children.scripts;
  running = children.running ++ record { number = number; purpose = purpose; script = next_script children.scripts; turn = children.turns } ∷ [];
  begun = children.begun + 1;
}
children_after (StartFailed purpose words) children = record children { scripts = drop 1 children.scripts; faults = counted children.faults }
children_after (Ended number good) children = record children {
  running = filter (λ held. not (held.number == number)) children.running;
  polls = children.polls + 1;
}
children_after (Runs number) children = record children { polls = children.polls + 1 }
children_after (PollFailed number) children = record children { polls = children.polls + 1; faults = counted children.faults }

-- the children after a call that may have brought nothing
abbrev pub children_by : Option Event → Children → Children
children_by None children = children
children_by (Some event) children = children_after event children

-- a child ends well after one turn, and began in one of so many turns
abbrev pub EndsWell : ℕ → HeldChild → Type 0
EndsWell turns held = (held.script ≡ Ends 1 true) × (held.turn ≤ turns)

-- nothing is scripted: no start and no poll is to fail, and each child ends well after one turn
pub record IsUnscripted (children : Children) : Type 0 where
  pub scripts : children.scripts ≡ []
  pub failing : children.failing ≡ []
  pub running : AllByRecursion (EndsWell children.turns) children.running

-- each child that runs began before the present turn
abbrev pub BeganEarlier : Children → Type 0
BeganEarlier children = AllByRecursion (λ held. held.turn < children.turns) children.running
