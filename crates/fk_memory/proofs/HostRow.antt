-- A row of the host and the feed in memory, worked out by hand.
use Rattle.std.proofs.Common.{◌≡◌, true, false, List, [], ◌∷◌, Some, None, Ok, refl}
use Rattle.fk_base.specs.declared.purpose.Purpose.TheVariants.{Open, Close}
use Rattle.fk_trace.specs.Trace.{Event}
use Rattle.fk_trace.specs.Trace.Event.{Turn, Began, StartFailed, Ended, Runs}
use Rattle.fk_trace.specs.Decision.Input.{Quiet, Datagram}
use Rattle.fk_memory.specs.declared.children.StartScript.TheVariants.{Fails, Ends}
use Rattle.fk_host.specs.Host.{brought_by_start, brought_by_poll}
use Rattle.fk_memory.specs.Children.{Children, above_children, start_answer, poll_answer, children_after}
use Rattle.fk_memory.specs.Starts.{starts_of}
use Rattle.fk_memory.specs.Feed.{FeedState, given_by, after_next}

-- the first start is to fail, the second child to end badly after two turns
abbrev scripted : Children
scripted = record { scripts = Fails ∷ Ends 2 false ∷ []; turns = 0; running = []; begun = 0; polls = 0; failing = 3 ∷ []; faults = 0 }

abbrev after : List Event → Children → Children
after [] children = children
after (event ∷ events) children = after events (children_after event children)

first_start_fails : brought_by_start (Close 1) [] (start_answer false (after (Turn 1 ∷ []) scripted)) ≡ Some (StartFailed (Close 1) [])
first_start_fails = refl

second_start_begins : brought_by_start (Close 1) [] (start_answer false (after (Turn 1 ∷ StartFailed (Close 1) [] ∷ []) scripted)) ≡ Some (Began 1 (Close 1) [])
second_start_begins = refl

-- in the turn after its own the child runs, in the next one it has ended, and the third poll is to fail
abbrev begun : List Event → Children
begun events = after events (after (Turn 1 ∷ StartFailed (Close 1) [] ∷ Began 1 (Close 1) [] ∷ Turn 2 ∷ []) scripted)

still_runs : poll_answer false 1 (begun []) ≡ Ok None
still_runs = refl

has_ended : poll_answer false 1 (begun (Runs 1 ∷ Turn 3 ∷ [])) ≡ Ok (Some false)
has_ended = refl

third_fails : brought_by_poll 1 (poll_answer false 1 (begun (Runs 1 ∷ Turn 3 ∷ Runs 1 ∷ []))) ≡ brought_by_poll 1 (poll_answer true 1 (begun []))
third_fails = refl

is_forgotten : above_children (begun (Runs 1 ∷ Turn 3 ∷ Ended 1 false ∷ [])) ≡ record { running = []; faults = 1; last_child = 1 }
is_forgotten = refl

-- an open that failed and a close that began, among a turn and a poll; two calls of the disk stand before the first of them
two_starts : starts_of (
    record { event = Turn 1; moments = 1; faults = 0 }
    ∷ record { event = StartFailed (Open 7) []; moments = 4; faults = 0 }
    ∷ record { event = Began 1 (Close 7) []; moments = 5; faults = 0 }
    ∷ record { event = Runs 1; moments = 6; faults = 0 }
    ∷ []
    )
    ≡ (4, Open 7, false) ∷ (5, Close 7, true) ∷ []
two_starts = refl

-- of two turns the second call fails: the turn comes at the third, and then the end
abbrev two_turns : FeedState
two_turns = record {
  turns = record { moment = 5; input = Quiet } ∷ record { moment = 7; input = Datagram (record { 0 = 167772167 }) (107 ∷ []) } ∷ [];
  given = 0;
  fails_in = 2;
  port = Some 62201;
  has_ended = false;
  faults = 0;
}

both_are_given : given_by (after_next (after_next (after_next two_turns)))
    ≡ Some (record { turns = record { moment = 5; input = Quiet } ∷ record { moment = 7; input = Datagram (record { 0 = 167772167 }) (107 ∷ []) } ∷ []; port = Some 62201 })
both_are_given = refl

one_fault_is_counted : (after_next (after_next two_turns)).faults ≡ 1
one_fault_is_counted = refl

then_comes_the_end : (after_next (after_next (after_next (after_next two_turns)))).has_ended ≡ true
then_comes_the_end = refl
