-- What the trait asks of each call above a disk in memory, from what the call does to the host's record.
use Rattle.std.proofs.Common.{◌≡◌, ℕ, ◌+◌, ◌<◌, Bool, true, false, List, [], ◌∷◌, ◌++◌, length, refl, ap, ◌∙◌, sym, subst, arith, if◌then◌else◌, Option, Some, None, Result, Ok, Err, IfOk}
use Rattle.std.proofs.lemmas.List.{length_push}
use Rattle.fk_base.specs.declared.memory.Failed.{Failed}
use Rattle.fk_base.specs.declared.purpose.Purpose.{Purpose}
use Rattle.fk_trace.specs.Trace.{Event, Item}
use Rattle.fk_trace.specs.Trace.Event.{Turn, Began, StartFailed, Ended, Runs, PollFailed}
use Rattle.fk_host.specs.declared.host.ChildId.{ChildId}
use Rattle.fk_host.specs.declared.host.StartErr.{StartErr}
use Rattle.fk_memory.specs.declared.children.StartScript.{StartScript}
use Rattle.fk_memory.specs.declared.children.StartScript.TheVariants.{Fails, Never, Ends}
use Rattle.fk_memory.specs.declared.host.Call.TheVariants.{Other}
use Rattle.fk_host.specs.Disk.{Areas, Told, Passes, Same}
use Rattle.fk_host.specs.Host.{brought_by_start, brought_by_poll, items_of, Brings, CallsAbove, above_after, above_by}
use Rattle.fk_memory.specs.Children.{next_script, start_by, start_answer, poll_answer}
use Rattle.fk_memory.specs.Area.{MayLeave}
use Rattle.fk_memory.specs.Host.{HostState, told_of, leaves_of, above_of, after_call_above}
use Rattle.fk_memory.proofs.Moments.{told_after, other_passes}
use Rattle.fk_memory.proofs.DiskCalls.{if_told}
use Rattle.fk_memory.proofs.ChildEvents.{above_next}

-- what the traces are is no part of what a call does to the areas
with_traces : (t u : List Item) (Reads Leaves : Areas → Areas → Type 0) (a b : ℕ → Areas → Type 0) (x y : Told)
    → Passes Reads Leaves a b x y → Passes Reads Leaves a b (record x { trace = t }) (record y { trace = u })
with_traces t u Reads Leaves a b x y passes = record { moments = passes.moments; reads = passes.reads; past = passes.past; now = passes.now }

pub calls_above : (old new : HostState) (event : Option Event) → new ≡ after_call_above event new.is_short old → CallsAbove told_of leaves_of (λ h. h.faults) event old new
calls_above old new event state =
    if_told old new (Brings event new.faults (leaves_of old) (leaves_of new)) (λ told.
    let same : new ≡ after_call_above event false old = subst (λ (b : Bool). new ≡ after_call_above event b old) told state in
    let trace : List Item = old.trace ++ items_of event (length old.calls + 1) old.faults in (
      sym (ap (λ h. h.is_short) same) ∙ told,
      rw (ap (λ h. h.first) same, ap (λ h. h.calls) same, ap (λ h. h.trace) same, ap (λ h. h.faults) same) (record {
        call = with_traces old.trace trace Same Same (MayLeave old.first old.calls) (MayLeave old.first (old.calls ++ Other ∷ [])) (told_after [] old.first old.calls) (told_after [] old.first (old.calls ++ Other ∷ [])) (other_passes [] old.first old.calls);
        trace = ap (λ n. old.trace ++ items_of event n old.faults) (sym (length_push old.calls Other));
      }),
    ))

pub disk_same : (old new : HostState) (event : Option Event) → new ≡ after_call_above event new.is_short old → new.faults ≡ old.faults
disk_same old new event state = ap (λ h. h.faults) state ∙ same new.is_short
  where
    same : (b : Bool) → (after_call_above event b old).faults ≡ old.faults
    same true = refl
    same false = refl

pub turn_above : (old new : HostState) (number : ℕ) → new ≡ after_call_above (Some (Turn number)) new.is_short old → above_of new ≡ above_after (Turn number) (above_of old)
turn_above old new number state = ap above_of state ∙ by_turn new.is_short
  where
    by_turn : (b : Bool) → above_of (after_call_above (Some (Turn number)) b old) ≡ above_after (Turn number) (above_of old)
    by_turn true = above_next (Turn number) old.children refl
    by_turn false = above_next (Turn number) old.children refl

-- of a turn nothing is kept where the host is short
pub turn_state : (old new : HostState) (number : ℕ) → new ≡ (if new.is_short then record old { is_short = true } else after_call_above (Some (Turn number)) false old)
    → new ≡ after_call_above (Some (Turn number)) new.is_short old
turn_state old new number state = state ∙ by_turn new.is_short
  where
    by_turn : (b : Bool) → (if b then record old { is_short = true } else after_call_above (Some (Turn number)) false old) ≡ after_call_above (Some (Turn number)) b old
    by_turn true = refl
    by_turn false = refl

pub start_above : (old new : HostState) (purpose : Purpose) (words : List (List ℕ)) (result : Result ChildId StartErr) → result ≡ start_answer new.is_short old.children
    → new ≡ after_call_above (brought_by_start purpose words result) new.is_short old → above_of new ≡ above_by (brought_by_start purpose words result) (above_of old)
start_above old new purpose words result answer state = ap above_of state ∙ subst (λ (r : Result ChildId StartErr). above_of (after_call_above (brought_by_start purpose words r) new.is_short old) ≡ above_by (brought_by_start purpose words r) (above_of old)) (sym answer) (by_start new.is_short)
  where
    by_script : (script : StartScript) → next_script old.children.scripts ≡ script → let r = start_by script (old.children.begun + 1) in above_of (after_call_above (brought_by_start purpose words r) false old) ≡ above_by (brought_by_start purpose words r) (above_of old)
    by_script Fails is = above_next (StartFailed purpose words) old.children refl
    by_script Never is = above_next (Began (old.children.begun + 1) purpose words) old.children refl
    by_script (Ends after good) is = above_next (Began (old.children.begun + 1) purpose words) old.children refl

    by_start : (b : Bool) → let r = start_answer b old.children in above_of (after_call_above (brought_by_start purpose words r) b old) ≡ above_by (brought_by_start purpose words r) (above_of old)
    by_start true = refl
    by_start false = by_script (next_script old.children.scripts) refl

pub start_number : (old : HostState) (is_short : Bool) (result : Result ChildId StartErr) → result ≡ start_answer is_short old.children → IfOk result (λ child. (above_of old).last_child < child.0)
start_number old is_short result answer = subst (λ (r : Result ChildId StartErr). IfOk r (λ child. (above_of old).last_child < child.0)) (sym answer) (by_start is_short)
  where
    by_script : (script : StartScript) → IfOk (start_by script (old.children.begun + 1)) (λ child. old.children.begun < child.0)
    by_script Fails = tt
    by_script Never = omega arith
    by_script (Ends after good) = omega arith

    by_start : (b : Bool) → IfOk (start_answer b old.children) (λ child. (above_of old).last_child < child.0)
    by_start true = tt
    by_start false = by_script (next_script old.children.scripts)

pub poll_above : (old new : HostState) (number : ℕ) (result : Result (Option Bool) Failed) → result ≡ poll_answer new.is_short number old.children
    → new ≡ after_call_above (brought_by_poll number result) new.is_short old → above_of new ≡ above_by (brought_by_poll number result) (above_of old)
poll_above old new number result answer state = ap above_of state ∙ by_poll new.is_short result answer
  where
    by_poll : (b : Bool) (r : Result (Option Bool) Failed) → r ≡ poll_answer b number old.children → above_of (after_call_above (brought_by_poll number r) b old) ≡ above_by (brought_by_poll number r) (above_of old)
    by_poll true (Ok end) is = cc
    by_poll true (Err error) is = above_next (PollFailed number) old.children refl
    by_poll false (Ok None) is = above_next (Runs number) old.children refl
    by_poll false (Ok (Some good)) is = above_next (Ended number good) old.children refl
    by_poll false (Err error) is = above_next (PollFailed number) old.children refl
