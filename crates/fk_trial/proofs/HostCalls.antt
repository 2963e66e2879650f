-- What a call of a trial's host leaves of it.
use Rattle.std.proofs.Common.{◌≡◌, ℕ, Bool, false, IsTrue, List, [], ◌∷◌, ◌++◌, Option, Some, None, Result, Ok, Err, refl, sym, ap, ◌∙◌, subst, append-nil}
use Rattle.fk_base.specs.declared.memory.Failed.{Failed}
use Rattle.fk_base.specs.declared.purpose.Purpose.{Purpose}
use Rattle.fk_trace.specs.Trace.{Event, Item}
use Rattle.fk_trace.specs.Trace.Event.{Turn}
use Rattle.fk_host.specs.declared.host.ChildId.{ChildId}
use Rattle.fk_host.specs.declared.host.StartErr.{StartErr}
use Rattle.fk_host.specs.declared.host.StartErr.TheVariants.{Failed as NotStarted, NoMemory}
use Rattle.fk_memory.specs.declared.host.Call.{Call}
use Rattle.fk_host.specs.Host.{brought_by_start, brought_by_poll, items_of, is_running}
use Rattle.fk_memory.specs.Children.{Children, above_children, start_answer, poll_answer, children_after, children_by}
use Rattle.fk_memory.specs.Host.{HostState, after_disk_call, after_call_above}
use Rattle.fk_trial.specs.Replay.{no_children, children_behind, IsAnswer, AreAnswers, IsNewHost, IsReplay, IsTrialHost}

-- one answer more
pub answers-push : (children : Children) (items : List Item) (item : Item) → AreAnswers children items → IsAnswer (children_behind children items) item.event
    → AreAnswers children (items ++ item ∷ [])
answers-push children [] item answers last = (last, tt)
answers-push children (first ∷ items) item answers last = (answers.0, answers-push (children_after first.event children) items item answers.1 last)

pub behind-push : (children : Children) (items : List Item) (item : Item) → children_behind children (items ++ item ∷ []) ≡ children_after item.event (children_behind children items)
behind-push children [] item = refl
behind-push children (first ∷ items) item = behind-push (children_after first.event children) items item

pub new_host : (host : HostState) → IsNewHost host → IsTrialHost host
new_host host new told = record {
  answers = subst (λ (trace : List Item). AreAnswers no_children trace) (sym (ap (λ (h : HostState). h.trace) new)) tt;
  children = ap (λ (h : HostState). h.children) new ∙ ap (λ (trace : List Item). children_behind no_children trace) (sym (ap (λ (h : HostState). h.trace) new));
}

-- a host with the same trace and children
same_replay : (old new : HostState) → new.trace ≡ old.trace → new.children ≡ old.children → IsReplay old → IsReplay new
same_replay old new trace children replay = record {
  answers = subst (λ (items : List Item). AreAnswers no_children items) (sym trace) replay.answers;
  children = children ∙ replay.children ∙ ap (λ (items : List Item). children_behind no_children items) (sym trace);
}

-- a call of the disk
pub kept-disk : (call : Call) (failed : Bool) (old new : HostState) → new ≡ after_disk_call call failed new.is_short old → IsTrialHost old → IsTrialHost new
kept-disk call failed old new is keeps told =
    let here : new ≡ after_disk_call call failed false old = subst (λ (b : Bool). new ≡ after_disk_call call failed b old) told is in
    same_replay old new (ap (λ (h : HostState). h.trace) here) (ap (λ (h : HostState). h.children) here) (keeps (sym (ap (λ (h : HostState). h.is_short) here) ∙ told))

-- what a call brought, if anything, is an answer
abbrev pub MayAnswer : Option Event → Children → Type 0
MayAnswer None children = Unit {0}
MayAnswer (Some event) children = IsAnswer children event

-- the same trace and children with what a call brought
brought_replay : (event : Option Event) (moments faults : ℕ) (old new : HostState) → new.trace ≡ old.trace ++ items_of event moments faults
    → new.children ≡ children_by event old.children → MayAnswer event old.children → IsReplay old → IsReplay new
brought_replay None moments faults old new trace children answer replay = same_replay old new (trace ∙ append-nil old.trace) children replay
brought_replay (Some event) moments faults old new trace children answer replay =
    let item : Item = record { event = event; moments = moments; faults = faults } in
    let last : IsAnswer (children_behind no_children old.trace) event = subst (λ (cs : Children). IsAnswer cs event) replay.children answer in
    record {
      answers = subst (λ (items : List Item). AreAnswers no_children items) (sym trace) (answers-push no_children old.trace item replay.answers last);
      children = children ∙ ap (children_after event) replay.children ∙ sym (behind-push no_children old.trace item)
          ∙ ap (λ (items : List Item). children_behind no_children items) (sym trace);
    }

-- a call above the disk
kept-above : (event : Option Event) (old new : HostState) → new ≡ after_call_above event new.is_short old → (new.is_short ≡ false → MayAnswer event old.children)
    → IsTrialHost old → IsTrialHost new
kept-above event old new is answers keeps told =
    let here : new ≡ after_call_above event false old = subst (λ (b : Bool). new ≡ after_call_above event b old) told is in
    brought_replay event _ old.faults old new (ap (λ (h : HostState). h.trace) here) (ap (λ (h : HostState). h.children) here) (answers told)
    (keeps (sym (ap (λ (h : HostState). h.is_short) here) ∙ told))

pub kept-turn : (number : ℕ) (old new : HostState) → new ≡ after_call_above (Some (Turn number)) new.is_short old → IsTrialHost old → IsTrialHost new
kept-turn number old new is keeps = kept-above (Some (Turn number)) old new is (λ told. tt) keeps

start_answers : (purpose : Purpose) (words : List (List ℕ)) (result : Result ChildId StartErr) (children : Children) → result ≡ start_answer false children
    → MayAnswer (brought_by_start purpose words result) children
start_answers purpose words (Ok child) children is = sym is
start_answers purpose words (Err NotStarted) children is = sym is
start_answers purpose words (Err NoMemory) children is = tt

pub kept-start : (purpose : Purpose) (words : List (List ℕ)) (result : Result ChildId StartErr) (old new : HostState) → result ≡ start_answer new.is_short old.children
    → new ≡ after_call_above (brought_by_start purpose words result) new.is_short old → IsTrialHost old → IsTrialHost new
kept-start purpose words result old new answer is keeps =
    kept-above (brought_by_start purpose words result) old new is
    (λ told. start_answers purpose words result old.children (answer ∙ ap (λ (b : Bool). start_answer b old.children) told)) keeps

poll_answers : (number : ℕ) (result : Result (Option Bool) Failed) (children : Children) → IsTrue (is_running number (above_children children))
    → result ≡ poll_answer false number children → MayAnswer (brought_by_poll number result) children
poll_answers number (Ok None) children runs is = (runs, sym is)
poll_answers number (Ok (Some good)) children runs is = (runs, sym is)
poll_answers number (Err error) children runs is = (runs, sym is)

pub kept-poll : (number : ℕ) (result : Result (Option Bool) Failed) (old new : HostState) → IsTrue (is_running number (above_children old.children))
    → result ≡ poll_answer new.is_short number old.children → new ≡ after_call_above (brought_by_poll number result) new.is_short old → IsTrialHost old → IsTrialHost new
kept-poll number result old new runs answer is keeps =
    kept-above (brought_by_poll number result) old new is
    (λ told. poll_answers number result old.children runs (answer ∙ ap (λ (b : Bool). poll_answer b number old.children) told)) keeps
