-- Calls of the program that follow one another are a history, and none of them finds its areas damaged.
use Rattle.std.proofs.Common.{◌≡◌, ◌≢◌, ◌⊎◌, ℕ, ◌<◌, ◌≤◌, Bool, true, false, List, [], ◌∷◌, ◌++◌, Option, Some, None, refl, sym, ap, ◌∙◌, subst, inl, inr, arith, append_assoc, append-nil}
use Rattle.std.specs.Prelude.{IfSome, IsSomeAnd}
use Rattle.std.specs.List.{filter_map, AllZip, AllByRecursion, Contains}
use Rattle.std.proofs.lemmas.List.Elements.{filter_map-append}
use Rattle.fk_base.specs.declared.status.Status.{Status}
use Rattle.fk_base.specs.declared.status.Status.TheVariants as status
use Rattle.fk_trace.specs.declared.change.Change.{Change}
use Rattle.fk_trace.specs.Trace.{Item}
use Rattle.fk_trace.specs.Ledger.{IsLedger, state_of}
use Rattle.fk_trace.proofs.Lists.{Contains-cases}
use Rattle.fk_run.specs.Run.{Ending, trace_of}
use Rattle.fk_run.specs.Run.Ending.{AtLimit, AtEnd, AtFeedFault, AtDiskFault, AtWantOfMemory, AtBadLine, AtLongInput, AtReadFault}
use Rattle.fk_run.specs.History.{Visit, IsVisit, IsHistory, ledger_left, left_in_the_end}
use Rattle.fk_run.proofs.Histories.{history-next, left-last}
use Rattle.fk_host.specs.declared.disk.Disk.{Ghosts as DiskMeaning}
use Rattle.fk_host.specs.Disk.{Areas, Told, IfTold, LeavesAreas}
use Rattle.fk_words.specs.declared.command.Command.{Command}
use Rattle.fk_words.specs.declared.command.Command.TheVariants as command
use Rattle.fk_log.specs.declared.verbosity.Verbosity.{Verbosity}
use Rattle.fk_journal.specs.declared.fault.JournalErr.{JournalErr}
use Rattle.fk_journal.specs.declared.fault.JournalErr.TheVariants as journal
use Rattle.fk_ledger.specs.Holds.{HoldsLedger, HoldsState, IsLedgerDamagedAt}
use Rattle.fk_ledger.proofs.LedgerLaws.{one_ledger, held_undamaged}
use Rattle.fk_child.specs.View.{View, AddsItems, view_of}
use Rattle.fk_daemon.specs.declared.task.Task.{Task}
use Rattle.fk_daemon.specs.Account.{Account}
use Rattle.fk_daemon.specs.Outside.{Outside}
use Rattle.fk_daemon.specs.Serving.{HasStatus, ServesRun, OpensInVain, OpensNoLedger, SaysWhyUnopened}
use Rattle.fk_daemon.specs.Visits.{KeepsState, visit_of}
use Rattle.fk_daemon.proofs.Behind.{order}
use Rattle.fk_daemon.proofs.Telling.{told-weaker}
use Rattle.fk_daemon.proofs.Visiting.{leaves-run, leaves-as_before}
use Rattle.fk_trial.specs.Trial.{HasStatus as HasTrialStatus}
use Rattle.fk_program.specs.Faults.{Fault, fault_status, fault_of_words}
use Rattle.fk_program.specs.Faults.Fault.{WrongWords, FileNotHeld, FileNotRead, WrongFile, WantsMemory}
use Rattle.fk_program.specs.Telling.{printed_status}
use Rattle.fk_view.specs.Viewing.{FailsToView, OnlyReads, SaysTheSame, view_status}
use Rattle.fk_serve.specs.World.{World}
use Rattle.fk_serve.specs.Listing.{Lists}
use Rattle.fk_serve.specs.Running.{Runs, RunsWords}
use Rattle.fk_serve.specs.Calls.{Handed, Call, IsCall, AreCalls, AreHistory, IsAtEntry, IsLeftBy, IsLeftAfter, FollowCalls, IsRunOf, AddsNone, IsPart, visits_of, world_of}

-- a fact of what is told, where both ends are known to tell
told-at : (F : Told → Told → Type 0) (s t : Option Told) (before later : Told) → s ≡ Some before → t ≡ Some later → IfTold s t F → F before later
told-at F s t before later e f h = subst (λ (x : Option Told). IfTold x (Some later) F) e (subst (λ (y : Option Told). IfTold s y F) f h)

told-so : (F : Told → Told → Type 0) (s t : Option Told) (before later : Told) → s ≡ Some before → t ≡ Some later → F before later → IfTold s t F
told-so F s t before later e f h = subst (λ (y : Option Told). IfTold s y F) (sym f) (subst (λ (x : Option Told). IfTold x (Some later) F) (sym e) h)

zip-push : {A B : Type 0} (R : A → B → Type 0) (xs : List A) (ys : List B) (x : A) (y : B) → AllZip R xs ys → R x y → AllZip R (xs ++ x ∷ []) (ys ++ y ∷ [])
zip-push R [] [] x y z h = (h, tt)
zip-push R [] (b ∷ ys) x y z h = absurd z
zip-push R (a ∷ xs) [] x y z h = absurd z
zip-push R (a ∷ xs) (b ∷ ys) x y z h = (z.0, zip-push R xs ys x y z.1 h)

-- the answer `damaged` has its cause
damaged-run : (ending : Ending) (is_broken : Bool) → HasStatus ending is_broken status.Damaged → ⊥
damaged-run AtLimit false is = absurd cc
damaged-run AtLimit true is = absurd cc
damaged-run AtEnd false is = absurd cc
damaged-run AtEnd true is = absurd cc
damaged-run AtFeedFault is_broken is = absurd cc
damaged-run AtDiskFault is_broken is = absurd cc
damaged-run AtWantOfMemory is_broken is = absurd cc
damaged-run (AtBadLine line) is_broken is = absurd is
damaged-run (AtLongInput line) is_broken is = absurd is
damaged-run AtReadFault is_broken is = absurd is

damaged-trial : (ending : Ending) (is_broken : Bool) → HasTrialStatus ending is_broken status.Damaged → ⊥
damaged-trial AtLimit is_broken is = absurd is
damaged-trial AtEnd false is = absurd cc
damaged-trial AtEnd true is = absurd cc
damaged-trial AtFeedFault is_broken is = absurd is
damaged-trial AtDiskFault is_broken is = absurd is
damaged-trial AtWantOfMemory is_broken is = absurd cc
damaged-trial (AtBadLine line) is_broken is = absurd cc
damaged-trial (AtLongInput line) is_broken is = absurd cc
damaged-trial AtReadFault is_broken is = absurd cc

damaged-fault : (fault : Fault) → status.Damaged ≡ fault_status fault → ⊥
damaged-fault (WrongWords why) is = absurd cc
damaged-fault (FileNotHeld name) is = absurd cc
damaged-fault (FileNotRead name) is = absurd cc
damaged-fault (WrongFile name line what) is = absurd cc
damaged-fault WantsMemory is = absurd cc

damaged-print : (is_broken : Bool) → status.Damaged ≡ printed_status is_broken → ⊥
damaged-print false is = absurd cc
damaged-print true is = absurd cc

-- where the areas were damaged
abbrev DamagedBefore : View → View → Type 0
DamagedBefore old new = (place : ℕ) × IfTold old.told new.told (λ before later. IsLedgerDamagedAt before.areas place)

damaged-view : (fault : JournalErr) (old new : View) → FailsToView fault old new → status.Damaged ≡ view_status fault → DamagedBefore old new
damaged-view journal.Disk old new fails is = absurd cc
damaged-view (journal.Damaged place) old new fails is = (place, fails.0)
damaged-view journal.NoMemory old new fails is = absurd cc

damaged-runs : (asked : Command) (old new : World) → Runs asked old new status.Damaged → DamagedBefore old.outside.host new.outside.host
damaged-runs (command.Serve conf access packets turns verbose) old new runs =
    elim runs [
      | inl serves ↦ elim serves.serves [
        | inl run ↦ absurd (damaged-run run.account.run.ending run.is_broken run.answered)
        | inr unopened ↦ (unopened.why.0, unopened.why.1)
      ]
      | inr refuses ↦ absurd (damaged-fault refuses.fault refuses.tells.answered)
    ]
damaged-runs (command.Trial conf access quiet verbose) old new runs =
    elim runs [
      | inl tries ↦ absurd (damaged-trial tries.tries.run.ending tries.tries.is_broken tries.tries.answered)
      | inr refuses ↦ absurd (damaged-fault refuses.fault refuses.tells.answered)
    ]
damaged-runs command.List old new runs =
    elim runs.came [
      | inl lists ↦ absurd (damaged-print lists.shows.is_broken lists.shows.answered)
      | inr nothing ↦ damaged-view nothing.fault old.outside.host new.outside.host nothing.fails nothing.tells.answered
    ]
damaged-runs (command.Send send) old new runs = absurd runs
damaged-runs command.KeyGen old new runs = absurd runs
damaged-runs (command.Encode file name) old new runs = absurd runs
damaged-runs (command.Decode file name) old new runs = absurd runs
damaged-runs command.Journal old new runs = absurd runs
damaged-runs (command.Generate count) old new runs = absurd runs
damaged-runs command.Help old new runs = absurd (damaged-print runs.shows.is_broken runs.shows.answered)
damaged-runs command.Version old new runs = absurd (damaged-print runs.shows.is_broken runs.shows.answered)

damaged-words : (words : List (List ℕ)) (old new : World) → RunsWords words old new status.Damaged → DamagedBefore old.outside.host new.outside.host
damaged-words words old new runs =
    elim runs [
      | inl asked ↦ damaged-runs asked.command old new asked.runs
      | inr refused ↦ absurd (damaged-fault (fault_of_words refused.fault) refused.tells.answered)
    ]

module _ {H : Type 0} (means : DiskMeaning H) where
  -- the call was a run over the ledger that a read gave when it began, and the image is what is left of it
  record CameAsVisit (call : Call H) (is : IsCall means call) (image : Areas) : Type 0 where
    visit : Visit
    of : IsRunOf means call visit
    legal : IsVisit visit
    found : HoldsLedger is.before.areas visit.run.ledger
    holds : HoldsState (ledger_left visit) image

  -- the call added no item, and the image keeps the State of one that stood when it began
  record CameAsNone (call : Call H) (image : Areas) : Type 0 where
    none : AddsNone means call
    from : Areas
    entry : IsAtEntry means call from
    keeps : KeepsState from image

  abbrev Came : (call : Call H) → IsCall means call → Areas → Type 0
  Came call is image = CameAsVisit call is image ⊎ CameAsNone call image

  module _ (reads : (disk : H) → IfSome (means.told disk) (λ now. means.may_leave disk now.moments now.areas)) (call : Call H) (is : IsCall means call) where
    abbrev before_it : View
    before_it = view_of means call.old.host

    abbrev after_it : View
    after_it = view_of means call.new.host

    at-entry : (image : Areas) → means.may_leave call.old.host is.before.moments image → IsAtEntry means call image
    at-entry image stood = subst (λ (told : Option Told). IsSomeAnd told (λ before. means.may_leave call.old.host before.moments image)) (sym is.told_before) stood

    -- what a read gives when it begins is such an image
    read-at_entry : IsAtEntry means call is.before.areas
    read-at_entry = at-entry is.before.areas (subst (λ (told : Option Told). IfSome told (λ now. means.may_leave call.old.host now.moments now.areas)) is.told_before (reads call.old.host))

    none-added : IfTold before_it.told after_it.told (λ before later. later.trace ≡ before.trace) → AddsNone means call
    none-added same = record {
      items = [];
      added = told-weaker before_it.told after_it.told (λ before later. later.trace ≡ before.trace) (λ before later. later.trace ≡ before.trace ++ []) (λ x y e. e ∙ sym (append-nil x.trace)) same;
      none = tt;
    }

    came-itself : (image : Areas) → AddsNone means call → means.may_leave call.old.host is.before.moments image → CameAsNone call image
    came-itself image none stood = record { none = none; from = image; entry = at-entry image stood; keeps = λ ledger state. state }

    -- a serving run
    came-run : (image : Areas) → IsLeftBy means call image → (task : Task) → ServesRun task (world_of means call.old).outside (world_of means call.new).outside call.answer → Came call is image
    came-run image left task serves =
        let account : Account = serves.account in
        let leaves = told-at _ before_it.told after_it.told is.before is.later is.told_before is.told_later (leaves-run task account before_it after_it serves.serving serves.host) call.moment image is.since is.until left in
        elim leaves [
          | inl visit ↦ inl (record {
            visit = visit_of account call.moment visit.count;
            of = record { task = task; serves = serves; count = visit.count; is = refl };
            legal = visit.is;
            found = told-at (λ before later. HoldsLedger before.areas account.run.ledger) before_it.told after_it.told is.before is.later is.told_before is.told_later serves.host.found;
            holds = visit.holds;
          })
          | inr none ↦ inr (record {
            none = record {
              items = trace_of account.run;
              added = told-weaker before_it.told after_it.told (AddsItems (trace_of account.run)) (λ before later. later.trace ≡ before.trace ++ trace_of account.run) (λ x y adds. adds.trace) serves.host.trace;
              none = none.none;
            };
            from = none.as_before.0;
            entry = at-entry none.as_before.0 none.as_before.1;
            keeps = none.as_before.2;
          })
        ]

    -- an opening that failed
    came-vain : (image : Areas) → IsLeftBy means call image → OpensInVain before_it after_it → CameAsNone call image
    came-vain image left vain =
        let leaves = told-at _ before_it.told after_it.told is.before is.later is.told_before is.told_later (leaves-as_before before_it after_it (reads call.old.host) vain) call.moment image is.since is.until left in
        record { none = none-added vain.trace; from = leaves.0; entry = at-entry leaves.0 leaves.1; keeps = leaves.2 }

    -- a call that asked nothing of the host
    came-same : (image : Areas) → IsLeftBy means call image → SaysTheSame before_it after_it → CameAsNone call image
    came-same image left same =
        let later : is.later ≡ is.before = let told = same.told in let e = is.told_before in let f = is.told_later in cc in
        let low = is.since in
        let high = is.until in
        let moments = ap (λ (told : Told). told.moments) later in
        let moment : call.moment ≡ is.before.moments = omega arith in
        let stood : means.may_leave call.old.host call.moment image = (same.images call.moment image).0 left in
        came-itself image
        (none-added (told-so (λ before later. later.trace ≡ before.trace) before_it.told after_it.told is.before is.later is.told_before is.told_later (ap (λ (told : Told). told.trace) later)))
        (subst (λ (k : ℕ). means.may_leave call.old.host k image) moment stood)

    -- a call that only read
    came-reads : (image : Areas) → IsLeftBy means call image → OnlyReads before_it after_it → CameAsNone call image
    came-reads image left reading =
        let areas : LeavesAreas before_it.images after_it.images is.before is.later = told-at (LeavesAreas before_it.images after_it.images) before_it.told after_it.told is.before is.later is.told_before is.told_later reading.areas in
        let low = is.since in
        let stood : means.may_leave call.old.host is.before.moments image =
        elim (order call.moment is.before.moments) [
          | inl entry ↦
              let moment : call.moment ≡ is.before.moments = omega (arith, entry) in
              subst (λ (k : ℕ). means.may_leave call.old.host k image) moment ((areas.past call.moment image entry).0 left)
          | inr behind ↦ areas.each call.moment image behind is.until left
        ] in
        came-itself image (none-added reading.trace) stood

    came-runs : (image : Areas) → IsLeftBy means call image → (asked : Command) → Runs asked (world_of means call.old) (world_of means call.new) call.answer → Came call is image
    came-runs image left (command.Serve conf access packets turns verbose) runs =
        elim runs [
          | inl serves ↦ elim serves.serves [
            | inl run ↦ came-run image left serves.task run
            | inr unopened ↦ inr (came-vain image left unopened.calls)
          ]
          | inr refuses ↦ inr (came-same image left refuses.rest.host)
        ]
    came-runs image left (command.Trial conf access quiet verbose) runs =
        elim runs [
          | inl tries ↦ inr (came-same image left tries.host)
          | inr refuses ↦ inr (came-same image left refuses.rest.host)
        ]
    came-runs image left command.List runs = inr (came-reads image left runs.host)
    came-runs image left (command.Send send) runs = absurd runs
    came-runs image left command.KeyGen runs = absurd runs
    came-runs image left (command.Encode file name) runs = absurd runs
    came-runs image left (command.Decode file name) runs = absurd runs
    came-runs image left command.Journal runs = absurd runs
    came-runs image left (command.Generate count) runs = absurd runs
    came-runs image left command.Help runs = inr (came-same image left runs.rest.host)
    came-runs image left command.Version runs = inr (came-same image left runs.rest.host)

    came : (image : Areas) → IsLeftBy means call image → Came call is image
    came image left =
        elim is.runs [
          | inl asked ↦ came-runs image left asked.command asked.runs
          | inr refused ↦ inr (came-same image left refused.rest.host)
        ]

    -- one call more is one part more of the history
    next-visit : (found : List Change) (front : List (Call H)) (image : Areas) → AreHistory means found front is.before.areas → CameAsVisit call is image → AreHistory means found (front ++ call ∷ []) image
    next-visit found front image so_far came_so =
        let visits : List Visit = visits_of so_far.parts in
        let visit : Visit = came_so.visit in
        let held = so_far.holds in
        let one : visit.run.ledger ≡ held.0 = one_ledger is.before.areas visit.run.ledger held.0 came_so.found held.1 in
        let state : state_of visit.run.ledger ≡ state_of (left_in_the_end found visits) = ap state_of one ∙ held.2 in
        let joined : visits_of (so_far.parts ++ Some visit ∷ []) ≡ visits ++ visit ∷ [] = filter_map-append (λ (part : Option Visit). part) so_far.parts (Some visit ∷ []) in
        record {
          parts = so_far.parts ++ Some visit ∷ [];
          each = zip-push (IsPart means) front so_far.parts call (Some visit) so_far.each came_so.of;
          history = subst (λ (all : List Visit). IsHistory found all) (sym joined) (history-next found visits visit so_far.history came_so.legal state);
          holds = subst (λ (all : List Visit). HoldsState (left_in_the_end found all) image) (sym joined)
              (subst (λ (ledger : List Change). HoldsState ledger image) (sym (left-last found visits visit)) came_so.holds);
        }

    next-none : (found : List Change) (front : List (Call H)) (image : Areas) (came_so : CameAsNone call image) → AreHistory means found front came_so.from → AreHistory means found (front ++ call ∷ []) image
    next-none found front image came_so so_far =
        let visits : List Visit = visits_of so_far.parts in
        let joined : visits_of (so_far.parts ++ None ∷ []) ≡ visits = filter_map-append (λ (part : Option Visit). part) so_far.parts (None ∷ []) ∙ append-nil visits in
        record {
          parts = so_far.parts ++ None ∷ [];
          each = zip-push (IsPart means) front so_far.parts call None so_far.each came_so.none;
          history = subst (λ (all : List Visit). IsHistory found all) (sym joined) so_far.history;
          holds = subst (λ (all : List Visit). HoldsState (left_in_the_end found all) image) (sym joined) (came_so.keeps (left_in_the_end found visits) so_far.holds);
        }

    next-call : (found : List Change) (front : List (Call H)) → ((image : Areas) → IsAtEntry means call image → AreHistory means found front image)
        → (image : Areas) → IsLeftBy means call image → AreHistory means found (front ++ call ∷ []) image
    next-call found front so_far image left =
        elim (came image left) [
          | inl visit ↦ next-visit found front image (so_far is.before.areas read-at_entry) visit
          | inr none ↦ next-none found front image none (so_far none.from none.entry)
        ]

    -- what a read gives when it begins is a ledger, so it is not damaged
    never-damaged : (found : List Change) (front : List (Call H)) → ((image : Areas) → IsAtEntry means call image → AreHistory means found front image) → call.answer ≢ status.Damaged
    never-damaged found front so_far damaged =
        let held = (so_far is.before.areas read-at_entry).holds in
        let at = damaged-words call.words (world_of means call.old) (world_of means call.new) (subst (λ (answer : Status). RunsWords call.words (world_of means call.old) (world_of means call.new) answer) damaged is.runs) in
        held_undamaged is.before.areas held.0 at.0 held.1
        (told-at (λ before later. IsLedgerDamagedAt before.areas at.0) before_it.told after_it.told is.before is.later is.told_before is.told_later at.1)

  module _ (reads : (disk : H) → IfSome (means.told disk) (λ now. means.may_leave disk now.moments now.areas)) (found : List Change) where
    -- behind calls that are a history, by what they left
    calls-on : (front calls : List (Call H)) (left : Areas → Type 0) → ((image : Areas) → left image → AreHistory means found front image) → AllByRecursion (IsCall means) calls → FollowCalls means left calls
        → (image : Areas) → IsLeftAfter means left calls image → AreHistory means found (front ++ calls) image
    calls-on front [] left so_far each follow image at = subst (λ (calls : List (Call H)). AreHistory means found calls image) (sym (append-nil front)) (so_far image at)
    calls-on front (call ∷ calls) left so_far each follow image at =
        subst (λ (all : List (Call H)). AreHistory means found all image) (append_assoc front (call ∷ []) calls)
        (calls-on (front ++ call ∷ []) calls (IsLeftBy means call) (next-call reads call each.0 found front (λ entry stood. so_far entry (follow.0 entry stood))) each.1 follow.1 image at)

    damaged-on : (front calls : List (Call H)) (left : Areas → Type 0) → ((image : Areas) → left image → AreHistory means found front image) → AllByRecursion (IsCall means) calls → FollowCalls means left calls
        → (call : Call H) → Contains calls call → call.answer ≢ status.Damaged
    damaged-on front [] left so_far each follow call m = absurd (omega (arith, m.1))
    damaged-on front (first ∷ calls) left so_far each follow call m =
        let here : (image : Areas) → IsAtEntry means first image → AreHistory means found front image = λ entry stood. so_far entry (follow.0 entry stood) in
        elim (Contains-cases first calls call m) [
          | inl same ↦ subst (λ (one : Call H). one.answer ≢ status.Damaged) same (never-damaged reads first each.0 found front here)
          | inr later ↦ damaged-on (front ++ first ∷ []) calls (IsLeftBy means first) (next-call reads first each.0 found front here) each.1 follow.1 call later
        ]

    -- before any call
    begins-history : IsLedger found → (image : Areas) → HoldsState found image → AreHistory means found [] image
    begins-history is image holds = record { parts = []; each = tt; history = record { begins = is; visits = tt; follow = tt }; holds = holds }

    pub calls-history : (calls : List (Call H)) → IsLedger found → AreCalls means found calls → (image : Areas) → IsLeftAfter means (HoldsState found) calls image → AreHistory means found calls image
    calls-history calls is are image left = calls-on [] calls (HoldsState found) (begins-history is) are.each are.follow image left

    pub calls-undamaged : (calls : List (Call H)) → IsLedger found → AreCalls means found calls → (call : Call H) → Contains calls call → call.answer ≢ status.Damaged
    calls-undamaged calls is are call m = damaged-on [] calls (HoldsState found) (begins-history is) are.each are.follow call m
