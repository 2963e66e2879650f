-- Calls of the program that follow one another over the same areas, and the history that they are.
use Rattle.std.specs.Prelude.{◌≡◌, ℕ, ◌<◌, ◌≤◌, List, [], ◌∷◌, ◌++◌, Option, Some, None, IsSomeAnd}
use Rattle.std.specs.List.{filter_map, AllZip, AllByRecursion}
use Rattle.fk_base.specs.declared.status.Status.{Status}
use Rattle.fk_trace.specs.declared.change.Change.{Change}
use Rattle.fk_trace.specs.Trace.{Item}
use Rattle.fk_run.specs.History.{Visit, IsHistory, left_in_the_end}
use Rattle.fk_host.specs.declared.disk.Disk.{Ghosts as DiskMeaning}
use Rattle.fk_host.specs.Disk.{Areas, Told, IfTold}
use Rattle.fk_log.specs.Printing.{SinkView}
use Rattle.fk_ledger.specs.Holds.{HoldsState}
use Rattle.fk_child.specs.View.{view_of}
use Rattle.fk_daemon.specs.declared.task.Task.{Task}
use Rattle.fk_daemon.specs.Outside.{FeedView}
use Rattle.fk_daemon.specs.Serving.{ServesRun}
use Rattle.fk_daemon.specs.Visits.{visit_of}
use Rattle.fk_trial.specs.Streams.{SourceView}
use Rattle.fk_program.specs.Files.{FilesView}
use Rattle.fk_serve.specs.World.{World}
use Rattle.fk_serve.specs.Running.{RunsWords}

-- what a run of the program is handed: the host, and what the other objects say of themselves
pub record Handed (H : Type 0) : Type 0 where
  pub files : FilesView
  pub input : SourceView
  pub feed : FeedView
  pub host : H
  pub output : SinkView

abbrev pub world_of : {H : Type 0} → DiskMeaning H → Handed H → World
world_of means handed = record {
  files = handed.files;
  input = handed.input;
  outside = record { feed = handed.feed; host = view_of means handed.host; sink = handed.output };
}

-- A call of the program, and a moment at which it was left: that of a crash in it, or its last.
pub record Call (H : Type 0) : Type 0 where
  pub words : List (List ℕ)
  pub old : Handed H
  pub new : Handed H
  pub answer : Status
  pub moment : ℕ

-- The program was run so, its host tells before the call and after it, and the moment is one of the call.
pub record IsCall {H : Type 0} (means : DiskMeaning H) (call : Call H) : Type 0 where
  pub runs : RunsWords call.words (world_of means call.old) (world_of means call.new) call.answer
  pub before : Told
  pub later : Told
  pub told_before : means.told call.old.host ≡ Some before
  pub told_later : means.told call.new.host ≡ Some later
  pub since : before.moments ≤ call.moment
  pub until : call.moment ≤ later.moments

-- an image that the host may have when the call begins; what a read gives then is one
abbrev pub IsAtEntry : {H : Type 0} → DiskMeaning H → Call H → Areas → Type 0
IsAtEntry means call image = IsSomeAnd (means.told call.old.host) (λ before. means.may_leave call.old.host before.moments image)

-- an image that a crash may leave at the moment at which the call was left
abbrev pub IsLeftBy : {H : Type 0} → DiskMeaning H → Call H → Areas → Type 0
IsLeftBy means call image = means.may_leave call.new.host call.moment image

-- Nothing but these calls changed the areas: each image that the host may have when a call begins is one that the call before it may
-- have left, and at the first call one of these. After a crash there is one image alone, and a read gives it.
abbrev pub FollowCalls : {H : Type 0} → DiskMeaning H → (Areas → Type 0) → List (Call H) → Type 0
FollowCalls means left [] = Unit {0}
FollowCalls means left (call ∷ later) = ((image : Areas) → IsAtEntry means call image → left image) × FollowCalls means (IsLeftBy means call) later

-- an image that may be left behind them, or, where there is no call, one of these
abbrev pub IsLeftAfter : {H : Type 0} → DiskMeaning H → (Areas → Type 0) → List (Call H) → Areas → Type 0
IsLeftAfter means left [] image = left image
IsLeftAfter means left (call ∷ later) image = IsLeftAfter means (IsLeftBy means call) later image

-- Calls of the program that follow one another over areas that hold the State of this ledger.
pub record AreCalls {H : Type 0} (means : DiskMeaning H) (found : List Change) (calls : List (Call H)) : Type 0 where
  pub each : AllByRecursion (IsCall means) calls
  pub follow : FollowCalls means (HoldsState found) calls

-- the visit is the serving run of the call, as it was left at that moment
pub record IsRunOf {H : Type 0} (means : DiskMeaning H) (call : Call H) (visit : Visit) : Type 0 where
  pub task : Task
  pub serves : ServesRun task (world_of means call.old).outside (world_of means call.new).outside call.answer
  pub count : ℕ
  pub is : visit ≡ visit_of serves.account call.moment count

-- By the moment at which it was left the call added no item to the host's trace: it was left before the first turn of its run, or it
-- served none.
pub record AddsNone {H : Type 0} (means : DiskMeaning H) (call : Call H) : Type 0 where
  pub items : List Item
  pub added : IfTold (means.told call.old.host) (means.told call.new.host) (λ before later. later.trace ≡ before.trace ++ items)
  pub none : AllByRecursion (λ item. call.moment < item.moments) items

-- what a call is of a history: one of its visits, or none
abbrev pub IsPart : {H : Type 0} → DiskMeaning H → Call H → Option Visit → Type 0
IsPart means call (Some visit) = IsRunOf means call visit
IsPart means call None = AddsNone means call

abbrev pub visits_of : List (Option Visit) → List Visit
visits_of parts = filter_map (λ part. part) parts

-- The calls are a history over this ledger: each is one of its visits, in their order, or was left before it added an item. And the
-- image holds the State of what its last visit left.
pub record AreHistory {H : Type 0} (means : DiskMeaning H) (found : List Change) (calls : List (Call H)) (image : Areas) : Type 0 where
  pub parts : List (Option Visit)
  pub each : AllZip (IsPart means) calls parts
  pub history : IsHistory found (visits_of parts)
  pub holds : HoldsState (left_in_the_end found (visits_of parts)) image
