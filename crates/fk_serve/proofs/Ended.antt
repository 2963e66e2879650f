-- A run in whose way nothing stands ends well.
use Rattle.std.proofs.Common.{◌≡◌, ◌≢◌, ℕ, Bool, true, false, List, Option, Some, None, IsSome, IsSomeAnd, IfSome, refl, sym, subst, inl, inr, arith}
use Rattle.std.specs.Option.{option_map}
use Rattle.fk_base.specs.declared.status.Status.{Status}
use Rattle.fk_base.specs.declared.status.Status.TheVariants as status
use Rattle.fk_trace.specs.declared.change.Change.{Change}
use Rattle.fk_run.specs.Run.{Ending}
use Rattle.fk_run.specs.Run.Ending.{AtLimit, AtEnd, AtFeedFault, AtDiskFault, AtWantOfMemory, AtBadLine, AtLongInput, AtReadFault}
use Rattle.fk_host.specs.declared.files.HeldFile.{HeldFile}
use Rattle.fk_host.specs.Count.{counted, Rose}
use Rattle.fk_host.specs.Disk.{Areas, Told, IfTold}
use Rattle.fk_host.specs.Files.{bytes_of_file}
use Rattle.fk_log.specs.declared.verbosity.Verbosity.{Verbosity}
use Rattle.fk_log.specs.Causes.{FailsOnlyAs, FailsSink}
use Rattle.fk_ledger.specs.Holds.{HoldsLedger, IsLedgerDamagedAt}
use Rattle.fk_child.specs.View.{View}
use Rattle.fk_daemon.specs.declared.task.Task.{Task}
use Rattle.fk_daemon.specs.Outside.{Outside}
use Rattle.fk_daemon.proofs.Behind.{order}
use Rattle.fk_daemon.specs.Serving.{HasStatus, Serves, SaysWhyUnopened}
use Rattle.fk_conf.specs.ConfErr.{conf_fault}
use Rattle.fk_conf.specs.FaultNames.{conf_fault_name}
use Rattle.fk_access.specs.AccessFault.{access_fault}
use Rattle.fk_journal.specs.declared.fault.JournalErr.{JournalErr}
use Rattle.fk_journal.specs.declared.fault.JournalErr.TheVariants as journal
use Rattle.fk_program.specs.Faults.{Fault, fault_status}
use Rattle.fk_program.specs.Faults.Fault.{WrongWords, FileNotHeld, FileNotRead, WrongFile, WantsMemory}
use Rattle.fk_program.specs.Files.{FailsFile, FilesView}
use Rattle.fk_program.specs.Telling.{printed_status}
use Rattle.fk_view.specs.Viewing.{FailsToView, HoldsSome, view_status}
use Rattle.fk_view.proofs.Viewed.{NoneBoth, not_damaged}
use Rattle.fk_serve.specs.World.{World}
use Rattle.fk_serve.specs.FaultNames.{access_fault_name}
use Rattle.fk_serve.specs.Files.{Names, FailsFiles}
use Rattle.fk_serve.specs.Listing.{Lists}
use Rattle.fk_serve.specs.Running.{RefusesFiles}
use Rattle.fk_serve.specs.Causes.{FailsByAnswer}
use Rattle.fk_serve.specs.Ready.{CountsNone, EndsWell, HoldsRight}

-- a count with a fault more rose
rose-counted : (n : ℕ) → Rose n (counted n)
rose-counted n = elim (order 18446744073709551615 n) [
  | inl high ↦ (omega arith, inr (omega arith))
  | inr low ↦ (omega arith, inl (omega arith))
]

rose : (old new : ℕ) → new ≡ counted old → Rose old new
rose old new is = subst (λ (n : ℕ). Rose old n) (sym is) (rose-counted old)

not-only : (fault answer : Status) (old new : ℕ) → FailsOnlyAs fault answer old new → (Rose old new → ⊥) → answer ≢ fault
not-only fault answer old new only calm =
    elim only [
      | inl fails ↦ absurd (calm (rose old new fails.1))
      | inr stands ↦ stands.0
    ]

not-sink : (answer : Status) (old new : ℕ) → FailsSink answer old new → (Rose old new → ⊥) → answer ≢ status.SinkFault
not-sink answer old new fails calm = λ is. calm (rose old new (subst (λ (a : Status). FailsSink a old new) is fails))

-- the answer is no fault of an object
pub record IsCalm (answer : Status) : Type 0 where
  pub files : answer ≢ status.FileFault
  pub feed : answer ≢ status.FeedFault
  pub disk : answer ≢ status.DiskFault
  pub input : answer ≢ status.ReadFault
  pub output : answer ≢ status.SinkFault

pub calm : (answer : Status) (old new : World) → FailsByAnswer answer old new → CountsNone old new → IsCalm answer
calm answer old new fails none = record {
  files = not-only status.FileFault answer old.files.faults new.files.faults fails.files none.files;
  feed = not-only status.FeedFault answer old.outside.feed.faults new.outside.feed.faults fails.feed none.feed;
  disk = not-only status.DiskFault answer old.outside.host.faults new.outside.host.faults fails.disk none.disk;
  input = not-only status.ReadFault answer old.input.faults new.input.faults fails.input none.input;
  output = not-sink answer old.outside.sink.faults new.outside.sink.faults fails.output none.output;
}

run-ends : (ending : Ending) (is_broken : Bool) (answer : Status) → HasStatus ending is_broken answer → IsCalm answer → EndsWell answer
run-ends AtLimit false answer is calm = inl is
run-ends AtLimit true answer is calm = absurd (calm.output is)
run-ends AtEnd false answer is calm = inl is
run-ends AtEnd true answer is calm = absurd (calm.output is)
run-ends AtFeedFault is_broken answer is calm = absurd (calm.feed is)
run-ends AtDiskFault is_broken answer is calm = absurd (calm.disk is)
run-ends AtWantOfMemory is_broken answer is calm = inr is
run-ends (AtBadLine line) is_broken answer is calm = absurd is
run-ends (AtLongInput line) is_broken answer is calm = absurd is
run-ends AtReadFault is_broken answer is calm = absurd is

none-ends : (verbosity : Verbosity) (answer : Status) (is_broken : Bool) (old new : Outside) → SaysWhyUnopened verbosity answer is_broken old new
    → IsCalm answer → NoneBoth → HoldsSome old.host.told → IsSome new.host.told → EndsWell answer
none-ends verbosity status.DiskFault is_broken old new why calm none holds tells = absurd (calm.disk refl)
none-ends verbosity status.Damaged is_broken old new why calm none holds tells = absurd (not_damaged old.host.told new.host.told why.0 none holds tells why.1)
none-ends verbosity status.NoMemory is_broken old new why calm none holds tells = inr refl
none-ends verbosity status.Done is_broken old new why calm none holds tells = absurd why
none-ends verbosity status.Usage is_broken old new why calm none holds tells = absurd why
none-ends verbosity status.Config is_broken old new why calm none holds tells = absurd why
none-ends verbosity status.FileFault is_broken old new why calm none holds tells = absurd why
none-ends verbosity status.FeedFault is_broken old new why calm none holds tells = absurd why
none-ends verbosity status.SinkFault is_broken old new why calm none holds tells = absurd why
none-ends verbosity status.ReadFault is_broken old new why calm none holds tells = absurd why
none-ends verbosity status.LinkFault is_broken old new why calm none holds tells = absurd why
none-ends verbosity status.EntropyFault is_broken old new why calm none holds tells = absurd why

-- what is served ends well
pub serving-ends : (task : Task) (old new : Outside) (answer : Status) → Serves task old new answer → IsCalm answer → NoneBoth
    → HoldsSome old.host.told → IsSome new.host.told → EndsWell answer
serving-ends task old new answer serves calm none holds tells =
    elim serves [
      | inl run ↦ run-ends run.account.run.ending run.is_broken answer run.answered calm
      | inr unopened ↦ none-ends task.verbosity answer unopened.is_broken old new unopened.why calm none holds tells
    ]

right-text : {X : Type 0} (test : List ℕ → Option X) (name text : List ℕ) (held : Option (List HeldFile)) → IfSome held (λ held. bytes_of_file name held ≡ Some text)
    → IsSomeAnd held (λ held. IsSomeAnd (bytes_of_file name held) (λ text. test text ≡ None)) → test text ≡ None
right-text test name text None is right = absurd right
right-text test name text (Some held) is right = subst (λ (found : Option (List ℕ)). IsSomeAnd found (λ text. test text ≡ None)) is right

none-told : {X : Type 0} (f : X → Fault) (found : Option X) (fault : Fault) → found ≡ None → option_map f found ≡ Some fault → ⊥
none-told f None fault is told = cc
none-told f (Some x) fault is told = cc

file-ends : {X : Type 0} (test : List ℕ → Option X) (f : X → Fault) (name : List ℕ) (fault : Fault) (old new : FilesView)
    → FailsFile (λ text. option_map f (test text)) name fault old new → HoldsRight test name old → IsCalm (fault_status fault) → EndsWell (fault_status fault)
file-ends test f name (FileNotHeld named) old new fails right calm = absurd (calm.files refl)
file-ends test f name (FileNotRead named) old new fails right calm = absurd (calm.files refl)
file-ends test f name (WrongFile named line what) old new fails right calm =
    absurd (none-told f (test fails.1.0) (WrongFile named line what) (right-text test name fails.1.0 old.held fails.1.1.held right) fails.1.2)
file-ends test f name WantsMemory old new fails right calm = inr refl
file-ends test f name (WrongWords why) old new fails right calm = absurd fails

-- no fault of a file is told
pub files-end : (names : Names) (fault : Fault) (old new : FilesView) → FailsFiles names fault old new → HoldsRight conf_fault names.conf old
    → HoldsRight access_fault names.access old → IsCalm (fault_status fault) → EndsWell (fault_status fault)
files-end names fault old new fails conf access calm =
    elim fails [
      | inl at_conf ↦ file-ends conf_fault (λ found. WrongFile names.conf found.0 (conf_fault_name found.1)) names.conf fault old new at_conf conf calm
      | inr at_access ↦ file-ends access_fault (λ found. WrongFile names.access found.0 (access_fault_name found.1)) names.access fault old new at_access.fails access calm
    ]

pub refused-ends : (names : Names) (old new : World) (answer : Status) → RefusesFiles names old new answer → HoldsRight conf_fault names.conf old.files
    → HoldsRight access_fault names.access old.files → IsCalm answer → EndsWell answer
refused-ends names old new answer refuses conf access calm =
    subst EndsWell (sym refuses.tells.answered)
    (files-end names refuses.fault old.files new.files refuses.fails conf access (subst IsCalm refuses.tells.answered calm))

pub printed-ends : (is_broken : Bool) (answer : Status) → answer ≡ printed_status is_broken → IsCalm answer → EndsWell answer
printed-ends false answer is calm = inl is
printed-ends true answer is calm = absurd (calm.output is)

view-ends : (why : JournalErr) (answer : Status) (old new : View) → FailsToView why old new → answer ≡ view_status why → IsCalm answer → NoneBoth
    → HoldsSome old.told → IsSome new.told → EndsWell answer
view-ends journal.Disk answer old new fails is calm none holds tells = absurd (calm.disk is)
view-ends (journal.Damaged place) answer old new fails is calm none holds tells = absurd (not_damaged old.told new.told place none holds tells fails.0)
view-ends journal.NoMemory answer old new fails is calm none holds tells = inr is

pub list-ends : (old new : World) (answer : Status) → Lists old new answer → IsCalm answer → NoneBoth → HoldsSome old.outside.host.told
    → IsSome new.outside.host.told → EndsWell answer
list-ends old new answer lists calm none holds tells =
    elim lists.came [
      | inl listed ↦ printed-ends listed.shows.is_broken answer listed.shows.answered calm
      | inr nothing ↦ view-ends nothing.fault answer old.outside.host new.outside.host nothing.fails nothing.tells.answered calm none holds tells
    ]
