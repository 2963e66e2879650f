-- Which counts of faults rose, by the answer of a run.
use Rattle.std.proofs.Common.{◌≡◌, ◌≢◌, ℕ, Bool, true, false, List, refl, sym, ap, subst, inl, inr}
use Rattle.fk_base.specs.declared.status.Status.{Status}
use Rattle.fk_base.specs.declared.status.Status.TheVariants as status
use Rattle.fk_run.specs.Run.{Ending}
use Rattle.fk_run.specs.Run.Ending.{AtLimit, AtEnd, AtFeedFault, AtDiskFault, AtWantOfMemory, AtBadLine, AtLongInput, AtReadFault}
use Rattle.fk_log.specs.declared.verbosity.Verbosity.{Verbosity}
use Rattle.fk_log.specs.Causes.{FailsOnlyAs, FailsSink}
use Rattle.fk_log.specs.Printing.{SinkView}
use Rattle.fk_child.specs.View.{View}
use Rattle.fk_daemon.specs.declared.task.Task.{Task}
use Rattle.fk_daemon.specs.Outside.{FeedView, Outside}
use Rattle.fk_daemon.specs.Serving.{HasStatus, Serves, SaysWhyUnopened}
use Rattle.fk_trial.specs.Streams.{SourceView}
use Rattle.fk_view.proofs.Viewed.{same-host}
use Rattle.fk_serve.specs.World.{World, LeavesRest}
use Rattle.fk_program.specs.Faults.{Fault, Tells, fault_of_words, fault_status}
use Rattle.fk_program.specs.Files.{FilesView}
use Rattle.fk_program.proofs.Counting.{Blames, fault-blames, file-count, shown-blames, shows-sink, tells-sink, words-spare-files}
use Rattle.fk_serve.specs.Files.{Names, FailsFiles, conf_test, access_test}
use Rattle.fk_serve.specs.Causes.{FailsByAnswer}
use Rattle.fk_serve.specs.Private.{served_in}
use Rattle.fk_serve.specs.Running.{PrintsOnly, RefusesFiles, RefusesWords}

-- a count stands still, and the answer is not its fault
pub still : (fault answer : Status) (old new : ℕ) → answer ≢ fault → new ≡ old → FailsOnlyAs fault answer old new
still fault answer old new not same = inr (not, same)

pub files-count : (names : Names) (fault : Fault) (old new : FilesView) → FailsFiles names fault old new → FailsOnlyAs status.FileFault (fault_status fault) old.faults new.faults
files-count names fault old new fails =
    elim fails [
      | inl conf ↦ file-count (conf_test names.conf) names.conf fault old new conf
      | inr access ↦ file-count (access_test names.access) names.access fault old new access.fails
    ]

-- the counts after the fault of a file was told
pub files-told : (names : Names) (fault : Fault) (answer : Status) (old new : World) → FailsFiles names fault old.files new.files → LeavesRest old new
    → Tells fault old.outside.sink new.outside.sink answer → FailsByAnswer answer old new
files-told names fault answer old new fails rest tells =
    let blames : Blames answer = subst Blames (sym tells.answered) (fault-blames fault) in
    record {
      files = subst (λ (a : Status). FailsOnlyAs status.FileFault a old.files.faults new.files.faults) (sym tells.answered) (files-count names fault old.files new.files fails);
      feed = inr (blames.feed, ap (λ (feed : FeedView). feed.faults) rest.feed);
      disk = inr (blames.disk, rest.host.faults);
      input = inr (blames.input, ap (λ (input : SourceView). input.faults) rest.input);
      output = tells-sink fault old.outside.sink new.outside.sink answer tells;
    }

-- what serving can answer
run-answers : (ending : Ending) (is_broken : Bool) (answer : Status) → HasStatus ending is_broken answer → (answer ≢ status.FileFault) × (answer ≢ status.ReadFault)
run-answers AtLimit false answer is = (λ e. let f = is in cc, λ e. let f = is in cc)
run-answers AtLimit true answer is = (λ e. let f = is in cc, λ e. let f = is in cc)
run-answers AtEnd false answer is = (λ e. let f = is in cc, λ e. let f = is in cc)
run-answers AtEnd true answer is = (λ e. let f = is in cc, λ e. let f = is in cc)
run-answers AtFeedFault is_broken answer is = (λ e. let f = is in cc, λ e. let f = is in cc)
run-answers AtDiskFault is_broken answer is = (λ e. let f = is in cc, λ e. let f = is in cc)
run-answers AtWantOfMemory is_broken answer is = (λ e. let f = is in cc, λ e. let f = is in cc)
run-answers (AtBadLine line) is_broken answer is = absurd is
run-answers (AtLongInput line) is_broken answer is = absurd is
run-answers AtReadFault is_broken answer is = absurd is

none-answers : (verbosity : Verbosity) (answer : Status) (is_broken : Bool) (old new : Outside) → SaysWhyUnopened verbosity answer is_broken old new
    → (answer ≢ status.FileFault) × (answer ≢ status.ReadFault)
none-answers verbosity status.DiskFault is_broken old new why = (λ e. cc, λ e. cc)
none-answers verbosity status.Damaged is_broken old new why = (λ e. cc, λ e. cc)
none-answers verbosity status.NoMemory is_broken old new why = (λ e. cc, λ e. cc)
none-answers verbosity status.Done is_broken old new why = absurd why
none-answers verbosity status.Usage is_broken old new why = absurd why
none-answers verbosity status.Config is_broken old new why = absurd why
none-answers verbosity status.FileFault is_broken old new why = absurd why
none-answers verbosity status.FeedFault is_broken old new why = absurd why
none-answers verbosity status.SinkFault is_broken old new why = absurd why
none-answers verbosity status.ReadFault is_broken old new why = absurd why
none-answers verbosity status.LinkFault is_broken old new why = absurd why
none-answers verbosity status.EntropyFault is_broken old new why = absurd why

pub serving-answers : (task : Task) (old new : Outside) (answer : Status) → Serves task old new answer → (answer ≢ status.FileFault) × (answer ≢ status.ReadFault)
serving-answers task old new answer serves =
    elim serves [
      | inl run ↦ run-answers run.account.run.ending run.is_broken answer run.answered
      | inr none ↦ none-answers task.verbosity answer none.is_broken old new none.why
    ]

-- the first fault of the files was told, and nothing but the output asked
pub refused-files : (names : Names) (fault : Fault) (answer : Status) (input : SourceView) (old new : FilesView) (outside : Outside) (sink : SinkView)
    → FailsFiles names fault old new → Tells fault outside.sink sink answer
    → RefusesFiles names (served_in input old outside) (served_in input new (record outside { sink = sink })) answer
refused-files names fault answer input old new outside sink fails tells = record {
  fault = fault;
  fails = fails;
  rest = record { feed = refl; host = same-host outside.host; input = refl };
  tells = tells;
}

pub refused-counts : (names : Names) (old new : World) (answer : Status) → RefusesFiles names old new answer → FailsByAnswer answer old new
refused-counts names old new answer refuses = files-told names refuses.fault answer old new refuses.fails refuses.rest refuses.tells

-- what a serving run leaves of the counts
pub served-counts : (task : Task) (answer : Status) (input : SourceView) (old new : FilesView) (before after : Outside) → new ≡ old → Serves task before after answer
    → FailsOnlyAs status.FeedFault answer before.feed.faults after.feed.faults → FailsOnlyAs status.DiskFault answer before.host.faults after.host.faults
    → FailsSink answer before.sink.faults after.sink.faults → FailsByAnswer answer (served_in input old before) (served_in input new after)
served-counts task answer input old new before after kept serves feed disk output =
    let not = serving-answers task before after answer serves in
    record {
      files = inr (not.0, ap (λ (files : FilesView). files.faults) kept);
      feed = feed;
      disk = disk;
      input = inr (not.1, refl);
      output = output;
    }

-- what printing a text leaves of the counts
pub printed-counts : (text : List ℕ) (old new : World) (answer : Status) → PrintsOnly text old new answer → FailsByAnswer answer old new
printed-counts text old new answer prints =
    let not = shown-blames prints.shows.is_broken answer prints.shows.answered in
    record {
      files = inr (not.0, ap (λ (files : FilesView). files.faults) prints.files);
      feed = inr (not.1.feed, ap (λ (feed : FeedView). feed.faults) prints.rest.feed);
      disk = inr (not.1.disk, prints.rest.host.faults);
      input = inr (not.1.input, ap (λ (input : SourceView). input.faults) prints.rest.input);
      output = shows-sink text old.outside.sink new.outside.sink answer prints.shows;
    }

-- what words that are refused leave of the counts
pub words-counts : (words : List (List ℕ)) (old new : World) (answer : Status) → RefusesWords words old new answer → FailsByAnswer answer old new
words-counts words old new answer refuses =
    let not : (answer ≢ status.FileFault) × Blames answer =
    subst (λ (a : Status). (a ≢ status.FileFault) × Blames a) (sym refuses.tells.answered) (words-spare-files refuses.fault, fault-blames (fault_of_words refuses.fault)) in
    record {
      files = inr (not.0, ap (λ (files : FilesView). files.faults) refuses.files);
      feed = inr (not.1.feed, ap (λ (feed : FeedView). feed.faults) refuses.rest.feed);
      disk = inr (not.1.disk, refuses.rest.host.faults);
      input = inr (not.1.input, ap (λ (input : SourceView). input.faults) refuses.rest.input);
      output = tells-sink (fault_of_words refuses.fault) old.outside.sink new.outside.sink answer refuses.tells;
    }
