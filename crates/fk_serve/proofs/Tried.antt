-- What a trial leaves, and that it ends well where nothing stands in its way.
use Rattle.std.proofs.Common.{◌≡◌, ◌≢◌, ◌⊎◌, ℕ, ◌+◌, Bool, true, false, List, Option, Some, None, ⊎_elim, refl, sym, subst, inl, inr, arith}
use Rattle.fk_base.specs.declared.status.Status.{Status}
use Rattle.fk_base.specs.declared.status.Status.TheVariants as status
use Rattle.fk_trace.specs.Decision.{FeedTurn}
use Rattle.fk_run.specs.Run.{Ending}
use Rattle.fk_run.specs.Run.Ending.{AtLimit, AtEnd, AtFeedFault, AtDiskFault, AtWantOfMemory, AtBadLine, AtLongInput, AtReadFault}
use Rattle.fk_input.specs.declared.fault.Fault.{Fault}
use Rattle.fk_input.specs.Lines.{Reads, input_limit, end, line, bad, long}
use Rattle.fk_log.specs.declared.verbosity.Verbosity.{Verbosity}
use Rattle.fk_log.specs.Causes.{FailsOnlyAs, FailsSink}
use Rattle.fk_conf.specs.declared.conf.Conf.{Conf}
use Rattle.fk_words.specs.declared.command.Command.TheVariants as command
use Rattle.fk_access.specs.declared.stanza.Stanza.{Stanza}
use Rattle.fk_child.specs.View.{View}
use Rattle.fk_daemon.specs.Outside.{FeedView}
use Rattle.fk_trial.specs.declared.task.TrialTask.{TrialTask}
use Rattle.fk_trial.specs.Lines.{IsTurnLine}
use Rattle.fk_trial.specs.Streams.{Streams, TakesAtMost}
use Rattle.fk_trial.specs.Trial.{HasStatus, HasTurns, Tries}
use Rattle.fk_serve.specs.Causes.{FailsByAnswer}
use Rattle.fk_serve.specs.Files.{Names, ReadsFiles}
use Rattle.fk_serve.specs.Private.{Bench, TellsFiles, TriesFiles, bench, listed_in}
use Rattle.fk_serve.specs.Ready.{EndsWell, HoldsTurns}
use Rattle.fk_serve.specs.Running.{RefusesFiles, Runs, TriesByFiles, trying_verbosity}
use Rattle.fk_program.specs.Files.{FilesView}
use Rattle.fk_serve.specs.World.{World}
use Rattle.fk_view.proofs.Viewed.{same-host}
use Rattle.fk_serve.proofs.Ended.{IsCalm}

-- an input has one fault at most, whatever its lines mean
faults-one : {T : Type 0} (IsLine : List ℕ → T → Type 0) → {offset number : ℕ} {ps : List (List ℕ)} {values others : List T} {fault other : Option Fault}
    → Reads IsLine offset number ps values fault → Reads IsLine offset number ps others other → fault ≡ other
faults-one IsLine end end = refl
faults-one IsLine (line within short is rest) (line within' short' is' rest') = faults-one IsLine rest rest'
faults-one IsLine (line within short is rest) (bad within' fault) = ⊎_elim (λ above. absurd (omega arith)) (λ none. absurd (none _ is)) fault
faults-one IsLine (line within short is rest) (long passes) = absurd (cc)
faults-one IsLine (bad within fault) (line within' short is rest) = ⊎_elim (λ above. absurd (omega arith)) (λ none. absurd (none _ is)) fault
faults-one IsLine (bad within fault) (bad within' fault') = refl
faults-one IsLine (bad within fault) (long passes) = absurd (cc)
faults-one IsLine (long passes) (line within short is rest) = absurd (cc)
faults-one IsLine (long passes) (bad within fault) = absurd (cc)
faults-one IsLine (long passes) (long passes') = refl

none_some : (fault : Fault) → (let none : Option Fault = None in none ≡ Some fault) → ⊥
none_some fault is = cc

run-ends : (ending : Ending) (is_broken : Bool) (answer : Status) (before after : Option (List ℕ)) (turns : List FeedTurn) → HasStatus ending is_broken answer
    → HasTurns ending before after turns → HoldsTurns before → IsCalm answer → EndsWell answer
run-ends AtEnd false answer before after turns is has holds calm = inl is
run-ends AtEnd true answer before after turns is has holds calm = absurd (calm.output is)
run-ends (AtBadLine number) is_broken answer None after turns is has holds calm = absurd holds
run-ends (AtBadLine number) is_broken answer (Some text) after turns is has holds calm = absurd (none_some _ (faults-one IsTurnLine holds.1 has))
run-ends (AtLongInput number) is_broken answer None after turns is has holds calm = absurd holds
run-ends (AtLongInput number) is_broken answer (Some text) after turns is has holds calm = absurd (none_some _ (faults-one IsTurnLine holds.1 has))
run-ends AtReadFault is_broken answer before after turns is has holds calm = absurd (calm.input is)
run-ends AtWantOfMemory is_broken answer before after turns is has holds calm = inr is
run-ends AtLimit is_broken answer before after turns is has holds calm = absurd is
run-ends AtFeedFault is_broken answer before after turns is has holds calm = absurd is
run-ends AtDiskFault is_broken answer before after turns is has holds calm = absurd is

-- what is tried ends well
pub trying-ends : (task : TrialTask) (old new : Streams) (answer : Status) → Tries task old new answer → HoldsTurns old.input.left → IsCalm answer → EndsWell answer
trying-ends task old new answer tries holds calm = run-ends tries.run.ending tries.is_broken answer old.input.left new.input.left _ tries.answered tries.reading holds calm

-- an answer that is no fault of the files, the feed or the disk
pub record Spares (answer : Status) : Type 0 where
  pub files : answer ≢ status.FileFault
  pub feed : answer ≢ status.FeedFault
  pub disk : answer ≢ status.DiskFault

run-spares : (ending : Ending) (is_broken : Bool) (answer : Status) → HasStatus ending is_broken answer → Spares answer
run-spares AtEnd false answer is = record { files = λ e. let f = is in cc; feed = λ e. let f = is in cc; disk = λ e. let f = is in cc }
run-spares AtEnd true answer is = record { files = λ e. let f = is in cc; feed = λ e. let f = is in cc; disk = λ e. let f = is in cc }
run-spares (AtBadLine number) is_broken answer is = record { files = λ e. let f = is in cc; feed = λ e. let f = is in cc; disk = λ e. let f = is in cc }
run-spares (AtLongInput number) is_broken answer is = record { files = λ e. let f = is in cc; feed = λ e. let f = is in cc; disk = λ e. let f = is in cc }
run-spares AtReadFault is_broken answer is = record { files = λ e. let f = is in cc; feed = λ e. let f = is in cc; disk = λ e. let f = is in cc }
run-spares AtWantOfMemory is_broken answer is = record { files = λ e. let f = is in cc; feed = λ e. let f = is in cc; disk = λ e. let f = is in cc }
run-spares AtLimit is_broken answer is = absurd is
run-spares AtFeedFault is_broken answer is = absurd is
run-spares AtDiskFault is_broken answer is = absurd is

pub trying-spares : (task : TrialTask) (old new : Streams) (answer : Status) → Tries task old new answer → Spares answer
trying-spares task old new answer tries = run-spares tries.run.ending tries.is_broken answer tries.answered

-- both files were read and tried by
pub tried : (names : Names) (verbosity : Verbosity) (old new : FilesView) (before after : Streams) (answer : Status)
    (task : TrialTask) (conf : Conf) (stanzas : List Stanza) → ReadsFiles names conf stanzas old new → task.policy.conf.now ≡ conf → task.policy.access.now ≡ stanzas
    → task.verbosity ≡ verbosity → Tries task before after answer → TakesAtMost (input_limit + 1) before.input.left after.input.left
    → TriesFiles names verbosity (bench old before) (bench new after) answer
tried names verbosity old new before after answer task conf stanzas reads of_conf of_access told tries bound = record {
  task = task;
  told = told;
  files = subst (λ (c : Conf). ReadsFiles names c task.policy.access.now old new) (sym of_conf)
      (subst (λ (s : List Stanza). ReadsFiles names conf s old new) (sym of_access) reads);
  tries = tries;
  bound = bound;
}

-- tried by files of these names, or their fault told
abbrev pub TriesOrTells : Names → Verbosity → Bench → Bench → Status → Type 0
TriesOrTells names verbosity old new answer = TriesFiles names verbosity old new answer ⊎ TellsFiles names old new answer

-- a world of these, where a call is handed the files and the streams alone
abbrev pub tried_in : FeedView → View → Bench → World
tried_in feed host at = listed_in at.files feed at.streams.input host at.streams.output

around : (feed : FeedView) (host : View) (names : Names) (verbosity : Verbosity) (old new : Bench) (answer : Status) → TriesOrTells names verbosity old new answer
    → TriesByFiles names verbosity (tried_in feed host old) (tried_in feed host new) answer ⊎ RefusesFiles names (tried_in feed host old) (tried_in feed host new) answer
around feed host names verbosity old new answer came =
    elim came [
      | inl tries ↦ inl (record { task = tries.task; told = tries.told; files = tries.files; feed = refl; host = same-host host; tries = tries.tries; bound = tries.bound })
      | inr tells ↦ inr (record { fault = tells.fault; fails = tells.fails; rest = record { feed = refl; host = same-host host; input = tells.input }; tells = tells.tells })
    ]

-- what the words of a trial were run with is what they say
pub asked-trial : (feed : FeedView) (host : View) (conf access : List ℕ) (quiet verbose : Bool) (names : Names) (verbosity : Verbosity) (old new : Bench) (answer : Status)
    → names.conf ≡ conf → names.access ≡ access → verbosity ≡ trying_verbosity quiet verbose → TriesOrTells names verbosity old new answer
    → Runs (command.Trial conf access quiet verbose) (tried_in feed host old) (tried_in feed host new) answer
asked-trial feed host conf access quiet verbose names verbosity old new answer of_conf of_access told came =
    let one : TriesOrTells (record { conf = conf; access = names.access }) verbosity old new answer =
    subst (λ (c : List ℕ). TriesOrTells (record { conf = c; access = names.access }) verbosity old new answer) of_conf came in
    let two : TriesOrTells (record { conf = conf; access = access }) verbosity old new answer =
    subst (λ (a : List ℕ). TriesOrTells (record { conf = conf; access = a }) verbosity old new answer) of_access one in
    around feed host (record { conf = conf; access = access }) (trying_verbosity quiet verbose) old new answer
    (subst (λ (v : Verbosity). TriesOrTells (record { conf = conf; access = access }) v old new answer) told two)

-- what a trial leaves of the counts
pub tried-counts : (feed : FeedView) (host : View) (old new : Bench) (answer : Status)
    → FailsOnlyAs status.FileFault answer old.files.faults new.files.faults → FailsOnlyAs status.ReadFault answer old.streams.input.faults new.streams.input.faults
    → FailsSink answer old.streams.output.faults new.streams.output.faults → answer ≢ status.FeedFault → answer ≢ status.DiskFault
    → FailsByAnswer answer (tried_in feed host old) (tried_in feed host new)
tried-counts feed host old new answer files input output no_feed no_disk = record {
  files = files;
  feed = inr (no_feed, refl);
  disk = inr (no_disk, refl);
  input = input;
  output = output;
}
