-- Which counts of faults rose, by the answer of the tool.
use Rattle.std.proofs.Common.{◌≡◌, ◌≢◌, ℕ, ◌+◌, Bool, true, false, List, ◌++◌, length, Some, refl, sym, ap, subst, inl, inr}
use Rattle.fk_base.specs.declared.status.Status.{Status}
use Rattle.fk_base.specs.declared.status.Status.TheVariants as status
use Rattle.fk_journal.specs.declared.fault.JournalErr.{JournalErr}
use Rattle.fk_journal.specs.declared.fault.JournalErr.TheVariants as journal
use Rattle.fk_words.specs.declared.command.Command.{Command}
use Rattle.fk_words.specs.declared.command.Command.TheVariants as command
use Rattle.fk_words.specs.declared.word_fault.WordFault.{WordFault}
use Rattle.fk_log.specs.Causes.{FailsSink}
use Rattle.fk_log.specs.Printing.{Prints, SinkView}
use Rattle.fk_program.specs.Faults.{Tells, fault_of_words, fault_status}
use Rattle.fk_program.specs.Faults.Fault.{WantsMemory}
use Rattle.fk_program.specs.Files.{FilesView}
use Rattle.fk_program.specs.Telling.{Says, Shows, Stops}
use Rattle.fk_program.proofs.Counting.{Blames, fault-blames, file-count, shown-blames, shows-sink, tells-sink, told-sink, words-spare-files}
use Rattle.fk_program.proofs.Saying.{said-once}
use Rattle.fk_client.specs.ClientText.{keys_text}
use Rattle.fk_client.specs.Faults.{Fault, fault_text}
use Rattle.fk_client.specs.Faults.{fault_status as client_status, fault_text as client_text}
use Rattle.fk_client.specs.Faults.Fault.{Common, EntropyFails, LacksSetting, LinkFails}
use Rattle.fk_client.specs.Outside.{EntropyView}
use Rattle.fk_client.specs.Running.{FindsNoSealing, MakesKeys, rc_test}
use Rattle.fk_client.specs.declared.sealed.Sealing.{Sealing}
use Rattle.fk_view.specs.Viewing.{SaysTheSame}
use Rattle.fk_view.specs.Viewing.{FailsToView, view_status, view_text}
use Rattle.fk_tool.specs.Causes.{FailsByAnswer}
use Rattle.fk_tool.specs.Lines.{ShowsLines}
use Rattle.fk_tool.specs.Outside.{Outside, streams_of}
use Rattle.fk_tool.specs.Running.{OnlyPrints, PrintsJournal, ReadsNothing, Runs, RunsJob, RunsTool}
use Rattle.fk_tool.specs.Streams.{HasDrawn, HasInputCause, SourceView, last_text, stop_status}
use Rattle.fk_tool.specs.declared.job.Job.{Job}
use Rattle.fk_tool.specs.declared.job.Job.TheVariants.{Decode, Encode}
use Rattle.fk_tool.specs.declared.stop.Stop.{Stop}
use Rattle.fk_tool.specs.declared.stop.Stop.TheVariants as stop

-- the answer is no fault of the files, the entropy, the disk or the input
record Spares (answer : Status) : Type 0 where
  files : answer ≢ status.FileFault
  entropy : answer ≢ status.EntropyFault
  disk : answer ≢ status.DiskFault
  input : answer ≢ status.ReadFault

spares : (answer : Status) → answer ≢ status.FileFault → Blames answer → Spares answer
spares answer files blames = record { files = files; entropy = blames.entropy; disk = blames.disk; input = blames.input }

spares-lines : {IsText : ℕ → List ℕ → Type 0} (count : ℕ) (old new : SinkView) (answer : Status) → ShowsLines IsText count old new answer → Spares answer
spares-lines count old new answer shows =
    elim shows [
      | inl all ↦ let is = all.0 in record { files = λ e. cc; entropy = λ e. cc; disk = λ e. cc; input = λ e. cc }
      | inr less ↦ elim less [
        | inl broken ↦ let is = broken.0 in record { files = λ e. cc; entropy = λ e. cc; disk = λ e. cc; input = λ e. cc }
        | inr short ↦ let is = short.0 in record { files = λ e. cc; entropy = λ e. cc; disk = λ e. cc; input = λ e. cc }
      ]
    ]

-- the output's count after lines
pub lines-sink : {IsText : ℕ → List ℕ → Type 0} (count : ℕ) (old new : SinkView) (answer : Status) → ShowsLines IsText count old new answer
    → FailsSink answer old.faults new.faults
lines-sink count old new answer shows =
    elim shows [
      | inl all ↦ subst (λ (a : Status). FailsSink a old.faults new.faults) (sym all.0) all.1.printed.1
      | inr less ↦ elim less [
        | inl broken ↦ subst (λ (a : Status). FailsSink a old.faults new.faults) (sym broken.0) broken.1.printed.printed.1
        | inr short ↦ subst (λ (a : Status). FailsSink a old.faults new.faults) (sym short.0) (inl short.1.printed.printed.1)
      ]
    ]

same-files : (old new : Outside) → ReadsNothing old new → new.files.faults ≡ old.files.faults
same-files old new reads = ap (λ (files : FilesView). files.faults) reads.files

same-input : (old new : Outside) → ReadsNothing old new → new.input.faults ≡ old.input.faults
same-input old new reads = ap (λ (input : SourceView). input.faults) reads.input

-- nothing but the output failed
calm-counts : (old new : Outside) (answer : Status) → Spares answer → ReadsNothing old new → new.entropy.faults ≡ old.entropy.faults → new.disk.faults ≡ old.disk.faults
    → FailsSink answer old.sink.faults new.sink.faults → FailsByAnswer answer old new
calm-counts old new answer spares reads entropy disk sink = record {
  files = inr (spares.files, same-files old new reads);
  entropy = inr (spares.entropy, entropy);
  disk = inr (spares.disk, disk);
  input = inr (spares.input, same-input old new reads);
  sink = sink;
}

only-counts : (old new : Outside) (answer : Status) → OnlyPrints old new → Spares answer → FailsSink answer old.sink.faults new.sink.faults → FailsByAnswer answer old new
only-counts old new answer only spares sink =
    calm-counts old new answer spares only.reads (ap (λ (entropy : EntropyView). entropy.faults) only.entropy) only.disk.faults sink

word-counts : (fault : WordFault) (old new : Outside) (answer : Status) → OnlyPrints old new → Tells (fault_of_words fault) old.sink new.sink answer → FailsByAnswer answer old new
word-counts fault old new answer only tells =
    only-counts old new answer only
    (subst Spares (sym tells.answered) (spares (fault_status (fault_of_words fault)) (words-spare-files fault) (fault-blames (fault_of_words fault))))
    (tells-sink (fault_of_words fault) old.sink new.sink answer tells)

shown-counts : (text : List ℕ) (old new : Outside) (answer : Status) → OnlyPrints old new → Shows text old.sink new.sink answer → FailsByAnswer answer old new
shown-counts text old new answer only shows =
    let blames = shown-blames shows.is_broken answer shows.answered in
    only-counts old new answer only (spares answer blames.0 blames.1) (shows-sink text old.sink new.sink answer shows)

keys-counts : (old new : Outside) (answer : Status) → ReadsNothing old new → SaysTheSame old.disk new.disk → MakesKeys old.entropy new.entropy old.sink new.sink answer
    → FailsByAnswer answer old new
keys-counts old new answer reads same makes =
    elim makes [
      | inl failed ↦
          let is = failed.1.answered in
          record {
            files = inr (λ e. cc, same-files old new reads);
            entropy = inl (is, ap (λ (entropy : EntropyView). entropy.faults) failed.0);
            disk = inr (λ e. cc, same.faults);
            input = inr (λ e. cc, same-input old new reads);
            sink = subst (λ (a : Status). FailsSink a old.sink.faults new.sink.faults) (sym is) (said-once (fault_text EntropyFails) old.sink new.sink failed.1.said);
          }
      | inr drawn ↦ elim drawn.2 [
        | inl short ↦
            let is = short.answered in
            calm-counts old new answer (record { files = λ e. cc; entropy = λ e. cc; disk = λ e. cc; input = λ e. cc }) reads drawn.1.unfailed same.faults
            (subst (λ (a : Status). FailsSink a old.sink.faults new.sink.faults) (sym is) (said-once (fault_text (Common WantsMemory)) old.sink new.sink short.said))
        | inr shows ↦
            let blames = shown-blames shows.is_broken answer shows.answered in
            calm-counts old new answer (spares answer blames.0 blames.1) reads drawn.1.unfailed same.faults (shows-sink (keys_text drawn.0) old.sink new.sink answer shows)
      ]
    ]

unviewed-counts : (fault : JournalErr) (old new : Outside) (answer : Status) → ReadsNothing old new → new.entropy.faults ≡ old.entropy.faults → FailsToView fault old.disk new.disk
    → answer ≡ view_status fault → FailsSink (view_status fault) old.sink.faults new.sink.faults → FailsByAnswer answer old new
unviewed-counts fault old new answer reads entropy fails is sink = subst (λ (a : Status). FailsByAnswer a old new) (sym is) (by-fault fault fails sink)
  where
    by-fault : (fault : JournalErr) → FailsToView fault old.disk new.disk → FailsSink (view_status fault) old.sink.faults new.sink.faults → FailsByAnswer (view_status fault) old new
    by-fault journal.Disk fails sink =
        record { files = inr (λ e. cc, same-files old new reads); entropy = inr (λ e. cc, entropy); disk = inl (refl, fails); input = inr (λ e. cc, same-input old new reads); sink = sink }
    by-fault (journal.Damaged place) fails sink =
        record { files = inr (λ e. cc, same-files old new reads); entropy = inr (λ e. cc, entropy); disk = inr (λ e. cc, fails.1); input = inr (λ e. cc, same-input old new reads); sink = sink }
    by-fault journal.NoMemory fails sink =
        record { files = inr (λ e. cc, same-files old new reads); entropy = inr (λ e. cc, entropy); disk = inr (λ e. cc, fails); input = inr (λ e. cc, same-input old new reads); sink = sink }

-- the output's count after it was told why there is no ledger
unviewed-sink : (fault : JournalErr) (old new : SinkView) (answer : Status) → Stops (view_status fault) (view_text fault) old new answer → FailsSink (view_status fault) old.faults new.faults
unviewed-sink journal.Disk old new answer told = said-once (view_text journal.Disk) old new told.said
unviewed-sink (journal.Damaged place) old new answer told = said-once (view_text (journal.Damaged place)) old new told.said
unviewed-sink journal.NoMemory old new answer told = said-once (view_text journal.NoMemory) old new told.said

journal-counts : (old new : Outside) (answer : Status) → ReadsNothing old new → new.entropy ≡ old.entropy → PrintsJournal old.disk new.disk old.sink new.sink answer
    → FailsByAnswer answer old new
journal-counts old new answer reads same prints =
    let entropy : new.entropy.faults ≡ old.entropy.faults = ap (λ (entropy : EntropyView). entropy.faults) same in
    elim prints.came [
      | inl shows ↦
          calm-counts old new answer (spares-lines _ old.sink new.sink answer shows.shows) reads entropy shows.unfailed (lines-sink _ old.sink new.sink answer shows.shows)
      | inr nothing ↦
          unviewed-counts nothing.fault old new answer reads entropy nothing.fails nothing.told.answered (unviewed-sink nothing.fault old.sink new.sink answer nothing.told)
    ]

-- the fault of a file, or of a stanza, was told
told-job : (file name : List ℕ) (fault : Fault) (old new : Outside) → FindsNoSealing file name fault old.files new.files → new.entropy.faults ≡ old.entropy.faults
    → new.disk.faults ≡ old.disk.faults → new.input.faults ≡ old.input.faults → Says (client_text fault) old.sink new.sink → FailsByAnswer (client_status fault) old new
told-job file name (Common fault) old new fails entropy disk input says = record {
  files = file-count (rc_test file) file fault old.files new.files fails;
  entropy = inr ((fault-blames fault).entropy, entropy);
  disk = inr ((fault-blames fault).disk, disk);
  input = inr ((fault-blames fault).input, input);
  sink = told-sink fault old.sink new.sink says;
}
told-job file name (LacksSetting named what) old new fails entropy disk input says = record {
  files = inr (λ e. cc, ap (λ (files : FilesView). files.faults) fails.1);
  entropy = inr (λ e. cc, entropy);
  disk = inr (λ e. cc, disk);
  input = inr (λ e. cc, input);
  sink = said-once (client_text (LacksSetting named what)) old.sink new.sink says;
}
told-job file name EntropyFails old new fails entropy disk input says = absurd fails
told-job file name LinkFails old new fails entropy disk input says = absurd fails

-- an input was answered up to a stop
stop-counts : (how : Stop) (is_broken : Bool) (drawn text : List ℕ) (old new : Outside) → new.files.faults ≡ old.files.faults → new.disk.faults ≡ old.disk.faults
    → HasInputCause how old.input.faults new.input.faults → HasDrawn how drawn old.entropy new.entropy → Prints text is_broken old.sink new.sink
    → FailsByAnswer (stop_status how is_broken) old new
stop-counts stop.End false drawn text old new files disk input draws prints =
    record { files = inr (λ e. cc, files); entropy = inr (λ e. cc, draws.1); disk = inr (λ e. cc, disk); input = inr (λ e. cc, input); sink = prints.1 }
stop-counts stop.End true drawn text old new files disk input draws prints =
    record { files = inr (λ e. cc, files); entropy = inr (λ e. cc, draws.1); disk = inr (λ e. cc, disk); input = inr (λ e. cc, input); sink = prints.1 }
stop-counts stop.BadLine is_broken drawn text old new files disk input draws prints = record {
  files = inr (λ e. cc, files);
  entropy = inr (λ e. cc, draws.1);
  disk = inr (λ e. cc, disk);
  input = inr (λ e. cc, input);
  sink = said-once (Some text) old.sink new.sink (is_broken, prints);
}
stop-counts stop.LongInput is_broken drawn text old new files disk input draws prints = record {
  files = inr (λ e. cc, files);
  entropy = inr (λ e. cc, draws.1);
  disk = inr (λ e. cc, disk);
  input = inr (λ e. cc, input);
  sink = said-once (Some text) old.sink new.sink (is_broken, prints);
}
stop-counts stop.ReadFault is_broken drawn text old new files disk input draws prints = record {
  files = inr (λ e. cc, files);
  entropy = inr (λ e. cc, draws.1);
  disk = inr (λ e. cc, disk);
  input = inl (refl, input);
  sink = said-once (Some text) old.sink new.sink (is_broken, prints);
}
stop-counts stop.EntropyFault is_broken drawn text old new files disk input draws prints = record {
  files = inr (λ e. cc, files);
  entropy = inl (refl, draws.1);
  disk = inr (λ e. cc, disk);
  input = inr (λ e. cc, input);
  sink = said-once (Some text) old.sink new.sink (is_broken, prints);
}
stop-counts stop.NoMemory is_broken drawn text old new files disk input draws prints = record {
  files = inr (λ e. cc, files);
  entropy = inr (λ e. cc, draws.3);
  disk = inr (λ e. cc, disk);
  input = inr (λ e. cc, input);
  sink = said-once (Some text) old.sink new.sink (is_broken, prints);
}

job-counts : (job : Sealing → Job) (file name : List ℕ) (old new : Outside) (answer : Status) → SaysTheSame old.disk new.disk
    → RunsJob job file name old.files new.files (streams_of old) (streams_of new) answer → FailsByAnswer answer old new
job-counts job file name old new answer same runs =
    elim runs [
      | inl lacks ↦ subst (λ (a : Status). FailsByAnswer a old new) (sym lacks.2.told.answered)
          (told-job file name lacks.0 old new lacks.1 (ap (λ (entropy : EntropyView). entropy.faults) lacks.2.entropy) same.faults
          (ap (λ (input : SourceView). input.faults) lacks.2.input) lacks.2.told.said)
      | inr sealed ↦
          let answers = sealed.3 in
          subst (λ (a : Status). FailsByAnswer a old new) (sym answers.answered)
          (stop-counts answers.how answers.is_broken answers.drawn (answers.text ++ last_text answers.how (length answers.lines + 1)) old new
          (ap (λ (files : FilesView). files.faults) sealed.2) same.faults answers.cause answers.draws answers.printed)
    ]

runs-counts : (asked : Command) (old new : Outside) (answer : Status) → Runs asked old new answer → FailsByAnswer answer old new
runs-counts (command.Generate count) old new answer runs =
    only-counts old new answer runs.0 (spares-lines count old.sink new.sink answer runs.1) (lines-sink count old.sink new.sink answer runs.1)
runs-counts command.KeyGen old new answer runs = keys-counts old new answer runs.0 runs.1 runs.2
runs-counts command.Journal old new answer runs = journal-counts old new answer runs.0 runs.1 runs.2
runs-counts (command.Encode file name) old new answer runs = job-counts Encode file name old new answer runs.0 runs.1
runs-counts (command.Decode file name) old new answer runs = job-counts Decode file name old new answer runs.0 runs.1
runs-counts command.Help old new answer runs = shown-counts _ old new answer runs.0 runs.1
runs-counts command.Version old new answer runs = shown-counts _ old new answer runs.0 runs.1
runs-counts (command.Serve conf access packets turns verbose) old new answer runs = absurd runs
runs-counts (command.Trial conf access quiet verbose) old new answer runs = absurd runs
runs-counts command.List old new answer runs = absurd runs
runs-counts (command.Send send) old new answer runs = absurd runs

-- which counts rose, by the answer
pub tool-counts : (words : List (List ℕ)) (old new : Outside) (answer : Status) → RunsTool words old new answer → FailsByAnswer answer old new
tool-counts words old new answer runs =
    elim runs [
      | inl refuses ↦ word-counts refuses.fault old new answer refuses.only refuses.told
      | inr obeys ↦ runs-counts obeys.command old new answer obeys.runs
    ]
