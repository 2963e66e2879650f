-- What the contracts of this crate's private functions speak of. No public contract cites it, so no caller has to believe it.
use Rattle.std.specs.Prelude.{◌≡◌, ℕ, ◌+◌, Bool, false, not, List, map, ◌==◌}
use Rattle.std.specs.List.{filter, list_any}
use Rattle.fk_base.specs.declared.status.Status.{Status}
use Rattle.fk_trace.specs.declared.change.Change.{Change}
use Rattle.fk_trace.specs.declared.change.Change.TheVariants.{Open, Done, Settled, Floor}
use Rattle.fk_trace.specs.declared.change.OpenRecord.{OpenRecord}
use Rattle.fk_trace.specs.Ledger.{opens}
use Rattle.fk_host.specs.declared.disk.Disk.{Ghosts as DiskMeaning}
use Rattle.fk_host.specs.declared.feed.Feed.{Ghosts as FeedMeaning}
use Rattle.fk_host.specs.declared.files.Files.{Ghosts as FilesMeaning}
use Rattle.fk_host.specs.declared.stream.Sink.{Ghosts as SinkMeaning}
use Rattle.fk_host.specs.declared.stream.Source.{Ghosts as SourceMeaning}
use Rattle.fk_log.specs.declared.verbosity.Verbosity.{Verbosity}
use Rattle.fk_log.specs.Line.{Line}
use Rattle.fk_log.specs.Line.Line.{ListedLine}
use Rattle.fk_child.specs.View.{View, view_of}
use Rattle.fk_log.specs.Printing.{SinkView, sink_by}
use Rattle.fk_daemon.specs.Outside.{FeedView, Outside}
use Rattle.fk_serve.specs.declared.files.FileNames.{FileNames}
use Rattle.fk_trial.specs.declared.task.TrialTask.{TrialTask}
use Rattle.fk_input.specs.Lines.{input_limit}
use Rattle.fk_trial.specs.Streams.{SourceView, Streams, TakesAtMost, streams_by}
use Rattle.fk_trial.specs.Trial.{Tries}
use Rattle.fk_program.specs.Faults.{Fault, Tells}
use Rattle.fk_program.specs.Files.{FilesView, files_by}
use Rattle.fk_daemon.specs.Outside.{outside_by}
use Rattle.fk_serve.specs.World.{World}
use Rattle.fk_serve.specs.Files.{Names, ReadsFiles, FailsFiles}

abbrev pub names_of : FileNames → Names
names_of names = record { conf = names.conf.now; access = names.access.now }

-- a world of these, where a call is handed all but the input
abbrev pub served_in : SourceView → FilesView → Outside → World
served_in input files outside = record { files = files; input = input; outside = outside }

-- the same, of the objects by what their traits have them tell
abbrev pub served_of : {F E H K : Type 0} → FilesMeaning F → FeedMeaning E → DiskMeaning H → SinkMeaning K → SourceView → F → E → H → K → World
served_of files feed host sink input = λ f e h k. served_in input (files_by files f) (outside_by feed host sink e h k)

-- a world of these, where a call is handed the host and the output alone
abbrev pub listed_in : FilesView → FeedView → SourceView → View → SinkView → World
listed_in files feed input host sink = record { files = files; input = input; outside = record { feed = feed; host = host; sink = sink } }

-- the same, of the two by what their traits have them tell
abbrev pub listed_of : {H K : Type 0} → DiskMeaning H → SinkMeaning K → FilesView → FeedView → SourceView → H → K → World
listed_of host sink files feed input =
    λ h k. listed_in files feed input (view_of host h) (sink_by sink k)

-- what a trial is handed
pub record Bench : Type 0 where
  pub files : FilesView
  pub streams : Streams

abbrev pub bench : FilesView → Streams → Bench
bench files streams = record { files = files; streams = streams }

-- the same, of the objects by what their traits have them tell
abbrev pub bench_of : {F I K : Type 0} → FilesMeaning F → SourceMeaning I → SinkMeaning K → F → I → K → Bench
bench_of files input sink =
    λ f i k. bench (files_by files f) (streams_by input sink i k)

-- the lines of the input were tried by both files
pub record TriesFiles (names : Names) (verbosity : Verbosity) (old new : Bench) (answer : Status) : Type 0 where
  pub task : TrialTask
  pub told : task.verbosity ≡ verbosity
  pub files : ReadsFiles names task.policy.conf.now task.policy.access.now old.files new.files
  pub tries : Tries task old.streams new.streams answer
  pub bound : TakesAtMost (input_limit + 1) old.streams.input.left new.streams.input.left

-- the first fault of the two files was told
pub record TellsFiles (names : Names) (old new : Bench) (answer : Status) : Type 0 where
  pub fault : Fault
  pub fails : FailsFiles names fault old.files new.files
  pub input : new.streams.input ≡ old.streams.input
  pub tells : Tells fault old.streams.output new.streams.output answer

-- the change closes the record of this number for good
abbrev pub settles : ℕ → Change → Bool
settles id (Open item) = false
settles id (Done done) = done == id
settles id (Settled number stamp digest) = false
settles id (Floor floor next) = false

-- no change of the ledger closes the record for good
abbrev pub is_live : List Change → OpenRecord → Bool
is_live ledger item = not (list_any (settles item.id) ledger)

-- the lines of those of these changes that open what is live in the ledger
abbrev pub listed_lines : List Change → List Change → List Line
listed_lines ledger changes = map ListedLine (filter (is_live ledger) (opens changes))
