-- What a run of the program does, whole, by what its words ask for.
use Rattle.std.specs.Prelude.{◌≡◌, ◌⊎◌, ℕ, ◌+◌, Bool, true, false, List}
use Rattle.fk_base.specs.declared.status.Status.{Status}
use Rattle.fk_run.specs.declared.limits.Limits.{Limits}
use Rattle.fk_log.specs.declared.verbosity.Verbosity.{Verbosity}
use Rattle.fk_log.specs.declared.verbosity.Verbosity.TheVariants as verbosity
use Rattle.fk_words.specs.declared.command.Command.{Command}
use Rattle.fk_words.specs.declared.command.Command.TheVariants as command
use Rattle.fk_words.specs.declared.tool.Tool.TheVariants.{Daemon}
use Rattle.fk_words.specs.declared.word_fault.WordFault.{WordFault}
use Rattle.fk_words.specs.ReadsWords.{ReadsWords, IsWordErr}
use Rattle.fk_daemon.specs.declared.task.Task.{Task}
use Rattle.fk_daemon.specs.Serving.{Serves}
use Rattle.fk_trial.specs.declared.task.TrialTask.{TrialTask}
use Rattle.fk_input.specs.Lines.{input_limit}
use Rattle.fk_trial.specs.Streams.{TakesAtMost}
use Rattle.fk_trial.specs.Trial.{Tries}
use Rattle.fk_serve.specs.declared.help.TheConstants.{HELP, VERSION}
use Rattle.fk_serve.specs.World.{World, LeavesRest, streams_of}
use Rattle.fk_serve.specs.Files.{Names, ReadsFiles, FailsFiles}
use Rattle.fk_serve.specs.Listing.{Lists}
use Rattle.fk_program.specs.Faults.{Fault, Tells, fault_of_words}
use Rattle.fk_program.specs.Telling.{Shows}
use Rattle.fk_view.specs.Viewing.{SaysTheSame}

-- both files were read, and the feed's turns were served by them under these limits
pub record ServesByFiles (names : Names) (limits : Limits) (verbosity : Verbosity) (old new : World) (answer : Status) : Type 0 where
  pub task : Task
  pub limited : task.limits ≡ limits
  pub told : task.verbosity ≡ verbosity
  pub files : ReadsFiles names task.policy.conf.now task.policy.access.now old.files new.files
  pub input : new.input ≡ old.input
  pub serves : Serves task old.outside new.outside answer

-- the first fault of the two files was told, and nothing else was asked for
pub record RefusesFiles (names : Names) (old new : World) (answer : Status) : Type 0 where
  pub fault : Fault
  pub fails : FailsFiles names fault old.files new.files
  pub rest : LeavesRest old new
  pub tells : Tells fault old.outside.sink new.outside.sink answer

-- this text was printed, and nothing else was asked for
pub record PrintsOnly (text : List ℕ) (old new : World) (answer : Status) : Type 0 where
  pub files : new.files ≡ old.files
  pub rest : LeavesRest old new
  pub shows : Shows text old.outside.sink new.outside.sink answer

-- both files were read, and the lines of the input were tried by them; nothing was asked of the feed and the host
pub record TriesByFiles (names : Names) (verbosity : Verbosity) (old new : World) (answer : Status) : Type 0 where
  pub task : TrialTask
  pub told : task.verbosity ≡ verbosity
  pub files : ReadsFiles names task.policy.conf.now task.policy.access.now old.files new.files
  pub feed : new.outside.feed ≡ old.outside.feed
  pub host : SaysTheSame old.outside.host new.outside.host
  pub tries : Tries task (streams_of old) (streams_of new) answer
  -- however long the input is
  pub bound : TakesAtMost (input_limit + 1) old.input.left new.input.left

abbrev pub serving_verbosity : Bool → Verbosity
serving_verbosity false = verbosity.Normal
serving_verbosity true = verbosity.Verbose

-- of a trial that is asked to be quiet and verbose nothing but the end is told
abbrev pub trying_verbosity : Bool → Bool → Verbosity
trying_verbosity true verbose = verbosity.Quiet
trying_verbosity false verbose = serving_verbosity verbose

-- what a run does for a command; one of another program is none of this one's
abbrev pub Runs : Command → World → World → Status → Type 0
Runs (command.Serve conf access packets turns verbose) old new answer =
    let names : Names = record { conf = conf; access = access } in
    let limits : Limits = record { packets = packets; turns = turns } in
    ServesByFiles names limits (serving_verbosity verbose) old new answer ⊎ RefusesFiles names old new answer
Runs (command.Trial conf access quiet verbose) old new answer =
    let names : Names = record { conf = conf; access = access } in
    TriesByFiles names (trying_verbosity quiet verbose) old new answer ⊎ RefusesFiles names old new answer
Runs command.List old new answer = Lists old new answer
Runs (command.Send send) old new answer = ⊥
Runs command.KeyGen old new answer = ⊥
Runs (command.Encode file name) old new answer = ⊥
Runs (command.Decode file name) old new answer = ⊥
Runs command.Journal old new answer = ⊥
Runs (command.Generate count) old new answer = ⊥
Runs command.Help old new answer = PrintsOnly HELP.now old new answer
Runs command.Version old new answer = PrintsOnly VERSION.now old new answer

pub record RunsCommand (words : List (List ℕ)) (old new : World) (answer : Status) : Type 0 where
  pub command : Command
  pub reads : ReadsWords Daemon words command
  pub runs : Runs command old new answer

-- the words have no command, or no memory was had for one, and nothing but the output was asked
pub record RefusesWords (words : List (List ℕ)) (old new : World) (answer : Status) : Type 0 where
  pub fault : WordFault
  pub why : IsWordErr Daemon words fault
  pub files : new.files ≡ old.files
  pub rest : LeavesRest old new
  pub tells : Tells (fault_of_words fault) old.outside.sink new.outside.sink answer

-- a run of the program on these words
abbrev pub RunsWords : List (List ℕ) → World → World → Status → Type 0
RunsWords words old new answer = RunsCommand words old new answer ⊎ RefusesWords words old new answer
