-- What the tool does: what it reads, draws and prints, and how it ends.
use Rattle.std.specs.Prelude.{◌≡◌, ◌⊎◌, ℕ, List, length}
use Rattle.fk_base.specs.declared.status.Status.{Status}
use Rattle.fk_trace.specs.declared.change.Change.{Change}
use Rattle.fk_host.specs.Disk.{IfTold}
use Rattle.fk_journal.specs.declared.fault.JournalErr.{JournalErr}
use Rattle.fk_log.specs.Printing.{SinkView}
use Rattle.fk_child.specs.View.{View}
use Rattle.fk_ledger.specs.Holds.{HoldsChanges}
use Rattle.fk_words.specs.declared.command.Command.{Command}
use Rattle.fk_words.specs.declared.command.Command.TheVariants as command
use Rattle.fk_words.specs.declared.tool.Tool.TheVariants.{Fko}
use Rattle.fk_words.specs.declared.word_fault.WordFault.{WordFault}
use Rattle.fk_words.specs.ReadsWords.{IsWordErr, ReadsWords}
use Rattle.fk_program.specs.Faults.{Tells, fault_of_words}
use Rattle.fk_program.specs.Files.{FilesView}
use Rattle.fk_program.specs.Telling.{Shows, Stops}
use Rattle.fk_client.specs.Faults.{Fault, Tells as TellsClient}
use Rattle.fk_client.specs.Running.{FindsNoSealing, HasSealing, MakesKeys}
use Rattle.fk_client.specs.declared.sealed.Sealing.{Sealing}
use Rattle.fk_view.specs.Viewing.{SaysTheSame}
use Rattle.fk_view.specs.Viewing.{FailsToView, OnlyReads, view_status, view_text}
use Rattle.fk_tool.specs.declared.help.TheConstants.{HELP, VERSION}
use Rattle.fk_tool.specs.Generated.{IsGeneratedText}
use Rattle.fk_tool.specs.JournalText.{AreShown}
use Rattle.fk_tool.specs.Lines.{ShowsLines}
use Rattle.fk_tool.specs.Outside.{Outside, streams_of}
use Rattle.fk_tool.specs.Streams.{AnswersInput, Streams}
use Rattle.fk_tool.specs.declared.job.Job.{Job}
use Rattle.fk_tool.specs.declared.job.Job.TheVariants.{Decode, Encode}

-- neither a file nor the input was read
pub record ReadsNothing (old new : Outside) : Type 0 where
  pub files : new.files ≡ old.files
  pub input : new.input ≡ old.input

-- only the output was asked for something
pub record OnlyPrints (old new : Outside) : Type 0 where
  pub reads : ReadsNothing old new
  pub entropy : new.entropy ≡ old.entropy
  pub disk : SaysTheSame old.disk new.disk

-- the areas hold these changes, and each is shown
pub record ShowsLedger (old new : View) (sink printed : SinkView) (answer : Status) : Type 0 where
  pub ledger : List Change
  pub held : IfTold old.told new.told (λ before later. HoldsChanges before.areas ledger)
  pub unfailed : new.faults ≡ old.faults
  pub shows : ShowsLines (AreShown ledger) (length ledger) sink printed answer

-- no ledger was read, and it is told why
pub record ShowsNothing (old new : View) (sink printed : SinkView) (answer : Status) : Type 0 where
  pub fault : JournalErr
  pub fails : FailsToView fault old new
  pub told : Stops (view_status fault) (view_text fault) sink printed answer

-- The changes of the journal are shown, or it is told why not. The disk is only read.
pub record PrintsJournal (old new : View) (sink printed : SinkView) (answer : Status) : Type 0 where
  pub disk : OnlyReads old new
  pub came : ShowsLedger old new sink printed answer ⊎ ShowsNothing old new sink printed answer

-- the fault of the file or of its stanza was told, and nothing else was asked for anything
pub record MeetsFault (fault : Fault) (old new : Streams) (answer : Status) : Type 0 where
  pub entropy : new.entropy ≡ old.entropy
  pub input : new.input ≡ old.input
  pub told : TellsClient fault old.sink new.sink answer

-- what a job over lines comes to: the stanza of this name does not seal, for a fault that is told, or the input is answered by what it
-- gives
abbrev pub RunsJob : (Sealing → Job) → (file name : List ℕ) → FilesView → FilesView → Streams → Streams → Status → Type 0
RunsJob job file name files later old new answer =
    ((fault : Fault) × FindsNoSealing file name fault files later × MeetsFault fault old new answer)
    ⊎ ((sealing : Sealing) × HasSealing file name files sealing × (later ≡ files) × AnswersInput (job sealing) old new answer)

-- what a command of the tool does
abbrev pub Runs : Command → Outside → Outside → Status → Type 0
Runs (command.Generate count) old new answer = OnlyPrints old new × ShowsLines IsGeneratedText count old.sink new.sink answer
Runs command.KeyGen old new answer =
    ReadsNothing old new × SaysTheSame old.disk new.disk × MakesKeys old.entropy new.entropy old.sink new.sink answer
Runs command.Journal old new answer =
    ReadsNothing old new × (new.entropy ≡ old.entropy) × PrintsJournal old.disk new.disk old.sink new.sink answer
Runs (command.Encode file name) old new answer =
    SaysTheSame old.disk new.disk × RunsJob Encode file name old.files new.files (streams_of old) (streams_of new) answer
Runs (command.Decode file name) old new answer =
    SaysTheSame old.disk new.disk × RunsJob Decode file name old.files new.files (streams_of old) (streams_of new) answer
Runs command.Help old new answer = OnlyPrints old new × Shows HELP.now old.sink new.sink answer
Runs command.Version old new answer = OnlyPrints old new × Shows VERSION.now old.sink new.sink answer
Runs (command.Serve conf access packets turns verbose) old new answer = ⊥
Runs (command.Trial conf access quiet verbose) old new answer = ⊥
Runs command.List old new answer = ⊥
Runs (command.Send send) old new answer = ⊥

-- the words are no command, and the first test that they fail is told; or memory is wanting for the names that they give
pub record RefusesWords (words : List (List ℕ)) (old new : Outside) (answer : Status) : Type 0 where
  pub fault : WordFault
  pub first : IsWordErr Fko words fault
  pub only : OnlyPrints old new
  pub told : Tells (fault_of_words fault) old.sink new.sink answer

-- the words are a command, and it is done
pub record ObeysWords (words : List (List ℕ)) (old new : Outside) (answer : Status) : Type 0 where
  pub command : Command
  pub reads : ReadsWords Fko words command
  pub runs : Runs command old new answer

-- what the tool does with its words
abbrev pub RunsTool : List (List ℕ) → Outside → Outside → Status → Type 0
RunsTool words old new answer = RefusesWords words old new answer ⊎ ObeysWords words old new answer
