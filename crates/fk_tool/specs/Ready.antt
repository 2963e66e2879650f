-- When the tool has to end well, unless memory is wanting.
use Rattle.std.specs.Prelude.{◌≡◌, ◌≢◌, ◌⊎◌, ℕ, List, Some, None, IsSomeAnd}
use Rattle.fk_base.specs.declared.status.Status.{Status}
use Rattle.fk_base.specs.declared.status.Status.TheVariants as status
use Rattle.fk_host.specs.Count.{Rose}
use Rattle.fk_host.specs.Files.{bytes_of_file}
use Rattle.fk_input.specs.Lines.{pieces}
use Rattle.fk_conf.specs.RcFault.{rc_fault}
use Rattle.fk_conf.specs.ReadsRc.{ReadsRc}
use Rattle.fk_conf.specs.declared.rc_stanza.RcStanza.{RcStanza}
use Rattle.fk_words.specs.declared.command.Command.{Command}
use Rattle.fk_words.specs.declared.command.Command.TheVariants as command
use Rattle.fk_words.specs.declared.tool.Tool.TheVariants.{Fko}
use Rattle.fk_words.specs.ReadsWords.{ReadsWords}
use Rattle.fk_view.specs.Viewing.{HoldsToTheEnd}
use Rattle.fk_program.specs.Files.{FilesView}
use Rattle.fk_client.specs.Settle.{sealing_fault}
use Rattle.fk_client.specs.declared.sealed.Sealing.{Sealing}
use Rattle.fk_tool.specs.Outside.{Outside}
use Rattle.fk_tool.specs.Streams.{ReadsLines, SourceView}
use Rattle.fk_tool.specs.declared.job.Job.{Job}
use Rattle.fk_tool.specs.declared.job.Job.TheVariants.{Decode, Encode}

-- the file is held, its text says stanzas, and that of this name seals
pub record HoldsSealing (file name : List ℕ) (files : FilesView) : Type 0 where
  pub text : List ℕ
  pub held : IsSomeAnd files.held (λ held. bytes_of_file file held ≡ Some text)
  pub stanzas : List RcStanza
  pub says : ReadsRc text stanzas
  pub needs : sealing_fault stanzas name ≡ None

-- what a job over lines reads is there, and right: the stanza, and an input of which each line is one of the job's
pub record IsReadyForJob (job : Sealing → Job) (file name : List ℕ) (files : FilesView) (input : SourceView) : Type 0 where
  pub seals : HoldsSealing file name files
  pub told : IsSomeAnd input.left (λ text. (sealing : Sealing) → (lines : List (List ℕ)) × ReadsLines (job sealing) (pieces text) lines None)

-- what the command reads is there, and right: for the journal, areas that hold a ledger, of a disk that tells to the end
abbrev pub IsReadyFor : Command → Outside → Outside → Type 0
IsReadyFor command.Journal old new = HoldsToTheEnd old.disk.told new.disk.told
IsReadyFor (command.Encode file name) old new = IsReadyForJob Encode file name old.files old.input
IsReadyFor (command.Decode file name) old new = IsReadyForJob Decode file name old.files old.input
IsReadyFor _ old new = Unit {0}

-- no count rose
pub record CountsNone (old new : Outside) : Type 0 where
  pub files : ¬ Rose old.files.faults new.files.faults
  pub entropy : ¬ Rose old.entropy.faults new.entropy.faults
  pub disk : ¬ Rose old.disk.faults new.disk.faults
  pub input : ¬ Rose old.input.faults new.input.faults
  pub sink : ¬ Rose old.sink.faults new.sink.faults

-- the words ask for a command for which all is ready, and nothing failed
pub record MeetsNoFault (words : List (List ℕ)) (old new : Outside) : Type 0 where
  pub command : Command
  pub reads : ReadsWords Fko words command
  pub ready : IsReadyFor command old new
  pub counts : CountsNone old new

-- the command is a job over lines by this file and this stanza
abbrev pub IsJobBy : (file name : List ℕ) → Command → Type 0
IsJobBy file name (command.Encode of by) = (of ≡ file) × (by ≡ name)
IsJobBy file name (command.Decode of by) = (of ≡ file) × (by ≡ name)
IsJobBy file name _ = ⊥

-- the words ask for a job over lines by this file and this stanza
pub record AsksForJob (words : List (List ℕ)) (file name : List ℕ) : Type 0 where
  pub command : Command
  pub reads : ReadsWords Fko words command
  pub by : IsJobBy file name command

-- the words ask for a job over lines by a file that is not held
pub record NamesNoFile (words : List (List ℕ)) (files : FilesView) : Type 0 where
  pub file : List ℕ
  pub name : List ℕ
  pub asks : AsksForJob words file name
  pub missing : IsSomeAnd files.held (λ held. bytes_of_file file held ≡ None)

-- the text has a wrong line, or it says stanzas of which that of this name does not seal
abbrev pub IsWrongText : (name text : List ℕ) → Type 0
IsWrongText name text =
    (rc_fault text ≢ None) ⊎ ((stanzas : List RcStanza) × ReadsRc text stanzas × (sealing_fault stanzas name ≢ None))

-- the words ask for a job over lines by a file that is held, and whose text is wrong
pub record NamesWrongFile (words : List (List ℕ)) (files : FilesView) : Type 0 where
  pub file : List ℕ
  pub name : List ℕ
  pub asks : AsksForJob words file name
  pub text : List ℕ
  pub held : IsSomeAnd files.held (λ held. bytes_of_file file held ≡ Some text)
  pub wrong : IsWrongText name text

-- the tool ended so, or memory was wanting
abbrev pub EndsAs : Status → Status → Type 0
EndsAs wanted answer = (answer ≡ wanted) ⊎ (answer ≡ status.NoMemory)
