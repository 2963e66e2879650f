-- How a client has to end, unless memory is wanting: well, or for its file.
use Rattle.std.specs.Prelude.{◌≡◌, ◌≢◌, ◌⊎◌, ℕ, List, Some, None, IsSomeAnd}
use Rattle.fk_base.specs.declared.status.Status.{Status}
use Rattle.fk_base.specs.declared.status.Status.TheVariants as status
use Rattle.fk_host.specs.Count.{Rose}
use Rattle.fk_host.specs.Files.{bytes_of_file}
use Rattle.fk_conf.specs.RcFault.{rc_fault}
use Rattle.fk_conf.specs.ReadsRc.{ReadsRc}
use Rattle.fk_conf.specs.declared.rc_stanza.RcStanza.{RcStanza}
use Rattle.fk_words.specs.ReadsWords.{ReadsWords}
use Rattle.fk_words.specs.declared.command.Command.{Command}
use Rattle.fk_words.specs.declared.command.Command.TheVariants as command
use Rattle.fk_words.specs.declared.command.SendWords.{SendWords}
use Rattle.fk_words.specs.declared.tool.Tool.TheVariants.{Client}
use Rattle.fk_program.specs.Files.{FilesView}
use Rattle.fk_client.specs.Outside.{Outside}
use Rattle.fk_client.specs.Settle.{need_fault}

-- the file that the words name is held, its text says stanzas, and these and the words give all that is needed
pub record IsReadyToSend (send : SendWords) (files : FilesView) : Type 0 where
  pub text : List ℕ
  pub held : IsSomeAnd files.held (λ held. bytes_of_file send.file held ≡ Some text)
  pub stanzas : List RcStanza
  pub says : ReadsRc text stanzas
  pub needs : need_fault stanzas send ≡ None

-- what the command reads is there, and right
abbrev pub IsReadyFor : Command → FilesView → Type 0
IsReadyFor (command.Send send) files = IsReadyToSend send files
IsReadyFor _ files = Unit {0}

-- no count rose
pub record CountsNone (old new : Outside) : Type 0 where
  pub files : ¬ Rose old.files.faults new.files.faults
  pub entropy : ¬ Rose old.entropy.faults new.entropy.faults
  pub link : ¬ Rose old.link.faults new.link.faults
  pub sink : ¬ Rose old.sink.faults new.sink.faults

-- the words ask for a command for which all is ready, and nothing failed
pub record MeetsNoFault (words : List (List ℕ)) (old new : Outside) : Type 0 where
  pub command : Command
  pub reads : ReadsWords Client words command
  pub ready : IsReadyFor command old.files
  pub counts : CountsNone old new

-- the words ask for a packet by a file that is not held
pub record NamesNoFile (words : List (List ℕ)) (files : FilesView) : Type 0 where
  pub send : SendWords
  pub reads : ReadsWords Client words (command.Send send)
  pub missing : IsSomeAnd files.held (λ held. bytes_of_file send.file held ≡ None)

-- the text has a wrong line, or it says stanzas that lack something that is needed
abbrev pub IsWrongText : SendWords → List ℕ → Type 0
IsWrongText send text =
    (rc_fault text ≢ None) ⊎ ((stanzas : List RcStanza) × ReadsRc text stanzas × (need_fault stanzas send ≢ None))

-- the words ask for a packet by a file that is held, and whose text is wrong
pub record NamesWrongFile (words : List (List ℕ)) (files : FilesView) : Type 0 where
  pub send : SendWords
  pub reads : ReadsWords Client words (command.Send send)
  pub text : List ℕ
  pub held : IsSomeAnd files.held (λ held. bytes_of_file send.file held ≡ Some text)
  pub wrong : IsWrongText send text

-- the client ended so, or memory was wanting
abbrev pub EndsAs : Status → Status → Type 0
EndsAs wanted answer = (answer ≡ wanted) ⊎ (answer ≡ status.NoMemory)
