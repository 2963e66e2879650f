-- Why a program comes to nothing for its words or a file: its status, and the one line that says so.
use Rattle.std.specs.Prelude.{ℕ, List, Option, Some, None}
use Rattle.fk_base.specs.declared.status.Status.{Status}
use Rattle.fk_base.specs.declared.status.Status.TheVariants as status
use Rattle.fk_words.specs.declared.word_fault.WordFault.{WordFault}
use Rattle.fk_words.specs.declared.word_fault.WordFault.TheVariants as word
use Rattle.fk_log.specs.declared.usage_fault.UsageFault.{UsageFault}
use Rattle.fk_log.specs.declared.usage_fault.UsageFault.TheVariants as usage
use Rattle.fk_log.specs.Line.{line_text}
use Rattle.fk_log.specs.Line.Line.{UsageLine, FileMissingLine, FileFailedLine, BadFileLine}
use Rattle.fk_log.specs.Printing.{SinkView}
use Rattle.fk_program.specs.declared.refusal.Refusal.{Refusal}
use Rattle.fk_program.specs.declared.refusal.Refusal.TheVariants as refusal
use Rattle.fk_program.specs.Telling.{Stops}

pub data Fault : Type 0 where
  WrongWords : UsageFault → Fault
  -- the file of this name
  FileNotHeld : List ℕ → Fault
  FileNotRead : List ℕ → Fault
  -- what is wrong in this line of the file of this name
  WrongFile : List ℕ → ℕ → List ℕ → Fault
  WantsMemory : Fault

abbrev pub fault_status : Fault → Status
fault_status (WrongWords fault) = status.Usage
fault_status (FileNotHeld name) = status.FileFault
fault_status (FileNotRead name) = status.FileFault
fault_status (WrongFile name line what) = status.Config
fault_status WantsMemory = status.NoMemory

-- the line of a fault; want of memory has none
abbrev pub fault_text : Fault → Option (List ℕ)
fault_text (WrongWords fault) = Some (line_text (UsageLine fault))
fault_text (FileNotHeld name) = Some (line_text (FileMissingLine name))
fault_text (FileNotRead name) = Some (line_text (FileFailedLine name))
fault_text (WrongFile name line what) = Some (line_text (BadFileLine name line what))
fault_text WantsMemory = None

-- a program came to nothing for this fault
abbrev pub Tells : Fault → SinkView → SinkView → Status → Type 0
Tells fault old new answer = Stops (fault_status fault) (fault_text fault) old new answer

-- the fault of words that are no command
abbrev pub fault_of_words : WordFault → Fault
fault_of_words (word.Unknown place) = WrongWords (usage.Unknown place)
fault_of_words (word.NoValue place) = WrongWords (usage.NoValue place)
fault_of_words (word.Twice place) = WrongWords (usage.Twice place)
fault_of_words (word.BadValue place) = WrongWords (usage.BadValue place)
fault_of_words word.Modes = WrongWords usage.Modes
fault_of_words word.NoMemory = WantsMemory

-- the fault that a refusal tells
abbrev pub fault_of : Refusal → Fault
fault_of (refusal.Words fault) = WrongWords fault
fault_of (refusal.Missing name) = FileNotHeld name.now
fault_of (refusal.Failed name) = FileNotRead name.now
fault_of (refusal.BadFile name line what) = WrongFile name.now line what.now
fault_of refusal.NoMemory = WantsMemory
