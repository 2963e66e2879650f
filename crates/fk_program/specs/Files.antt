-- What the files of a program say of themselves, and the text of one of them, or why there is none.
use Rattle.std.specs.Prelude.{◌≡◌, ◌≢◌, ℕ, ◌≤◌, List, length, Option, Some, None, IfSome}
use Rattle.fk_base.specs.declared.file.TheConstants.{FILE_LIMIT}
use Rattle.fk_host.specs.Count.{counted}
use Rattle.fk_host.specs.Files.{bytes_of_file}
use Rattle.fk_host.specs.declared.files.Files.{Ghosts as FilesMeaning}
use Rattle.fk_host.specs.declared.files.HeldFile.{HeldFile}
use Rattle.fk_program.specs.Faults.{Fault}
use Rattle.fk_program.specs.Faults.Fault.{WrongWords, FileNotHeld, FileNotRead, WrongFile, WantsMemory}

pub record FilesView : Type 0 where
  -- what is held, where they tell
  pub held : Option (List HeldFile)
  pub faults : ℕ

abbrev pub files_by : {F : Type 0} → FilesMeaning F → F → FilesView
files_by means files = record { held = means.held files; faults = means.faults files }

-- the files refused a read, and count it
abbrev pub refused : FilesView → FilesView
refused files = record files { faults = counted files.faults }

-- this is the text of the file of this name, where the files tell; a file that is read is no longer than their limit
pub record HasText (name : List ℕ) (files : FilesView) (text : List ℕ) : Type 0 where
  pub within : length text ≤ FILE_LIMIT
  pub held : IfSome files.held (λ held. bytes_of_file name held ≡ Some text)

-- The file of this name has this fault: it is not held, or is and could not be read; or its text, by this test, is wrong. Memory may
-- be wanting too.
abbrev pub FailsFile : (List ℕ → Option Fault) → List ℕ → Fault → FilesView → FilesView → Type 0
FailsFile test name (FileNotHeld named) old new = (named ≡ name) × (new ≡ refused old) × IfSome old.held (λ held. bytes_of_file name held ≡ None)
FailsFile test name (FileNotRead named) old new = (named ≡ name) × (new ≡ refused old) × IfSome old.held (λ held. bytes_of_file name held ≢ None)
FailsFile test name (WrongFile named line what) old new =
    (new ≡ old) × ((text : List ℕ) × HasText name old text × (test text ≡ Some (WrongFile named line what)))
FailsFile test name WantsMemory old new = new ≡ old
FailsFile test name (WrongWords why) old new = ⊥
