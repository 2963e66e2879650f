-- Files, seen as names that hold bytes.
use Rattle.std.specs.Prelude.{◌≡◌, ℕ, ◌≤◌, Bool, true, false, List, ◌++◌, length, find, Option, Some, IfSome}
use Rattle.std.specs.Option.{option_map}
use Rattle.std.specs.Str.{bytes_eq}
use Rattle.fk_host.specs.declared.files.FileErr.{FileErr}
use Rattle.fk_host.specs.declared.files.FileErr.TheVariants.{Missing, Failed, NoMemory}
use Rattle.fk_host.specs.declared.files.HeldFile.{HeldFile}
use Rattle.fk_base.specs.declared.file.TheConstants.{FILE_LIMIT}

-- the bytes of the file of this name, where it is held; of two of one name the first counts
abbrev pub bytes_of_file : List ℕ → List HeldFile → Option (List ℕ)
bytes_of_file name files = option_map (λ file. file.bytes) (find (λ file. bytes_eq file.name name) files)

-- the errors that are faults of the files: all but want of memory
abbrev pub is_fault : FileErr → Bool
is_fault Missing = true
is_fault Failed = true
is_fault NoMemory = false

-- A read that went well added the bytes of the file of this name, at most as many as a file may have. Files that don't tell what
-- they hold claim no more.
pub record ReadsFile (name : List ℕ) (held : Option (List HeldFile)) (old new : List ℕ) : Type 0 where
  pub bytes : List ℕ
  pub added : new ≡ old ++ bytes
  pub within : length bytes ≤ FILE_LIMIT
  pub told : IfSome held (λ files. bytes_of_file name files ≡ Some bytes)
