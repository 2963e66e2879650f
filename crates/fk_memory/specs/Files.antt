-- Files in memory.
use Rattle.std.specs.Prelude.{ℕ, ◌||◌, nat_lt, Bool, List, length, Option, None, Some, if◌then◌else◌}
use Rattle.std.specs.List.{list_any}
use Rattle.std.specs.Str.{bytes_eq}
use Rattle.fk_host.specs.declared.files.FileErr.{FileErr}
use Rattle.fk_host.specs.declared.files.FileErr.TheVariants.{Missing, Failed}
use Rattle.fk_host.specs.declared.files.HeldFile.{HeldFile}
use Rattle.fk_base.specs.declared.file.TheConstants.{FILE_LIMIT}
use Rattle.fk_host.specs.Files.{bytes_of_file}

-- where files in memory stand
pub record FilesState : Type 0 where
  -- what is held
  pub held : List HeldFile
  -- the names of which each read was told to fail
  pub failing : List (List ℕ)
  -- how often a read was refused
  pub faults : ℕ

-- the name is one of these
abbrev pub is_among : List ℕ → List (List ℕ) → Bool
is_among name names = list_any (λ other. bytes_eq other name) names

-- the fault of a read of what is held: it was told to fail, or the file is too long
abbrev pub fault_of_held : FilesState → List ℕ → Option (List ℕ) → Option FileErr
fault_of_held files name None = Some Missing
fault_of_held files name (Some bytes) = if is_among name files.failing || nat_lt FILE_LIMIT (length bytes) then Some Failed else None

-- the fault of a read of this name, if there is one: the file isn't held, else the read was told to fail or the file is too long
abbrev pub read_fault : FilesState → List ℕ → Option FileErr
read_fault files name = fault_of_held files name (bytes_of_file name files.held)
