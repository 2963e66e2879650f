-- The two files of a run: what was read of them, or the first fault.
use Rattle.std.specs.Prelude.{◌≡◌, ◌⊎◌, ℕ, List, Option}
use Rattle.std.specs.Option.{option_map}
use Rattle.fk_conf.specs.declared.conf.Conf.{Conf}
use Rattle.fk_conf.specs.ConfErr.{conf_fault}
use Rattle.fk_conf.specs.FaultNames.{conf_fault_name}
use Rattle.fk_conf.specs.ReadsConf.{ReadsConf}
use Rattle.fk_access.specs.declared.stanza.Stanza.{Stanza}
use Rattle.fk_access.specs.AccessFault.{access_fault}
use Rattle.fk_access.specs.ReadsAccess.{ReadsAccess}
use Rattle.fk_program.specs.Faults.{Fault}
use Rattle.fk_program.specs.Faults.Fault.{WrongFile}
use Rattle.fk_program.specs.Files.{FailsFile, FilesView, HasText}
use Rattle.fk_serve.specs.FaultNames.{access_fault_name}

pub record Names : Type 0 where
  pub conf : List ℕ
  pub access : List ℕ

-- the file of this name says this
pub record HasConf (name : List ℕ) (files : FilesView) (conf : Conf) : Type 0 where
  pub text : List ℕ
  pub read : HasText name files text
  pub says : ReadsConf text conf

pub record HasAccess (name : List ℕ) (files : FilesView) (stanzas : List Stanza) : Type 0 where
  pub text : List ℕ
  pub read : HasText name files text
  pub says : ReadsAccess text stanzas

-- the first fault of a text, told of the file of this name
abbrev pub conf_test : List ℕ → List ℕ → Option Fault
conf_test name text = option_map (λ found. WrongFile name found.0 (conf_fault_name found.1)) (conf_fault text)

abbrev pub access_test : List ℕ → List ℕ → Option Fault
access_test name text = option_map (λ found. WrongFile name found.0 (access_fault_name found.1)) (access_fault text)

-- both files were read, and say this
pub record ReadsFiles (names : Names) (conf : Conf) (stanzas : List Stanza) (old new : FilesView) : Type 0 where
  pub conf_says : HasConf names.conf old conf
  pub access_says : HasAccess names.access old stanzas
  pub kept : new ≡ old

-- the access file has this fault, and the configuration has none
pub record FailsAtAccess (names : Names) (fault : Fault) (old new : FilesView) : Type 0 where
  pub conf : Conf
  pub conf_says : HasConf names.conf old conf
  pub fails : FailsFile (access_test names.access) names.access fault old new

-- The first fault of the two files. The configuration is read first.
abbrev pub FailsFiles : Names → Fault → FilesView → FilesView → Type 0
FailsFiles names fault old new = FailsFile (conf_test names.conf) names.conf fault old new ⊎ FailsAtAccess names fault old new
