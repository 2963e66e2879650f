-- Why a client comes to nothing: its status, and the one line that says so.
use Rattle.std.specs.Prelude.{ℕ, List, Option, Some}
use Rattle.fk_base.specs.declared.status.Status.{Status}
use Rattle.fk_base.specs.declared.status.Status.TheVariants as status
use Rattle.fk_log.specs.Printing.{SinkView}
use Rattle.fk_program.specs.Faults.{Fault as CommonFault, fault_of as common_fault_of, fault_status as common_status, fault_text as common_text}
use Rattle.fk_program.specs.Telling.{Stops}
use Rattle.fk_client.specs.declared.refusal.Refusal.{Refusal}
use Rattle.fk_client.specs.declared.refusal.Refusal.TheVariants as refusal
use Rattle.fk_client.specs.ClientText.{need_text, entropy_text, link_text}

pub data Fault : Type 0 where
  -- of the words or the file, or for want of memory
  Common : CommonFault → Fault
  -- what is needed and the file of this name does not give
  LacksSetting : List ℕ → List ℕ → Fault
  EntropyFails : Fault
  LinkFails : Fault

abbrev pub fault_status : Fault → Status
fault_status (Common fault) = common_status fault
fault_status (LacksSetting name what) = status.Config
fault_status EntropyFails = status.EntropyFault
fault_status LinkFails = status.LinkFault

-- the line of a fault, where it has one
abbrev pub fault_text : Fault → Option (List ℕ)
fault_text (Common fault) = common_text fault
fault_text (LacksSetting name what) = Some (need_text name what)
fault_text EntropyFails = Some entropy_text
fault_text LinkFails = Some link_text

-- the client came to nothing for this fault
abbrev pub Tells : Fault → SinkView → SinkView → Status → Type 0
Tells fault old new answer = Stops (fault_status fault) (fault_text fault) old new answer

-- the fault that a refusal tells
abbrev pub fault_of : Refusal → Fault
fault_of (refusal.Common common) = Common (common_fault_of common)
fault_of (refusal.Need name what) = LacksSetting name.now what.now
fault_of refusal.Entropy = EntropyFails
fault_of refusal.Link = LinkFails
