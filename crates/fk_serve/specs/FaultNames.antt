-- The names under which a log tells the faults of the access file.
use Rattle.std.specs.Prelude.{ℕ, List, codes}
use Rattle.fk_access.specs.declared.access_err.AccessWhat.{AccessWhat}
use Rattle.fk_access.specs.declared.access_err.AccessWhat.TheVariants as access
use Rattle.fk_conf.specs.FaultNames.{line_fault_name}

abbrev pub access_fault_name : AccessWhat → List ℕ
access_fault_name access.UnknownName = codes "UnknownName"
access_fault_name access.Twice = codes "Twice"
access_fault_name access.BadValue = codes "BadValue"
access_fault_name access.NoSource = codes "NoSource"
access_fault_name access.NoKey = codes "NoKey"
access_fault_name access.NoHmacKey = codes "NoHmacKey"
access_fault_name access.NoOpen = codes "NoOpen"
access_fault_name access.NoClose = codes "NoClose"
access_fault_name access.NoTimer = codes "NoTimer"
access_fault_name access.TooMany = codes "TooMany"
access_fault_name (access.Line fault) = line_fault_name fault
