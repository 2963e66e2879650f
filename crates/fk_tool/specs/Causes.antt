-- What the answer of the tool says of the counts of faults, and the other way round.
use Rattle.fk_base.specs.declared.status.Status.{Status}
use Rattle.fk_base.specs.declared.status.Status.TheVariants as status
use Rattle.fk_log.specs.Causes.{FailsOnlyAs, FailsSink}
use Rattle.fk_tool.specs.Outside.{Outside}

-- each object has failed, once, exactly where the answer is its fault's; the output may have failed behind another fault
pub record FailsByAnswer (answer : Status) (old new : Outside) : Type 0 where
  pub files : FailsOnlyAs status.FileFault answer old.files.faults new.files.faults
  pub entropy : FailsOnlyAs status.EntropyFault answer old.entropy.faults new.entropy.faults
  pub disk : FailsOnlyAs status.DiskFault answer old.disk.faults new.disk.faults
  pub input : FailsOnlyAs status.ReadFault answer old.input.faults new.input.faults
  pub sink : FailsSink answer old.sink.faults new.sink.faults
