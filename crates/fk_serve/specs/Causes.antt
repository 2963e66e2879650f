-- What the answer of a run says of the counts of faults, and the other way round.
use Rattle.fk_base.specs.declared.status.Status.{Status}
use Rattle.fk_base.specs.declared.status.Status.TheVariants as status
use Rattle.fk_log.specs.Causes.{FailsOnlyAs, FailsSink}
use Rattle.fk_serve.specs.World.{World}

-- each object has failed, once, exactly where the answer is its fault's; the output may have failed behind another fault
pub record FailsByAnswer (answer : Status) (old new : World) : Type 0 where
  pub files : FailsOnlyAs status.FileFault answer old.files.faults new.files.faults
  pub feed : FailsOnlyAs status.FeedFault answer old.outside.feed.faults new.outside.feed.faults
  pub disk : FailsOnlyAs status.DiskFault answer old.outside.host.faults new.outside.host.faults
  pub input : FailsOnlyAs status.ReadFault answer old.input.faults new.input.faults
  pub output : FailsSink answer old.outside.sink.faults new.outside.sink.faults
