-- What the counts of faults are after a serving run, by its answer.
use Rattle.std.proofs.Common.{◌≡◌, ◌⊎◌, ℕ, Bool, true, false, List, refl, sym, ap, subst, inl, inr}
use Rattle.fk_base.specs.declared.status.Status.{Status}
use Rattle.fk_base.specs.declared.status.Status.TheVariants as status
use Rattle.fk_run.specs.Run.{Ending}
use Rattle.fk_run.specs.Run.Ending.{AtLimit, AtEnd, AtFeedFault, AtDiskFault, AtWantOfMemory, AtBadLine, AtLongInput, AtReadFault}
use Rattle.fk_host.specs.Count.{counted}
use Rattle.fk_log.specs.declared.verbosity.Verbosity.{Verbosity}
use Rattle.fk_daemon.specs.declared.task.Task.{Task}
use Rattle.fk_log.specs.Printing.{SinkView, Prints}
use Rattle.fk_daemon.specs.Outside.{FeedView, Outside}
use Rattle.fk_daemon.specs.Serving.{HasStatus, HasCauses, Serves, SaysWhyUnopened}
use Rattle.fk_log.specs.Causes.{FailsOnlyAs, FailsSink}

-- what a run's ending and its answer say of the three counts
pub record Counts (answer : Status) (old new : Outside) : Type 0 where
  pub feed : FailsOnlyAs status.FeedFault answer old.feed.faults new.feed.faults
  pub disk : FailsOnlyAs status.DiskFault answer old.host.faults new.host.faults
  pub sink : FailsSink answer old.sink.faults new.sink.faults

printed-once : (is_broken : Bool) (text : List ℕ) (old new : SinkView) → Prints text is_broken old new → (new.faults ≡ old.faults) ⊎ (new.faults ≡ counted old.faults)
printed-once false text old new prints = inl prints.1
printed-once true text old new prints = inr prints.1

run-counts : (ending : Ending) (is_broken : Bool) (text : List ℕ) (answer : Status) (old new : Outside) → HasStatus ending is_broken answer → HasCauses ending old new
    → Prints text is_broken old.sink new.sink → Counts answer old new
run-counts AtLimit false text answer old new is causes prints = record {
  feed = inr (λ e. let f = is in cc, causes.feed);
  disk = inr (λ e. let f = is in cc, causes.disk);
  sink = subst (λ (a : Status). FailsSink a old.sink.faults new.sink.faults) (sym is) prints.1;
}
run-counts AtLimit true text answer old new is causes prints = record {
  feed = inr (λ e. let f = is in cc, causes.feed);
  disk = inr (λ e. let f = is in cc, causes.disk);
  sink = subst (λ (a : Status). FailsSink a old.sink.faults new.sink.faults) (sym is) prints.1;
}
run-counts AtEnd false text answer old new is causes prints = record {
  feed = inr (λ e. let f = is in cc, causes.feed);
  disk = inr (λ e. let f = is in cc, causes.disk);
  sink = subst (λ (a : Status). FailsSink a old.sink.faults new.sink.faults) (sym is) prints.1;
}
run-counts AtEnd true text answer old new is causes prints = record {
  feed = inr (λ e. let f = is in cc, causes.feed);
  disk = inr (λ e. let f = is in cc, causes.disk);
  sink = subst (λ (a : Status). FailsSink a old.sink.faults new.sink.faults) (sym is) prints.1;
}
run-counts AtFeedFault is_broken text answer old new is causes prints = record {
  feed = inl (is, causes.feed);
  disk = inr (λ e. let f = is in cc, causes.disk);
  sink = subst (λ (a : Status). FailsSink a old.sink.faults new.sink.faults) (sym is) (printed-once is_broken text old.sink new.sink prints);
}
run-counts AtDiskFault is_broken text answer old new is causes prints = record {
  feed = inr (λ e. let f = is in cc, causes.feed);
  disk = inl (is, causes.disk);
  sink = subst (λ (a : Status). FailsSink a old.sink.faults new.sink.faults) (sym is) (printed-once is_broken text old.sink new.sink prints);
}
run-counts AtWantOfMemory is_broken text answer old new is causes prints = record {
  feed = inr (λ e. let f = is in cc, causes.feed);
  disk = inr (λ e. let f = is in cc, causes.disk);
  sink = subst (λ (a : Status). FailsSink a old.sink.faults new.sink.faults) (sym is) (printed-once is_broken text old.sink new.sink prints);
}
run-counts (AtBadLine line) is_broken text answer old new is causes prints = absurd is
run-counts (AtLongInput line) is_broken text answer old new is causes prints = absurd is
run-counts AtReadFault is_broken text answer old new is causes prints = absurd is

unopened-counts : (verbosity : Verbosity) (answer : Status) (is_broken : Bool) (old new : Outside) → new.feed ≡ old.feed → SaysWhyUnopened verbosity answer is_broken old new
    → Counts answer old new
unopened-counts verbosity status.DiskFault is_broken old new same why = record {
  feed = inr (λ e. cc, ap (λ (feed : FeedView). feed.faults) same);
  disk = inl (refl, why.1);
  sink = printed-once is_broken _ old.sink new.sink why.0;
}
unopened-counts verbosity status.Damaged is_broken old new same why = record {
  feed = inr (λ e. cc, ap (λ (feed : FeedView). feed.faults) same);
  disk = inr (λ e. cc, why.3);
  sink = printed-once is_broken _ old.sink new.sink why.2;
}
unopened-counts verbosity status.NoMemory is_broken old new same why = record {
  feed = inr (λ e. cc, ap (λ (feed : FeedView). feed.faults) same);
  disk = inr (λ e. cc, why.2);
  sink = inl (ap (λ (sink : SinkView). sink.faults) why.1);
}
unopened-counts verbosity status.Done is_broken old new same why = absurd why
unopened-counts verbosity status.Usage is_broken old new same why = absurd why
unopened-counts verbosity status.Config is_broken old new same why = absurd why
unopened-counts verbosity status.FileFault is_broken old new same why = absurd why
unopened-counts verbosity status.FeedFault is_broken old new same why = absurd why
unopened-counts verbosity status.SinkFault is_broken old new same why = absurd why
unopened-counts verbosity status.ReadFault is_broken old new same why = absurd why
unopened-counts verbosity status.LinkFault is_broken old new same why = absurd why
unopened-counts verbosity status.EntropyFault is_broken old new same why = absurd why

pub serving-counts : (task : Task) (old new : Outside) (answer : Status) → Serves task old new answer → Counts answer old new
serving-counts task old new answer serves =
    elim serves [
      | inl run ↦ run-counts run.account.run.ending run.is_broken _ answer old new run.answered run.caused run.printed
      | inr none ↦ unopened-counts task.verbosity answer none.is_broken old new none.feed none.why
    ]
