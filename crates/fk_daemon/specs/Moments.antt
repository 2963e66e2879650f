-- What a crash at each moment of a serving run may leave.
use Rattle.std.specs.Prelude.{ℕ, ◌<◌, ◌≤◌, List, length, take}
use Rattle.std.specs.List.{AllByRecursion}
use Rattle.fk_trace.specs.declared.change.Change.{Change}
use Rattle.fk_trace.specs.Ledger.{after}
use Rattle.fk_run.specs.Run.{Run, trace_of, changes_of}
use Rattle.fk_run.specs.Left.{IsLeft}
use Rattle.fk_host.specs.Disk.{Areas, Told, IfTold, KeepsPast}
use Rattle.fk_journal.specs.Keeps.{LeavesOthers, UntilSynced}
use Rattle.fk_ledger.specs.Holds.{HoldsState}
use Rattle.fk_ledger.specs.Stretch.{UnlessOlder}
use Rattle.fk_child.specs.View.{View, Moments}

-- An image that a crash at the moment leaves of a run: it holds the State of the run's ledger with the first of the changes that
-- were tried, as many as a crash there leaves of it, and no fewer than `least`.
pub record HoldsRun (run : Run) (tried : List Change) (least moment : ℕ) (image : Areas) : Type 0 where
  pub count : ℕ
  pub enough : least ≤ count
  pub left : IsLeft run tried moment count
  pub holds : HoldsState (after run.ledger (take count tried)) image

-- The moments of a run that tried these changes. Its first calls sync Head and the area that it selects, before the first turn: until
-- they have ended well each image is one that stood at entry; from then on each is what a crash leaves of the run, and at exit it has
-- all changes that were made.
pub record RunMoments (run : Run) (tried : List Change) (old new : ℕ → Areas → Type 0) (start finish : Told) : Type 0 where
  pub past : KeepsPast start.moments old new
  pub unsynced : ℕ
  pub first : UntilSynced unsynced old new start finish
  pub before : AllByRecursion (λ item. unsynced < item.moments) (trace_of run)
  pub then : Moments (HoldsRun run tried) (length (changes_of run)) new new (record start { moments = unsynced }) finish

-- unless the journal was of the older format, the areas on which it does not stand are left
abbrev pub SparesUnlessOlder : View → View → Type 0
SparesUnlessOlder old new = IfTold old.told new.told (UnlessOlder (LeavesOthers old.images new.images))
