-- What there is to tell of a serving run, and which accounts may be told.
use Rattle.std.specs.Prelude.{◌≡◌, ◌≢◌, ◌≤◌, Bool, true, false, List, [], ◌∷◌, ◌++◌, map, IfSome}
use Rattle.fk_trace.specs.declared.change.Change.{Change}
use Rattle.fk_trace.specs.declared.change.Change.TheVariants.{Done}
use Rattle.fk_trace.specs.Ledger.{IsLedger, dones, ends_with_floor, AreOneCall}
use Rattle.fk_trace.specs.Settled.{settlements}
use Rattle.fk_run.specs.declared.limits.Limits.{Limits}
use Rattle.fk_run.specs.Place.{entry}
use Rattle.fk_run.specs.Turn.{TakenTurn, after_turns}
use Rattle.fk_run.specs.Run.{Run, Ending, changes_of}
use Rattle.fk_run.specs.Run.Ending.{AtFeedFault, AtDiskFault, AtWantOfMemory}
use Rattle.fk_run.specs.Legal.{Legal}
use Rattle.fk_run.specs.Ending.{KeepsLimits}
use Rattle.fk_run.specs.Planned.{planned}
use Rattle.fk_log.specs.Log.{Opening, RefusalLine, MayTell}
use Rattle.fk_log.specs.Log.Opening.{Opened, Unopened}
use Rattle.fk_turn.specs.Rules.{rules_by}
use Rattle.fk_daemon.specs.declared.task.Task.{Task}

pub record Account : Type 0 where
  pub run : Run
  -- whether the feed was opened
  pub opening : Opening
  -- whether the log has the refusal of a turn that was cut
  pub refusal : RefusalLine
  -- the changes of the call that failed for the disk, where one did
  pub failing : List Change

-- the changes that a crash may show: those of the run, and those that failed
abbrev pub tried_changes : Account → List Change
tried_changes account = changes_of account.run ++ account.failing

-- each limit that is given is above 0, and that on the turns has 63 bits
pub record AreLimits (limits : Limits) : Type 0 where
  pub packets : IfSome limits.packets (λ most. 1 ≤ most)
  pub turns : IfSome limits.turns (λ most. (1 ≤ most) × (most ≤ 9223372036854775807))

-- all calls of the disk ended well
abbrev pub is_whole : Ending → Bool
is_whole AtDiskFault = false
is_whole _ = true

-- changes fail only where the disk does, those of one call, and are then the next of the planned ones
abbrev pub FailsNext : Ending → List Change → Run → Type 0
FailsNext AtDiskFault failing run =
    AreOneCall failing × ((later : List Change) × (changes_of run ++ failing ++ later ≡ planned run))
FailsNext _ failing run = failing ≡ []

-- a run whose feed was not opened took no turn, and ended there
abbrev pub OpensFeed : Opening → Run → Type 0
OpensFeed Opened run = Unit {0}
OpensFeed Unopened run = (run.turns ≡ []) × (run.ending ≡ AtFeedFault)

-- A legal run of the daemon for this task.
pub record IsServing (task : Task) (account : Account) : Type 0 where
  pub rules : account.run.rules ≡ rules_by task.policy
  pub ledger : IsLedger account.run.ledger
  pub legal : Legal account.run
  pub limits : KeepsLimits task.limits account.run
  -- where memory is wanting, the settlements of that turn are made
  pub settled : account.run.ending ≡ AtWantOfMemory → (front : List TakenTurn) (last : TakenTurn) → account.run.turns ≡ front ++ last ∷ []
      → map Done (dones last.changes) ≡ settlements (after_turns (entry account.run.ledger) front).past last.items
  -- once a ledger was opened memory is wanting in a turn alone
  pub wants : account.run.ending ≡ AtWantOfMemory → account.run.turns ≢ []
  pub opens : OpensFeed account.opening account.run
  pub tells : MayTell account.run account.refusal
  pub fails : FailsNext account.run.ending account.failing account.run
  -- and what it made does not end with a Floor
  pub whole : ends_with_floor (changes_of account.run) ≡ false
