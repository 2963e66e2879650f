-- What the feed, the host and the output of a serving run say of themselves.
use Rattle.std.specs.Prelude.{◌≡◌, ℕ, Bool, List, ◌++◌, Option, Some, IfSome}
use Rattle.fk_trace.specs.Decision.{FeedTurn}
use Rattle.fk_host.specs.declared.feed.Feed.{Ghosts as FeedMeaning}
use Rattle.fk_host.specs.declared.disk.Disk.{Ghosts as DiskMeaning}
use Rattle.fk_host.specs.declared.stream.Sink.{Ghosts as SinkMeaning}
use Rattle.fk_host.specs.Feed.{Given}
use Rattle.fk_log.specs.Log.{Opening}
use Rattle.fk_log.specs.Log.Opening.{Opened, Unopened}
use Rattle.fk_log.specs.Printing.{SinkView, sink_by}
use Rattle.fk_child.specs.View.{View, view_of}

pub record FeedView : Type 0 where
  -- the turns that it has given and its port, where it tells
  pub given : Option Given
  pub faults : ℕ
  -- its last call has answered that no turn comes any more
  pub has_ended : Bool

pub record Outside : Type 1 where
  pub feed : FeedView
  pub host : View
  pub sink : SinkView

abbrev pub feed_by : {E : Type 0} → FeedMeaning E → E → FeedView
feed_by means feed = record { given = means.told feed; faults = means.faults feed; has_ended = means.has_ended feed }

-- the three together, of the objects by what they mean
abbrev pub outside_by : {E H K : Type 0} → FeedMeaning E → DiskMeaning H → SinkMeaning K → E → H → K → Outside
outside_by feed_means disk_means sink_means feed host sink =
    record { feed = feed_by feed_means feed; host = view_of disk_means host; sink = sink_by sink_means sink }

-- The feed was opened at this port and then gave these turns, or it was not opened. One that doesn't tell claims nothing.
abbrev pub Feeds : Opening → ℕ → List FeedTurn → Option Given → Option Given → Type 0
Feeds Opened port turns old new = IfSome old (λ given. new ≡ Some (record { turns = given.turns ++ turns; port = Some port }))
Feeds Unopened port turns old new = new ≡ old
