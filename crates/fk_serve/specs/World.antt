-- What the objects that a run of the program is handed say of themselves.
use Rattle.std.specs.Prelude.{◌≡◌}
use Rattle.fk_host.specs.declared.disk.Disk.{Ghosts as DiskMeaning}
use Rattle.fk_host.specs.declared.feed.Feed.{Ghosts as FeedMeaning}
use Rattle.fk_host.specs.declared.files.Files.{Ghosts as FilesMeaning}
use Rattle.fk_host.specs.declared.stream.Sink.{Ghosts as SinkMeaning}
use Rattle.fk_host.specs.declared.stream.Source.{Ghosts as SourceMeaning}
use Rattle.fk_daemon.specs.Outside.{Outside, outside_by}
use Rattle.fk_program.specs.Files.{FilesView, files_by}
use Rattle.fk_view.specs.Viewing.{SaysTheSame}
use Rattle.fk_trial.specs.Streams.{SourceView, Streams, source_by}

pub record World : Type 1 where
  pub files : FilesView
  pub input : SourceView
  -- the feed, the host and the output
  pub outside : Outside

-- all together, of the objects by what their traits have them tell
abbrev pub world_by : {F E H I K : Type 0} → FilesMeaning F → FeedMeaning E → DiskMeaning H → SourceMeaning I → SinkMeaning K → F → E → H → I → K → World
world_by files_means feed_means disk_means input_means sink_means = λ files feed host input sink. record {
  files = files_by files_means files;
  input = source_by input_means input;
  outside = outside_by feed_means disk_means sink_means feed host sink;
}

-- the input and the output alone
abbrev pub streams_of : World → Streams
streams_of at = record { input = at.input; output = at.outside.sink }

-- nothing was asked of the feed, the host and the input
pub record LeavesRest (old new : World) : Type 0 where
  pub feed : new.outside.feed ≡ old.outside.feed
  pub host : SaysTheSame old.outside.host new.outside.host
  pub input : new.input ≡ old.input
