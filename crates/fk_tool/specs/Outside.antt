-- What the files, the entropy, the disk, the input and the output of the tool say of themselves.
use Rattle.fk_host.specs.declared.disk.Disk.{Ghosts as DiskMeaning}
use Rattle.fk_host.specs.declared.entropy.Entropy.{Ghosts as EntropyMeaning}
use Rattle.fk_host.specs.declared.files.Files.{Ghosts as FilesMeaning}
use Rattle.fk_host.specs.declared.stream.Sink.{Ghosts as SinkMeaning}
use Rattle.fk_host.specs.declared.stream.Source.{Ghosts as SourceMeaning}
use Rattle.fk_child.specs.View.{View, view_of}
use Rattle.fk_client.specs.Outside.{EntropyView, entropy_by}
use Rattle.fk_log.specs.Printing.{SinkView, sink_by}
use Rattle.fk_program.specs.Files.{FilesView, files_by}
use Rattle.fk_tool.specs.Streams.{SourceView, Streams, source_by}

pub record Outside : Type 1 where
  pub files : FilesView
  pub entropy : EntropyView
  pub disk : View
  pub input : SourceView
  pub sink : SinkView

-- the five together, of the objects by what their traits have them tell
abbrev pub outside_by : {F N D I K : Type 0} → FilesMeaning F → EntropyMeaning N → DiskMeaning D → SourceMeaning I → SinkMeaning K → F → N → D → I → K → Outside
outside_by files_means entropy_means disk_means source_means sink_means = λ files entropy disk input sink. record {
  files = files_by files_means files;
  entropy = entropy_by entropy_means entropy;
  disk = view_of disk_means disk;
  input = source_by source_means input;
  sink = sink_by sink_means sink;
}

-- what a job over lines has to do with
abbrev pub streams_of : Outside → Streams
streams_of outside = record { entropy = outside.entropy; input = outside.input; sink = outside.sink }
