-- What the files, the entropy, the link and the output of a client say of themselves.
use Rattle.std.specs.Prelude.{ℕ, List, Option}
use Rattle.fk_host.specs.Count.{counted}
use Rattle.fk_host.specs.Link.{Sendings}
use Rattle.fk_host.specs.declared.entropy.Entropy.{Ghosts as EntropyMeaning}
use Rattle.fk_host.specs.declared.files.Files.{Ghosts as FilesMeaning}
use Rattle.fk_host.specs.declared.link.Link.{Ghosts as LinkMeaning}
use Rattle.fk_host.specs.declared.stream.Sink.{Ghosts as SinkMeaning}
use Rattle.fk_log.specs.Printing.{SinkView, sink_by}
use Rattle.fk_program.specs.Files.{FilesView, files_by}

pub record EntropyView : Type 0 where
  -- the bytes that it has left, where it tells
  pub left : Option (List ℕ)
  pub faults : ℕ

pub record LinkView : Type 0 where
  -- the datagrams that it has sent, where it tells
  pub told : Option Sendings
  pub faults : ℕ

pub record Outside : Type 0 where
  pub files : FilesView
  pub entropy : EntropyView
  pub link : LinkView
  pub sink : SinkView

abbrev pub entropy_by : {N : Type 0} → EntropyMeaning N → N → EntropyView
entropy_by means entropy = record { left = means.left entropy; faults = means.faults entropy }

abbrev pub link_by : {L : Type 0} → LinkMeaning L → L → LinkView
link_by means link = record { told = means.told link; faults = means.faults link }

-- the four together, of the objects by what their traits have them tell
abbrev pub outside_by : {F N L K : Type 0} → FilesMeaning F → EntropyMeaning N → LinkMeaning L → SinkMeaning K → F → N → L → K → Outside
outside_by files_means entropy_means link_means sink_means = λ files entropy link sink. record {
  files = files_by files_means files;
  entropy = entropy_by entropy_means entropy;
  link = link_by link_means link;
  sink = sink_by sink_means sink;
}

-- the entropy failed, and has taken nothing
abbrev pub undrawn : EntropyView → EntropyView
undrawn entropy = record entropy { faults = counted entropy.faults }

-- the link failed, and has sent nothing
abbrev pub unsent : LinkView → LinkView
unsent link = record link { faults = counted link.faults }
