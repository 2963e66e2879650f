-- What the input and the output of a trial say of themselves.
use Rattle.std.specs.Prelude.{ℕ, ◌≤◌, List, length, Option}
use Rattle.fk_host.specs.declared.stream.Source.{Ghosts as SourceMeaning}
use Rattle.fk_host.specs.declared.stream.Sink.{Ghosts as SinkMeaning}
use Rattle.fk_host.specs.Stream.{Takes}
use Rattle.fk_log.specs.Printing.{SinkView, sink_by}

pub record SourceView : Type 0 where
  -- the bytes that it has left, where it tells
  pub left : Option (List ℕ)
  pub faults : ℕ

pub record Streams : Type 0 where
  pub input : SourceView
  pub output : SinkView

abbrev pub source_by : {I : Type 0} → SourceMeaning I → I → SourceView
source_by means input = record { left = means.left input; faults = means.faults input }

-- the two together, of the objects by what they mean
abbrev pub streams_by : {I K : Type 0} → SourceMeaning I → SinkMeaning K → I → K → Streams
streams_by source sink input out = record { input = source_by source input; output = sink_by sink out }

-- at most so many bytes were taken from the front of the input
abbrev pub TakesAtMost : ℕ → Option (List ℕ) → Option (List ℕ) → Type 0
TakesAtMost most before after = (taken : List ℕ) × (length taken ≤ most) × Takes taken before after
