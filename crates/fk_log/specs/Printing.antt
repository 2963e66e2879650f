-- What the output of a program says of itself, and what printing a text to it leaves.
use Rattle.std.specs.Prelude.{◌≡◌, ℕ, Bool, true, false, List, Option}
use Rattle.fk_host.specs.Count.{counted}
use Rattle.fk_host.specs.declared.stream.Sink.{Ghosts as SinkMeaning}
use Rattle.fk_host.specs.Stream.{Gives}
use Rattle.fk_log.specs.Writing.{GivesPart}

pub record SinkView : Type 0 where
  -- the bytes that it has taken, where it tells
  pub written : Option (List ℕ)
  pub faults : ℕ

abbrev pub sink_by : {K : Type 0} → SinkMeaning K → K → SinkView
sink_by means sink = record { written = means.written sink; faults = means.faults sink }

-- The text was printed; or a front of it that lacks something was, and then a write failed, once. The Bool says which.
abbrev pub Prints : List ℕ → Bool → SinkView → SinkView → Type 0
Prints text false old new = Gives text old.written new.written × (new.faults ≡ old.faults)
Prints text true old new = GivesPart text old.written new.written × (new.faults ≡ counted old.faults)
