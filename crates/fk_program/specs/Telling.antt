-- What a program prints of what was done, or of why it comes to nothing, and its status.
use Rattle.std.specs.Prelude.{◌≡◌, ℕ, Bool, true, false, List, Option, Some, None}
use Rattle.fk_base.specs.declared.status.Status.{Status}
use Rattle.fk_base.specs.declared.status.Status.TheVariants as status
use Rattle.fk_log.specs.Printing.{SinkView, Prints}

-- the status of what was done, if a write of its text did not fail, or did
abbrev pub printed_status : Bool → Status
printed_status false = status.Done
printed_status true = status.SinkFault

-- what was asked for was done, and this text printed, or a front of it where the output failed
pub record Shows (text : List ℕ) (old new : SinkView) (answer : Status) : Type 0 where
  pub is_broken : Bool
  pub printed : Prints text is_broken old new
  pub answered : answer ≡ printed_status is_broken

-- this line was printed, or a front of it; without a line nothing was asked of the output
abbrev pub Says : Option (List ℕ) → SinkView → SinkView → Type 0
Says None old new = new ≡ old
Says (Some text) old new = (is_broken : Bool) × Prints text is_broken old new

-- a program came to nothing with this status, and this line is all that was printed
pub record Stops (status : Status) (line : Option (List ℕ)) (old new : SinkView) (answer : Status) : Type 0 where
  pub answered : answer ≡ status
  pub said : Says line old new
