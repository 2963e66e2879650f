-- What the answer of a run says of the counts of faults, and the other way round.
use Rattle.std.specs.Prelude.{◌≡◌, ◌≢◌, ◌⊎◌, ℕ}
use Rattle.fk_base.specs.declared.status.Status.{Status}
use Rattle.fk_base.specs.declared.status.Status.TheVariants as status
use Rattle.fk_host.specs.Count.{counted}

-- an object failed, once, exactly where the answer is this fault's
abbrev pub FailsOnlyAs : Status → Status → ℕ → ℕ → Type 0
FailsOnlyAs fault answer old new = ((answer ≡ fault) × (new ≡ counted old)) ⊎ ((answer ≢ fault) × (new ≡ old))

-- The output failed, once, or not at all: at Done it did not, at SinkFault it did. Another fault's answer hides that of the output.
abbrev pub FailsSink : Status → ℕ → ℕ → Type 0
FailsSink status.Done old new = new ≡ old
FailsSink status.SinkFault old new = new ≡ counted old
FailsSink _ old new = (new ≡ old) ⊎ (new ≡ counted old)
