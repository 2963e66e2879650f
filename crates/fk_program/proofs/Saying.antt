-- What a line, or a text, leaves of the output.
use Rattle.std.proofs.Common.{◌≡◌, ◌⊎◌, ℕ, ◌<◌, Bool, true, false, List, length, take, Option, Some, None, Result, Ok, Err, ap, inl, inr}
use Rattle.std.specs.Prelude.{is_err}
use Rattle.std.specs.Result.{OnOk, OnErr}
use Rattle.fk_base.specs.declared.memory.Failed.{Failed}
use Rattle.fk_host.specs.Count.{counted, HasCause}
use Rattle.fk_host.specs.Stream.{Gives}
use Rattle.fk_log.specs.Printing.{SinkView, Prints}
use Rattle.fk_log.proofs.Drafts.{GivesPart-cut}
use Rattle.fk_program.specs.Telling.{Says}

-- a printed text counts a fault of the output, or none
printed-once : (is_broken : Bool) (text : List ℕ) (old new : SinkView) → Prints text is_broken old new → (new.faults ≡ old.faults) ⊎ (new.faults ≡ counted old.faults)
printed-once false text old new prints = inl prints.1
printed-once true text old new prints = inr prints.1

pub said-once : (line : Option (List ℕ)) (old new : SinkView) → Says line old new → (new.faults ≡ old.faults) ⊎ (new.faults ≡ counted old.faults)
said-once None old new same = inl (ap (λ (sink : SinkView). sink.faults) same)
said-once (Some text) old new says = printed-once says.0 text old new says.1

-- a piece was written, whole or in part
pub wrote : {T : Type 0} (text : List ℕ) (result : Result T Failed) (old new : SinkView) → OnOk result (Gives text old.written new.written)
    → OnErr result ((n : ℕ) × (n < length text) × Gives (take n text) old.written new.written) → HasCause old.faults new.faults result
    → Prints text (is_err result) old new
wrote text (Ok x) old new given part cause = (given, cause)
wrote text (Err e) old new given part cause = (GivesPart-cut text part.0 old.written new.written part.1 part.2, cause)
