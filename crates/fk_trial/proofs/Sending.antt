-- A text that goes to an output.
use Rattle.std.proofs.Common.{◌≡◌, ℕ, ◌<◌, Bool, true, false, List, [], length, take, drop, Result, Ok, Err, OnOk, OnErr, refl, sym, ap, subst, arith}
use Rattle.std.specs.Result.{is_err}
use Rattle.std.proofs.lemmas.List.{take-append-drop, length-drop}
use Rattle.fk_base.specs.declared.memory.Failed.{Failed}
use Rattle.fk_host.specs.Count.{HasCause}
use Rattle.fk_host.specs.Stream.{Gives}
use Rattle.fk_log.specs.Printing.{SinkView}
use Rattle.fk_trial.specs.Sessions.{Sends}

-- behind a write that failed nothing is written
pub sent-broken : (text : List ℕ) (b : Bool) (sink : SinkView) → b ≡ true → Sends text b true sink sink
sent-broken text true sink is = λ log other. (refl, refl)
sent-broken text false sink is = absurd cc

lacks : (n : ℕ) (text : List ℕ) → n < length text → drop n text ≡ [] → ⊥
lacks n text short none = let e = ap length none in omega (arith, e, length-drop n text)

-- a text was tried
pub sent : {T : Type 0} (text : List ℕ) (b failed : Bool) (old new : SinkView) (result : Result T Failed) → b ≡ false → OnOk result (Gives text old.written new.written)
    → OnErr result ((n : ℕ) × (n < length text) × Gives (take n text) old.written new.written) → HasCause old.faults new.faults result → failed ≡ is_err result
    → Sends text b failed old new
sent text true failed old new result whole given part cause is = absurd cc
sent text false failed old new (Ok _) whole given part cause is =
    subst (λ (f : Bool). Sends text false f old new) (sym is) (λ log other. (given, cause))
sent text false failed old new (Err _) whole given part cause is =
    subst (λ (f : Bool). Sends text false f old new) (sym is)
    (λ log other. (
      record { front = take part.0 text; missing = drop part.0 text; cut = sym (take-append-drop part.0 text); lacks = lacks part.0 text part.1; given = part.2 },
      cause,
    ))
