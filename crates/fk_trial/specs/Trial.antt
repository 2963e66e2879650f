-- What a trial does, whole: one legal run of the daemon's rules over an empty ledger, whose turns are the input's lines and whose
-- log is printed.
use Rattle.std.specs.Prelude.{◌≡◌, ◌⊎◌, ℕ, Bool, true, false, List, [], ◌∷◌, ◌++◌, filter, Option, Some, None, IfSome}
use Rattle.fk_base.specs.declared.status.Status.{Status}
use Rattle.fk_base.specs.declared.status.Status.TheVariants as status
use Rattle.fk_trace.specs.Decision.{FeedTurn}
use Rattle.fk_run.specs.Place.{entry}
use Rattle.fk_run.specs.Run.{Run, Ending, turns_of, trace_of}
use Rattle.fk_run.specs.Run.Ending.{AtEnd, AtWantOfMemory, AtBadLine, AtLongInput, AtReadFault}
use Rattle.fk_run.specs.Legal.{Legal, LegalTurns}
use Rattle.fk_host.specs.Stream.{Takes}
use Rattle.fk_input.specs.declared.fault.LineFault.TheVariants.{BadLine, TooLong}
use Rattle.fk_input.specs.Lines.{pieces, is_fed}
use Rattle.fk_log.specs.declared.verbosity.Verbosity.{Verbosity}
use Rattle.fk_log.specs.Log.{log_text}
use Rattle.fk_log.specs.Log.Opening.{Opened}
use Rattle.fk_log.specs.Log.RefusalLine.{Told}
use Rattle.fk_log.specs.Printing.{Prints}
use Rattle.fk_turn.specs.declared.policy.Policy.{Policy}
use Rattle.fk_turn.specs.Rules.{rules_by}
use Rattle.fk_trial.specs.declared.task.TrialTask.{TrialTask}
use Rattle.fk_trial.specs.Lines.{ReadsTurns, AreWithinLimits}
use Rattle.fk_trial.specs.Streams.{Streams}
use Rattle.fk_trial.specs.Trace.{IsTrialTrace}

-- A run of a trial: over an empty ledger and a host that has no fault yet. No turn of it is cut, whatever it ended with.
pub record IsTrial (policy : Policy) (run : Run) : Type 0 where
  pub rules : run.rules ≡ rules_by policy
  pub ledger : run.ledger ≡ []
  pub faults : run.faults ≡ 0
  pub legal : Legal run
  pub uncut : LegalTurns run.rules (entry run.ledger) AtEnd run.turns
  pub trace : IsTrialTrace (trace_of run)

-- memory was wanting for a line that is a turn: the first lines of the input are those of these turns, and then that one
abbrev pub WantsForLine : Option (List ℕ) → List FeedTurn → Type 0
WantsForLine before turns = IfSome before (λ text.
    (wanting : FeedTurn) × (lines others : List (List ℕ)) × (pieces text ≡ lines ++ others) × ReadsTurns lines (turns ++ wanting ∷ []) None)

-- The turns of a run that ended so, by what the input had and has left, where it tells.
abbrev pub HasTurns : Ending → Option (List ℕ) → Option (List ℕ) → List FeedTurn → Type 0
-- the input was read to its end, and each line is a turn
HasTurns AtEnd before after turns = IfSome before (λ text. ReadsTurns (pieces text) turns None × (after ≡ Some []))
-- the first line that is none, or in which the limit is passed, is at fault
HasTurns (AtBadLine line) before after turns = IfSome before (λ text. ReadsTurns (pieces text) turns (Some (record { line = line; what = BadLine })))
HasTurns (AtLongInput line) before after turns = IfSome before (λ text. ReadsTurns (pieces text) turns (Some (record { line = line; what = TooLong })))
-- of what was taken exactly the lines are turns whose line feed was read, and no byte of it broke a rule before
HasTurns AtReadFault before after turns =
    (taken : List ℕ) × Takes taken before after × ReadsTurns (filter is_fed (pieces taken)) turns None × AreWithinLimits taken
-- before anything was read, or for the line behind these turns, which is a turn too
HasTurns AtWantOfMemory before after turns = ((turns ≡ []) × (after ≡ before)) ⊎ WantsForLine before turns
HasTurns _ before after turns = ⊥

-- the input alone decided the ending: it was read as far as it has lines, or up to its first fault
abbrev pub EndsByInput : Ending → Type 0
EndsByInput AtEnd = Unit {0}
EndsByInput (AtBadLine line) = Unit {0}
EndsByInput (AtLongInput line) = Unit {0}
EndsByInput _ = ⊥

-- a trial of this text, of which the text alone decided the ending
pub record IsTrialOf (policy : Policy) (text : List ℕ) (run : Run) : Type 0 where
  pub trial : IsTrial policy run
  pub left : Option (List ℕ)
  pub reading : HasTurns run.ending (Some text) left (turns_of run)
  pub decided : EndsByInput run.ending

-- what a trial writes: it begins with `ready`, and tells the refusals of all its turns
abbrev pub trial_text : Verbosity → Run → List ℕ
trial_text verbosity run = log_text verbosity Opened Told run

-- The status of a run that ended so; the Bool says whether a write of its log failed. A run that met a fault keeps that one's status.
abbrev pub HasStatus : Ending → Bool → Status → Type 0
HasStatus AtEnd false answer = answer ≡ status.Done
HasStatus AtEnd true answer = answer ≡ status.SinkFault
HasStatus (AtBadLine line) is_broken answer = answer ≡ status.Config
HasStatus (AtLongInput line) is_broken answer = answer ≡ status.Config
HasStatus AtReadFault is_broken answer = answer ≡ status.ReadFault
HasStatus AtWantOfMemory is_broken answer = answer ≡ status.NoMemory
HasStatus _ is_broken answer = ⊥

-- A trial was run to this answer, and its log printed.
pub record Tries (task : TrialTask) (old new : Streams) (answer : Status) : Type 0 where
  pub run : Run
  pub trial : IsTrial task.policy run
  pub reading : HasTurns run.ending old.input.left new.input.left (turns_of run)
  pub is_broken : Bool
  pub printed : Prints (trial_text task.verbosity run) is_broken old.output new.output
  pub answered : HasStatus run.ending is_broken answer
