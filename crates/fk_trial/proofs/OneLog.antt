-- Two trials that took the same turns have the same events and the same log.
use Rattle.std.proofs.Common.{◌≡◌, ℕ, List, [], ◌∷◌, ◌++◌, length, map, Option, Some, None, refl, sym, ap, ◌∙◌, subst}
use Rattle.fk_trace.specs.declared.change.Change.{Change}
use Rattle.fk_trace.specs.Ledger.{after, live}
use Rattle.fk_trace.specs.Decision.{FeedTurn, Rules}
use Rattle.fk_run.specs.Place.{entry}
use Rattle.fk_run.specs.Run.{Run, Ending, turns_of, trace_of}
use Rattle.fk_run.specs.Run.Ending.{AtLimit, AtEnd, AtFeedFault, AtDiskFault, AtWantOfMemory, AtBadLine, AtLongInput, AtReadFault}
use Rattle.fk_run.specs.Legal.{LegalTurns}
use Rattle.fk_input.specs.declared.fault.Fault.{Fault}
use Rattle.fk_input.specs.declared.fault.LineFault.{LineFault}
use Rattle.fk_input.specs.declared.fault.LineFault.TheVariants.{BadLine, TooLong}
use Rattle.fk_input.specs.Lines.{pieces}
use Rattle.fk_input.proofs.Readings.{Reads-one}
use Rattle.fk_log.specs.declared.verbosity.Verbosity.{Verbosity}
use Rattle.fk_log.specs.Line.{Line}
use Rattle.fk_log.specs.Line.Line.{ReadyLine}
use Rattle.fk_log.specs.Log.{lines_of_turns, ending_lines, summary_of, log_text}
use Rattle.fk_log.specs.Log.Opening.{Opened}
use Rattle.fk_log.specs.Log.RefusalLine.{Told}
use Rattle.fk_log.specs.Shown.{shown_text}
use Rattle.fk_turn.specs.declared.policy.Policy.{Policy}
use Rattle.fk_turn.specs.Rules.{rules_by}
use Rattle.fk_trial.specs.Lines.{IsTurnLine, ReadsTurns}
use Rattle.fk_trial.specs.Trial.{IsTrial, IsTrialOf, HasTurns, EndsByInput}
use Rattle.fk_trial.proofs.Alike.{same-events}
use Rattle.fk_trial.proofs.Numbers.{counted-trace}
use Rattle.fk_trial.proofs.OneTurn.{one-turn}
use Rattle.fk_trial.proofs.SameRuns.{AreSame, same-turns, same-length, changes_of}

-- the lines of a run, of what they are made of
abbrev lines_by : List Change → List Line → ℕ → List Change → Ending → List Line
lines_by ledger lines count changes ending =
    let before : List Line = ReadyLine (length (live ledger)) ∷ [] ++ lines in
    before ++ ending_lines ending (summary_of before count (length (live (after ledger changes))))

module _ (policy : Policy) (a b : Run) (ta : IsTrial policy a) (tb : IsTrial policy b) (turns : turns_of a ≡ turns_of b) where
  abbrev rules : Rules
  rules = rules_by policy

  legal : (run : Run) → IsTrial policy run → LegalTurns rules (entry []) AtEnd run.turns
  legal run trial =
      subst (λ (r : Rules). LegalTurns r (entry []) AtEnd run.turns) trial.rules
      (subst (λ (ledger : List Change). LegalTurns run.rules (entry ledger) AtEnd run.turns) trial.ledger trial.uncut)

  same : AreSame rules (entry []) (entry []) a.turns b.turns
  same =
      same-turns rules (entry []) (entry []) 0 a.turns b.turns (record { past = tt; ends = refl; ledger = refl; number = refl }) turns (legal a ta) (legal b tb)
      ta.trace.well tb.trace.well (counted-trace (trace_of a) _ ta.trace.numbers) (counted-trace (trace_of b) _ tb.trace.numbers)

  pub same-trace : map (λ item. item.event) (trace_of a) ≡ map (λ item. item.event) (trace_of b)
  same-trace = same-events (trace_of a) (trace_of b) same.items

  lines : (run : Run) → IsTrial policy run → lines_of_turns run.rules (entry run.ledger) Told run.turns ≡ lines_of_turns rules (entry []) Told run.turns
  lines run trial =
      ap (λ (r : Rules). lines_of_turns r (entry run.ledger) Told run.turns) trial.rules
      ∙ ap (λ (ledger : List Change). lines_of_turns rules (entry ledger) Told run.turns) trial.ledger

  pub same-log : (verbosity : Verbosity) → a.ending ≡ b.ending → log_text verbosity Opened Told a ≡ log_text verbosity Opened Told b
  same-log verbosity ending =
      ap (shown_text verbosity)
      (ap (λ (ls : List Line). lines_by a.ledger ls (length a.turns) (changes_of a.turns) a.ending) (lines a ta ∙ same.lines ∙ sym (lines b tb))
      ∙ ap (λ (ledger : List Change). lines_by ledger (lines_of_turns b.rules (entry b.ledger) Told b.turns) (length a.turns) (changes_of a.turns) a.ending) (ta.ledger ∙ sym tb.ledger)
      ∙ ap (λ (n : ℕ). lines_by b.ledger (lines_of_turns b.rules (entry b.ledger) Told b.turns) n (changes_of a.turns) a.ending) (same-length a.turns b.turns turns)
      ∙ ap (λ (made : List Change). lines_by b.ledger (lines_of_turns b.rules (entry b.ledger) Told b.turns) (length b.turns) made a.ending) same.changes
      ∙ ap (λ (end : Ending). lines_by b.ledger (lines_of_turns b.rules (entry b.ledger) Told b.turns) (length b.turns) (changes_of b.turns) end) ending)

-- the fault of a line that an ending tells
abbrev fault_of : Ending → Option Fault
fault_of AtLimit = None
fault_of AtEnd = None
fault_of AtFeedFault = None
fault_of AtDiskFault = None
fault_of AtWantOfMemory = None
fault_of (AtBadLine line) = Some (record { line = line; what = BadLine })
fault_of (AtLongInput line) = Some (record { line = line; what = TooLong })
fault_of AtReadFault = None

reads : (ending : Ending) (text : List ℕ) (left : Option (List ℕ)) (turns : List FeedTurn) → EndsByInput ending → HasTurns ending (Some text) left turns
    → ReadsTurns (pieces text) turns (fault_of ending)
reads AtEnd text left turns by has = has.0
reads (AtBadLine line) text left turns by has = has
reads (AtLongInput line) text left turns by has = has
reads AtLimit text left turns by has = absurd by
reads AtFeedFault text left turns by has = absurd by
reads AtDiskFault text left turns by has = absurd by
reads AtWantOfMemory text left turns by has = absurd by
reads AtReadFault text left turns by has = absurd by

abbrev line_in : Option Fault → ℕ
line_in None = 0
line_in (Some fault) = fault.line

abbrev what_in : Option Fault → LineFault
what_in None = BadLine
what_in (Some fault) = fault.what

same-ending : (a b : Ending) → EndsByInput a → EndsByInput b → fault_of a ≡ fault_of b → a ≡ b
same-ending AtEnd AtEnd by other faults = refl
same-ending AtEnd (AtBadLine line) by other faults = absurd cc
same-ending AtEnd (AtLongInput line) by other faults = absurd cc
same-ending (AtBadLine line) AtEnd by other faults = absurd cc
same-ending (AtBadLine line) (AtBadLine number) by other faults = ap AtBadLine (ap line_in faults)
same-ending (AtBadLine line) (AtLongInput number) by other faults = absurd (let what : BadLine ≡ TooLong = ap what_in faults in cc)
same-ending (AtLongInput line) AtEnd by other faults = absurd cc
same-ending (AtLongInput line) (AtBadLine number) by other faults = absurd (let what : TooLong ≡ BadLine = ap what_in faults in cc)
same-ending (AtLongInput line) (AtLongInput number) by other faults = ap AtLongInput (ap line_in faults)
same-ending AtLimit b by other faults = absurd by
same-ending AtFeedFault b by other faults = absurd by
same-ending AtDiskFault b by other faults = absurd by
same-ending AtWantOfMemory b by other faults = absurd by
same-ending AtReadFault b by other faults = absurd by
same-ending a AtLimit by other faults = absurd other
same-ending a AtFeedFault by other faults = absurd other
same-ending a AtDiskFault by other faults = absurd other
same-ending a AtWantOfMemory by other faults = absurd other
same-ending a AtReadFault by other faults = absurd other

pub one-log : (policy : Policy) (verbosity : Verbosity) (text : List ℕ) (a b : Run) → IsTrialOf policy text a → IsTrialOf policy text b
    → log_text verbosity Opened Told a ≡ log_text verbosity Opened Told b
one-log policy verbosity text a b ta tb =
    let one = Reads-one IsTurnLine one-turn (reads a.ending text ta.left (turns_of a) ta.decided ta.reading) (reads b.ending text tb.left (turns_of b) tb.decided tb.reading) in
    same-log policy a b ta.trial tb.trial one.0 verbosity (same-ending a.ending b.ending ta.decided tb.decided one.1)
