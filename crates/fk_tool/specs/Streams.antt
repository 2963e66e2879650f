-- The input, the entropy and the output of a job over lines, and what it comes to.
use Rattle.std.specs.Prelude.{◌≡◌, ℕ, ◌+◌, ◌≤◌, Bool, List, [], ◌∷◌, ◌++◌, filter, length, Option, None, Some, IfSome}
use Rattle.std.specs.List.{AllByRecursion}
use Rattle.fk_base.specs.declared.status.Status.{Status}
use Rattle.fk_base.specs.declared.status.Status.TheVariants as status
use Rattle.fk_host.specs.Count.{counted}
use Rattle.fk_host.specs.Stream.{Takes}
use Rattle.fk_host.specs.declared.entropy.Entropy.{Ghosts as EntropyMeaning}
use Rattle.fk_host.specs.declared.stream.Sink.{Ghosts as SinkMeaning}
use Rattle.fk_host.specs.declared.stream.Source.{Ghosts as SourceMeaning}
use Rattle.fk_input.specs.declared.fault.Fault.{Fault}
use Rattle.fk_input.specs.declared.fault.LineFault.TheVariants.{BadLine, TooLong}
use Rattle.fk_input.specs.Lines.{Reads, content, input_limit, is_fed, line_limit, pieces}
use Rattle.fk_log.specs.Line.{line_text}
use Rattle.fk_log.specs.Line.Line.{BadLineLine, InputFailedLine, LongInputLine}
use Rattle.fk_log.specs.Printing.{Prints, SinkView, sink_by}
use Rattle.fk_program.specs.Telling.{printed_status}
use Rattle.fk_client.specs.ClientText.{entropy_text}
use Rattle.fk_client.specs.Outside.{EntropyView, entropy_by}
use Rattle.fk_tool.specs.Answers.{AreAnswers, IsRight}
use Rattle.fk_tool.specs.declared.job.Job.{Job}
use Rattle.fk_tool.specs.declared.stop.Stop.{Stop}
use Rattle.fk_tool.specs.declared.stop.Stop.TheVariants as stop

pub record SourceView : Type 0 where
  -- the bytes that it has left, where it tells
  pub left : Option (List ℕ)
  pub faults : ℕ

pub record Streams : Type 0 where
  pub entropy : EntropyView
  pub input : SourceView
  pub sink : SinkView

abbrev pub source_by : {I : Type 0} → SourceMeaning I → I → SourceView
source_by means input = record { left = means.left input; faults = means.faults input }

-- the three together, of the objects by what their traits have them tell
abbrev pub streams_by : {N I K : Type 0} → EntropyMeaning N → SourceMeaning I → SinkMeaning K → N → I → K → Streams
streams_by entropy_means source_means sink_means = λ entropy input sink. record {
  entropy = entropy_by entropy_means entropy;
  input = source_by source_means input;
  sink = sink_by sink_means sink;
}

-- the line is this one, and one of the job's input
abbrev pub IsJobLine : Job → (line right : List ℕ) → Type 0
IsJobLine job line right = (right ≡ line) × IsRight job line

-- what pieces of an input say: the lines that are right, up to the first fault
abbrev pub ReadsLines : Job → (pieces lines : List (List ℕ)) → Option Fault → Type 0
ReadsLines job pieces lines fault = Reads (IsJobLine job) 0 1 pieces lines fault

-- no byte of these shows that a limit is passed: no line of them is too long, the unfinished last one neither, and together they are
-- no input that is too long
pub record AreWithinLimits (bytes : List ℕ) : Type 0 where
  pub lines : AllByRecursion (λ piece. length (content piece) ≤ line_limit) (pieces bytes)
  pub whole : length bytes ≤ input_limit

-- the first lines of the input are these and one that is right too, at which something else failed
abbrev pub StopsBehind : Job → Option (List ℕ) → List (List ℕ) → Type 0
StopsBehind job before lines = IfSome before (λ text.
    (line : List ℕ) × (front others : List (List ℕ)) × (pieces text ≡ front ++ others) × ReadsLines job front (lines ++ line ∷ []) None)

-- The lines that were answered before a stop, by what the input had and has left, where it tells.
abbrev pub HasLines : Job → Stop → Option (List ℕ) → Option (List ℕ) → List (List ℕ) → Type 0
-- the input was read to its end, and each line is right
HasLines job stop.End before after lines = IfSome before (λ text. ReadsLines job (pieces text) lines None × (after ≡ Some []))
-- the first line that is not right, or in which the limit is passed, is at fault
HasLines job stop.BadLine before after lines =
    IfSome before (λ text. ReadsLines job (pieces text) lines (Some (record { line = length lines + 1; what = BadLine })))
HasLines job stop.LongInput before after lines =
    IfSome before (λ text. ReadsLines job (pieces text) lines (Some (record { line = length lines + 1; what = TooLong })))
-- of what was taken exactly the lines are answered whose line feed was read, and no byte of it broke a rule before
HasLines job stop.ReadFault before after lines =
    (taken : List ℕ) × Takes taken before after × ReadsLines job (filter is_fed (pieces taken)) lines None × AreWithinLimits taken
HasLines job stop.EntropyFault before after lines = StopsBehind job before lines
HasLines job stop.NoMemory before after lines = StopsBehind job before lines

-- at most so many bytes were taken from the front of the input
abbrev pub TakesAtMost : ℕ → Option (List ℕ) → Option (List ℕ) → Type 0
TakesAtMost most before after = (taken : List ℕ) × (length taken ≤ most) × Takes taken before after

-- the input failed, once, where it is said to, and else not
abbrev pub HasInputCause : Stop → ℕ → ℕ → Type 0
HasInputCause stop.ReadFault old new = new ≡ counted old
HasInputCause _ old new = new ≡ old

-- These bytes were drawn and no others: the answers' own, and where memory was wanting perhaps the salt of one more. The entropy failed,
-- once, where it is said to, and else not.
abbrev pub HasDrawn : Stop → List ℕ → EntropyView → EntropyView → Type 0
HasDrawn stop.EntropyFault drawn old new = Takes drawn old.left new.left × (new.faults ≡ counted old.faults)
HasDrawn stop.NoMemory drawn old new =
    (more : List ℕ) × (length more ≤ 8) × Takes (drawn ++ more) old.left new.left × (new.faults ≡ old.faults)
HasDrawn _ drawn old new = Takes drawn old.left new.left × (new.faults ≡ old.faults)

-- the one line behind the answers, which tells the fault of this line of the input; none at its end, and none of want of memory
abbrev pub last_text : Stop → ℕ → List ℕ
last_text stop.BadLine line = line_text (BadLineLine line)
last_text stop.LongInput line = line_text (LongInputLine line)
last_text stop.ReadFault line = line_text InputFailedLine
last_text stop.EntropyFault line = entropy_text
last_text stop.End line = []
last_text stop.NoMemory line = []

-- the status; the Bool says whether a write failed, which a fault before it hides
abbrev pub stop_status : Stop → Bool → Status
stop_status stop.End is_broken = printed_status is_broken
stop_status stop.BadLine is_broken = status.Config
stop_status stop.LongInput is_broken = status.Config
stop_status stop.ReadFault is_broken = status.ReadFault
stop_status stop.EntropyFault is_broken = status.EntropyFault
stop_status stop.NoMemory is_broken = status.NoMemory

-- The lines of the input were answered in their order up to this stop, the answers printed, and behind them the fault; or a front of
-- that text, where the output failed, and then nothing.
pub record AnswersInput (job : Job) (old new : Streams) (answer : Status) : Type 0 where
  pub how : Stop
  pub lines : List (List ℕ)
  pub reading : HasLines job how old.input.left new.input.left lines
  pub cause : HasInputCause how old.input.faults new.input.faults
  pub bounded : TakesAtMost (input_limit + 1) old.input.left new.input.left
  pub drawn : List ℕ
  pub text : List ℕ
  pub answers : AreAnswers job lines drawn text
  pub draws : HasDrawn how drawn old.entropy new.entropy
  pub is_broken : Bool
  pub printed : Prints (text ++ last_text how (length lines + 1)) is_broken old.sink new.sink
  pub answered : answer ≡ stop_status how is_broken
