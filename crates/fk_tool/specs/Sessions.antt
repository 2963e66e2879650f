-- What the contracts of the private session over lines speak of. No public contract cites it, so no caller has to believe it.
use Rattle.std.specs.Prelude.{◌≡◌, ℕ, ◌+◌, ◌≤◌, Bool, true, false, List, length, Option, Some, None}
use Rattle.fk_host.specs.Stream.{Takes}
use Rattle.fk_input.specs.Lines.{input_limit}
use Rattle.fk_input.specs.Progress.{HasRead}
use Rattle.fk_input.specs.Reading.{rest}
use Rattle.fk_log.specs.Printing.{Prints, SinkView}
use Rattle.fk_client.specs.Outside.{EntropyView}
use Rattle.fk_tool.specs.Answers.{AreAnswers}
use Rattle.fk_tool.specs.Private.{IsAnswered, IsUnanswered}
use Rattle.fk_tool.specs.Streams.{HasDrawn, HasInputCause, HasLines, IsJobLine, Streams, TakesAtMost}
use Rattle.fk_tool.specs.declared.job.Job.{Job}
use Rattle.fk_tool.specs.declared.session.Session.{Session}
use Rattle.fk_tool.specs.declared.stop.Stop.{Stop}

-- a session among its streams
pub record Standing : Type 0 where
  pub session : Session
  pub streams : Streams

abbrev pub standing_by : Session → Streams → Standing
standing_by session streams = record { session = session; streams = streams }

-- What was drawn and printed for the lines of a job so far.
pub record Answered (job : Job) (lines : List (List ℕ)) (old : Streams) (entropy : EntropyView) (is_broken : Bool) (sink : SinkView) : Type 0 where
  pub drawn : List ℕ
  pub text : List ℕ
  pub answers : AreAnswers job lines drawn text
  pub taken : Takes drawn old.entropy.left entropy.left
  pub unfailed : entropy.faults ≡ old.entropy.faults
  pub printed : Prints text is_broken old.sink sink

-- some lines of the input were read and answered, and the next one may be
pub record Going (job : Job) (old : Streams) (now : Standing) : Type 0 where
  pub lines : List (List ℕ)
  pub read : HasRead (IsJobLine job) old.input.left (rest now.session.reader now.streams.input.left) now.session.reader lines
  pub count : now.session.lines ≡ length lines
  pub few : now.session.lines ≤ now.session.reader.offset
  pub input : now.streams.input.faults ≡ old.input.faults
  pub answered : Answered job lines old now.streams.entropy now.session.is_broken now.streams.sink

-- no further line is answered
pub record Stopped (job : Job) (how : Stop) (old : Streams) (now : Standing) : Type 0 where
  pub lines : List (List ℕ)
  pub count : now.session.lines ≡ length lines
  pub few : now.session.lines ≤ input_limit
  pub reading : HasLines job how old.input.left now.streams.input.left lines
  pub cause : HasInputCause how old.input.faults now.streams.input.faults
  pub bounded : TakesAtMost (input_limit + 1) old.input.left now.streams.input.left
  pub drawn : List ℕ
  pub text : List ℕ
  pub answers : AreAnswers job lines drawn text
  pub draws : HasDrawn how drawn old.entropy now.streams.entropy
  pub printed : Prints text now.session.is_broken old.sink now.streams.sink

-- the next line may be read, or none is any more
abbrev pub GoesOn : Job → Option Stop → Streams → Standing → Type 0
GoesOn job None old now = Going job old now
GoesOn job (Some how) old now = Stopped job how old now

-- the text was given to an output that was broken before, as the first Bool says, and is now, as the second does
abbrev pub Adds : List ℕ → Bool → Bool → SinkView → SinkView → Type 0
Adds text false is_broken old new = Prints text is_broken old new
Adds text true is_broken old new = (is_broken ≡ true) × (new ≡ old)

-- the line that was read last was answered, and counted
pub record PrintsAnswer (job : Job) (old new : Session) (entropy drawn_from : EntropyView) (before after : SinkView) : Type 0 where
  pub text : List ℕ
  pub is : IsAnswered job old.reader.line text entropy drawn_from
  pub adds : Adds text old.is_broken new.is_broken before after
  pub reader : new.reader ≡ old.reader
  pub count : new.lines ≡ old.lines + 1

-- what came of the line that was read last
abbrev pub AnswersLine : Job → Option Stop → Session → Session → EntropyView → EntropyView → SinkView → SinkView → Type 0
AnswersLine job None old new entropy drawn_from before after = PrintsAnswer job old new entropy drawn_from before after
AnswersLine job (Some how) old new entropy drawn_from before after =
    (new ≡ old) × (after ≡ before) × IsUnanswered job old.reader.line how entropy drawn_from
