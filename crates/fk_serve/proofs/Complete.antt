-- A run in whose way nothing stands ends well, whatever its words ask for.
use Rattle.std.proofs.Common.{◌≡◌, ℕ, List, subst, inl, inr}
use Rattle.fk_base.specs.declared.status.Status.{Status}
use Rattle.fk_words.specs.declared.command.Command.{Command}
use Rattle.fk_words.specs.declared.command.Command.TheVariants as command
use Rattle.fk_words.specs.declared.tool.Tool.TheVariants.{Daemon}
use Rattle.fk_words.specs.declared.word_fault.WordFault.{WordFault}
use Rattle.fk_words.specs.declared.word_fault.WordFault.TheVariants as word
use Rattle.fk_words.specs.ReadsWords.{IsWordErr, ReadsWords}
use Rattle.fk_serve.specs.World.{World, streams_of}
use Rattle.fk_program.specs.Faults.{fault_of_words, fault_status}
use Rattle.fk_serve.specs.Running.{Runs, RunsWords}
use Rattle.fk_serve.specs.Causes.{FailsByAnswer}
use Rattle.fk_serve.specs.Ready.{EndsWell, IsReadyFor, MeetsNoFault}
use Rattle.fk_view.proofs.Viewed.{NoneBoth}
use Rattle.fk_serve.proofs.Ended.{IsCalm, calm, list-ends, printed-ends, refused-ends, serving-ends}
use Rattle.fk_serve.proofs.Tried.{trying-ends}

runs-end : (asked : Command) (old new : World) (answer : Status) → Runs asked old new answer → IsReadyFor asked old new → IsCalm answer → NoneBoth → EndsWell answer
runs-end (command.Serve conf access packets turns verbose) old new answer runs ready calm none =
    elim runs [
      | inl serves ↦ serving-ends serves.task old.outside new.outside answer serves.serves calm none ready.2.0 ready.2.1
      | inr refuses ↦ refused-ends (record { conf = conf; access = access }) old new answer refuses ready.0 ready.1 calm
    ]
runs-end (command.Trial conf access quiet verbose) old new answer runs ready calm none =
    elim runs [
      | inl tries ↦ trying-ends tries.task (streams_of old) (streams_of new) answer tries.tries ready.2 calm
      | inr refuses ↦ refused-ends (record { conf = conf; access = access }) old new answer refuses ready.0 ready.1 calm
    ]
runs-end command.List old new answer runs ready calm none = list-ends old new answer runs calm none ready.0 ready.1
runs-end (command.Send send) old new answer runs ready calm none = absurd runs
runs-end command.KeyGen old new answer runs ready calm none = absurd runs
runs-end (command.Encode file name) old new answer runs ready calm none = absurd runs
runs-end (command.Decode file name) old new answer runs ready calm none = absurd runs
runs-end command.Journal old new answer runs ready calm none = absurd runs
runs-end (command.Generate count) old new answer runs ready calm none = absurd runs
runs-end command.Help old new answer runs ready calm none = printed-ends runs.shows.is_broken answer runs.shows.answered calm
runs-end command.Version old new answer runs ready calm none = printed-ends runs.shows.is_broken answer runs.shows.answered calm

-- words ask for one command
abbrev pub OneCommand : Type 0
OneCommand = (words : List (List ℕ)) (a b : Command) → ReadsWords Daemon words a → ReadsWords Daemon words b → a ≡ b

word-ends : (words : List (List ℕ)) (fault : WordFault) (asked : Command) (answer : Status) → IsWordErr Daemon words fault → ReadsWords Daemon words asked
    → answer ≡ fault_status (fault_of_words fault) → EndsWell answer
word-ends words word.NoMemory asked answer why reads is = inr is
word-ends words (word.Unknown place) asked answer why reads is = let read = reads.reads in absurd cc
word-ends words (word.NoValue place) asked answer why reads is = let read = reads.reads in absurd cc
word-ends words (word.Twice place) asked answer why reads is = let read = reads.reads in absurd cc
word-ends words (word.BadValue place) asked answer why reads is = let read = reads.reads in absurd cc
word-ends words word.Modes asked answer why reads is = let read = reads.reads in absurd cc

-- a run in whose way nothing stands
pub run-ends-well : (words : List (List ℕ)) (old new : World) (answer : Status) → RunsWords words old new answer → FailsByAnswer answer old new → NoneBoth → OneCommand
    → MeetsNoFault words old new → EndsWell answer
run-ends-well words old new answer runs fails none one meets =
    let quiet : IsCalm answer = calm answer old new fails meets.counts in
    elim runs [
      | inl asked ↦ runs-end asked.command old new answer asked.runs
          (subst (λ (c : Command). IsReadyFor c old new) (one words meets.command asked.command meets.reads asked.reads) meets.ready) quiet none
      | inr refused ↦ word-ends words refused.fault meets.command answer refused.why meets.reads refused.tells.answered
    ]
