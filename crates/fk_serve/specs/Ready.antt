-- When a run of the program has to end well, unless memory is wanting.
use Rattle.std.specs.Prelude.{◌≡◌, ◌⊎◌, ℕ, List, Option, None, IsSomeAnd}
use Rattle.fk_base.specs.declared.status.Status.{Status}
use Rattle.fk_base.specs.declared.status.Status.TheVariants as status
use Rattle.fk_trace.specs.Decision.{FeedTurn}
use Rattle.fk_host.specs.Count.{Rose}
use Rattle.fk_host.specs.Files.{bytes_of_file}
use Rattle.fk_conf.specs.ConfErr.{conf_fault}
use Rattle.fk_words.specs.declared.command.Command.{Command}
use Rattle.fk_words.specs.declared.command.Command.TheVariants as command
use Rattle.fk_words.specs.declared.tool.Tool.TheVariants.{Daemon}
use Rattle.fk_words.specs.ReadsWords.{ReadsWords}
use Rattle.fk_access.specs.AccessFault.{access_fault}
use Rattle.fk_input.specs.Lines.{pieces}
use Rattle.fk_trial.specs.Lines.{ReadsTurns}
use Rattle.fk_program.specs.Files.{FilesView}
use Rattle.fk_view.specs.Viewing.{HoldsToTheEnd}
use Rattle.fk_serve.specs.World.{World}

-- a file of this name is held, and its text has no fault by this test
abbrev pub HoldsRight : {X : Type 0} → (List ℕ → Option X) → List ℕ → FilesView → Type 0
HoldsRight test name files = IsSomeAnd files.held (λ held. IsSomeAnd (bytes_of_file name held) (λ text. test text ≡ None))

-- each line of the input is a turn, and there are not too many
abbrev pub HoldsTurns : Option (List ℕ) → Type 0
HoldsTurns left = IsSomeAnd left (λ text. (turns : List FeedTurn) × ReadsTurns (pieces text) turns None)

-- what the command reads is there, and right
abbrev pub IsReadyFor : Command → World → World → Type 0
IsReadyFor (command.Serve conf access packets turns verbose) old new = HoldsRight conf_fault conf old.files
    × HoldsRight access_fault access old.files × HoldsToTheEnd old.outside.host.told new.outside.host.told
IsReadyFor (command.Trial conf access quiet verbose) old new =
    HoldsRight conf_fault conf old.files × HoldsRight access_fault access old.files × HoldsTurns old.input.left
IsReadyFor command.List old new = HoldsToTheEnd old.outside.host.told new.outside.host.told
IsReadyFor (command.Send send) old new = ⊥
IsReadyFor command.KeyGen old new = ⊥
IsReadyFor (command.Encode file name) old new = ⊥
IsReadyFor (command.Decode file name) old new = ⊥
IsReadyFor command.Journal old new = ⊥
IsReadyFor (command.Generate count) old new = ⊥
IsReadyFor command.Help old new = Unit {0}
IsReadyFor command.Version old new = Unit {0}

-- no count rose
pub record CountsNone (old new : World) : Type 0 where
  pub files : Rose old.files.faults new.files.faults → ⊥
  pub feed : Rose old.outside.feed.faults new.outside.feed.faults → ⊥
  pub disk : Rose old.outside.host.faults new.outside.host.faults → ⊥
  pub input : Rose old.input.faults new.input.faults → ⊥
  pub output : Rose old.outside.sink.faults new.outside.sink.faults → ⊥

-- the words ask for a command for which all is ready, and nothing failed
pub record MeetsNoFault (words : List (List ℕ)) (old new : World) : Type 0 where
  pub command : Command
  pub reads : ReadsWords Daemon words command
  pub ready : IsReadyFor command old new
  pub counts : CountsNone old new

-- the run ended well, or memory was wanting
abbrev pub EndsWell : Status → Type 0
EndsWell answer = (answer ≡ status.Done) ⊎ (answer ≡ status.NoMemory)
