-- What the contracts of this crate's private functions alone speak of. No public contract cites it, so no caller has to believe it.
use Rattle.std.specs.Prelude.{◌≡◌, ℕ, ◌≤◌, List, length}
use Rattle.fk_host.specs.Stream.{Takes}
use Rattle.fk_client.specs.Outside.{EntropyView, undrawn}
use Rattle.fk_tool.specs.Answers.{IsAnswer, IsRight}
use Rattle.fk_tool.specs.EncodeLine.{Asked}
use Rattle.fk_tool.specs.declared.asked.EncodeLine.{EncodeLine}
use Rattle.fk_tool.specs.declared.job.Job.{Job}
use Rattle.fk_tool.specs.declared.stop.Stop.{Stop}
use Rattle.fk_tool.specs.declared.stop.Stop.TheVariants as stop

-- what a line that was read asks for
abbrev pub asked_by : EncodeLine → Asked
asked_by line = record { rand = line.rand; user = line.user.now; stamp = line.stamp; ip = line.ip; pairs = line.pairs; seconds = line.seconds }

-- the line is right, and this is its answer
pub record IsAnswered (job : Job) (line text : List ℕ) (old new : EntropyView) : Type 0 where
  pub right : IsRight job line
  pub drawn : List ℕ
  pub taken : Takes drawn old.left new.left
  pub unfailed : new.faults ≡ old.faults
  pub answer : IsAnswer job line drawn text

-- the line is right, and memory was wanting for its answer
pub record WantsAnswer (job : Job) (line : List ℕ) (old new : EntropyView) : Type 0 where
  pub right : IsRight job line
  pub drawn : List ℕ
  pub short : length drawn ≤ 8
  pub taken : Takes drawn old.left new.left
  pub unfailed : new.faults ≡ old.faults

-- why a line has no answer
abbrev pub IsUnanswered : Job → List ℕ → Stop → EntropyView → EntropyView → Type 0
IsUnanswered job line stop.BadLine old new = ¬ IsRight job line × (new ≡ old)
IsUnanswered job line stop.EntropyFault old new = IsRight job line × (new ≡ undrawn old)
IsUnanswered job line stop.NoMemory old new = WantsAnswer job line old new
IsUnanswered job line _ old new = ⊥
