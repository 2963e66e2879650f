-- What a log has done to its sink.
use Rattle.std.specs.Prelude.{◌≡◌, ◌≢◌, ℕ, Bool, true, false, List, [], ◌++◌, Option}
use Rattle.fk_host.specs.Count.{counted}
use Rattle.fk_host.specs.Stream.{Gives}
use Rattle.fk_log.specs.declared.tally.Tally.{Tally}
use Rattle.fk_log.specs.declared.verbosity.Verbosity.{Verbosity}
use Rattle.fk_log.specs.Line.{Line}
use Rattle.fk_log.specs.Tally.{tallied}
use Rattle.fk_log.specs.Shown.{shown_text}

-- a front of the text was given, and not the whole
pub record GivesPart (text : List ℕ) (old new : Option (List ℕ)) : Type 0 where
  pub front : List ℕ
  pub missing : List ℕ
  pub cut : text ≡ front ++ missing
  pub lacks : missing ≢ []
  pub given : Gives front old new

-- what a log keeps
pub record LogState : Type 0 where
  -- which lines it prints
  pub verbosity : Verbosity
  -- the tally of all its lines, those that it does not print among them
  pub tally : Tally
  -- a write of it has failed
  pub is_broken : Bool

-- a log and its sink as they stand
pub record Output : Type 0 where
  pub log : LogState
  -- what the sink has taken, where it tells
  pub written : Option (List ℕ)
  -- how often the sink has failed
  pub faults : ℕ

abbrev pub output : LogState → Option (List ℕ) → ℕ → Output
output log written faults = record { log = log; written = written; faults = faults }

-- What the text has done to the sink of a log that was broken before, as the first Bool says, and is now, as the second does: it
-- was given whole; or a front of it was, and then a write failed, once; or nothing was tried any more. No log is whole again.
abbrev pub Writes : Bool → Bool → List ℕ → Output → Output → Type 0
Writes false false text old new = Gives text old.written new.written × (new.faults ≡ old.faults)
Writes false true text old new = GivesPart text old.written new.written × (new.faults ≡ counted old.faults)
Writes true false text old new = ⊥
Writes true true text old new = (new.written ≡ old.written) × (new.faults ≡ old.faults)

-- these lines were added to the log
pub record Logs (lines : List Line) (old new : Output) : Type 0 where
  pub kept : new.log.verbosity ≡ old.log.verbosity
  pub counted : new.log.tally ≡ tallied old.log.tally lines
  pub written : Writes old.log.is_broken new.log.is_broken (shown_text old.log.verbosity lines) old new
