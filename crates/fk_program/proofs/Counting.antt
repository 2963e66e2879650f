-- Which counts of faults rose, by what was told.
use Rattle.std.proofs.Common.{◌≡◌, ◌≢◌, ℕ, Bool, true, false, List, Option, refl, sym, ap, subst, inl, inr}
use Rattle.fk_base.specs.declared.status.Status.{Status}
use Rattle.fk_base.specs.declared.status.Status.TheVariants as status
use Rattle.fk_words.specs.declared.word_fault.WordFault.{WordFault}
use Rattle.fk_words.specs.declared.word_fault.WordFault.TheVariants as word
use Rattle.fk_log.specs.Causes.{FailsOnlyAs, FailsSink}
use Rattle.fk_log.specs.Printing.{SinkView, Prints}
use Rattle.fk_program.specs.Faults.{Fault, Tells, fault_of_words, fault_status, fault_text}
use Rattle.fk_program.specs.Faults.Fault.{WrongWords, FileNotHeld, FileNotRead, WrongFile, WantsMemory}
use Rattle.fk_program.specs.Files.{FailsFile, FilesView}
use Rattle.fk_program.specs.Telling.{Says, Shows, printed_status}
use Rattle.fk_program.proofs.Saying.{said-once}

-- the output's count after a fault was told
pub told-sink : (fault : Fault) (old new : SinkView) → Says (fault_text fault) old new → FailsSink (fault_status fault) old.faults new.faults
told-sink (WrongWords why) old new says = said-once (fault_text (WrongWords why)) old new says
told-sink (FileNotHeld name) old new says = said-once (fault_text (FileNotHeld name)) old new says
told-sink (FileNotRead name) old new says = said-once (fault_text (FileNotRead name)) old new says
told-sink (WrongFile name line what) old new says = said-once (fault_text (WrongFile name line what)) old new says
told-sink WantsMemory old new says = said-once (fault_text WantsMemory) old new says

pub tells-sink : (fault : Fault) (old new : SinkView) (answer : Status) → Tells fault old new answer → FailsSink answer old.faults new.faults
tells-sink fault old new answer tells = subst (λ (a : Status). FailsSink a old.faults new.faults) (sym tells.answered) (told-sink fault old new tells.said)

-- the output's count after a text was printed
prints-sink : (is_broken : Bool) (text : List ℕ) (old new : SinkView) (answer : Status) → Prints text is_broken old new → answer ≡ printed_status is_broken
    → FailsSink answer old.faults new.faults
prints-sink false text old new answer prints is = subst (λ (a : Status). FailsSink a old.faults new.faults) (sym is) prints.1
prints-sink true text old new answer prints is = subst (λ (a : Status). FailsSink a old.faults new.faults) (sym is) prints.1

pub shows-sink : (text : List ℕ) (old new : SinkView) (answer : Status) → Shows text old new answer → FailsSink answer old.faults new.faults
shows-sink text old new answer shows = prints-sink shows.is_broken text old new answer shows.printed shows.answered

-- the files' count after the fault of a file
pub file-count : (test : List ℕ → Option Fault) (name : List ℕ) (fault : Fault) (old new : FilesView) → FailsFile test name fault old new
    → FailsOnlyAs status.FileFault (fault_status fault) old.faults new.faults
file-count test name (FileNotHeld named) old new fails = inl (refl, ap (λ (files : FilesView). files.faults) fails.1)
file-count test name (FileNotRead named) old new fails = inl (refl, ap (λ (files : FilesView). files.faults) fails.1)
file-count test name (WrongFile named line what) old new fails = inr (λ e. cc, ap (λ (files : FilesView). files.faults) fails.0)
file-count test name WantsMemory old new fails = inr (λ e. cc, ap (λ (files : FilesView). files.faults) fails)
file-count test name (WrongWords why) old new fails = absurd fails

-- the answer is no fault of an object but the files and the output
pub record Blames (answer : Status) : Type 0 where
  pub feed : answer ≢ status.FeedFault
  pub disk : answer ≢ status.DiskFault
  pub input : answer ≢ status.ReadFault
  pub link : answer ≢ status.LinkFault
  pub entropy : answer ≢ status.EntropyFault

pub fault-blames : (fault : Fault) → Blames (fault_status fault)
fault-blames (WrongWords why) = record { feed = λ e. cc; disk = λ e. cc; input = λ e. cc; link = λ e. cc; entropy = λ e. cc }
fault-blames (FileNotHeld name) = record { feed = λ e. cc; disk = λ e. cc; input = λ e. cc; link = λ e. cc; entropy = λ e. cc }
fault-blames (FileNotRead name) = record { feed = λ e. cc; disk = λ e. cc; input = λ e. cc; link = λ e. cc; entropy = λ e. cc }
fault-blames (WrongFile name line what) = record { feed = λ e. cc; disk = λ e. cc; input = λ e. cc; link = λ e. cc; entropy = λ e. cc }
fault-blames WantsMemory = record { feed = λ e. cc; disk = λ e. cc; input = λ e. cc; link = λ e. cc; entropy = λ e. cc }

pub shown-blames : (is_broken : Bool) (answer : Status) → answer ≡ printed_status is_broken → (answer ≢ status.FileFault) × Blames answer
shown-blames false answer is = (
  λ e. let f = is in cc,
  record { feed = λ e. let f = is in cc; disk = λ e. let f = is in cc; input = λ e. let f = is in cc; link = λ e. let f = is in cc; entropy = λ e. let f = is in cc },
)
shown-blames true answer is = (
  λ e. let f = is in cc,
  record { feed = λ e. let f = is in cc; disk = λ e. let f = is in cc; input = λ e. let f = is in cc; link = λ e. let f = is in cc; entropy = λ e. let f = is in cc },
)

-- words that are no command are no fault of the files
pub words-spare-files : (fault : WordFault) → fault_status (fault_of_words fault) ≢ status.FileFault
words-spare-files (word.Unknown place) = λ e. cc
words-spare-files (word.NoValue place) = λ e. cc
words-spare-files (word.Twice place) = λ e. cc
words-spare-files (word.BadValue place) = λ e. cc
words-spare-files word.Modes = λ e. cc
words-spare-files word.NoMemory = λ e. cc
