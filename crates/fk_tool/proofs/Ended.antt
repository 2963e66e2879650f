-- A call of the tool in whose way nothing stands ends well, and which words are refused.
use Rattle.std.proofs.Common.{◌≡◌, ◌≢◌, ◌↔◌, ℕ, Bool, true, false, List, Option, Some, None, IfSome, IsSomeAnd, Result, Ok, Err, IsErr, IsSome, refl, sym, ap, subst, ◌∙◌, inl, inr}
use Rattle.fk_base.specs.declared.status.Status.{Status}
use Rattle.fk_base.specs.declared.status.Status.TheVariants as status
use Rattle.fk_host.specs.Count.{counted, Rose}
use Rattle.fk_host.specs.Files.{bytes_of_file}
use Rattle.fk_host.proofs.Counts.{counted-Rose}
use Rattle.fk_journal.specs.declared.fault.JournalErr.{JournalErr}
use Rattle.fk_journal.specs.declared.fault.JournalErr.TheVariants as journal
use Rattle.fk_log.specs.Causes.{FailsOnlyAs, FailsSink}
use Rattle.fk_log.specs.Printing.{SinkView}
use Rattle.fk_child.specs.View.{View}
use Rattle.fk_words.specs.declared.command.Command.{Command}
use Rattle.fk_words.specs.declared.command.Command.TheVariants as command
use Rattle.fk_words.specs.declared.tool.Tool.TheVariants.{Fko}
use Rattle.fk_words.specs.declared.word_fault.WordFault.{WordFault}
use Rattle.fk_words.specs.declared.word_fault.WordFault.TheVariants as word
use Rattle.fk_words.specs.ReadsWords.{IsWordErr, ReadsWords, set_read}
use Rattle.fk_program.specs.Faults.{fault_of_words, fault_status}
use Rattle.fk_program.specs.Telling.{printed_status}
use Rattle.fk_program.specs.Faults.Fault.{FileNotHeld, FileNotRead, WantsMemory, WrongFile, WrongWords}
use Rattle.fk_program.specs.Files.{FilesView}
use Rattle.fk_conf.specs.FaultNames.{conf_fault_name}
use Rattle.fk_conf.specs.RcFault.{rc_fault}
use Rattle.fk_conf.specs.ReadsRc.{ReadsRc}
use Rattle.fk_client.specs.Faults.{Fault, fault_status as client_status}
use Rattle.fk_client.specs.Faults.Fault.{Common, EntropyFails, LacksSetting, LinkFails}
use Rattle.fk_client.specs.Running.{FindsNoSealing, HasSealing, MakesKeys}
use Rattle.fk_client.specs.Settle.{sealing_fault}
use Rattle.fk_client.specs.declared.sealed.Sealing.{Sealing}
use Rattle.fk_client.proofs.Ended.{held-same, none-told, none-wrong, not-held}
use Rattle.fk_client.proofs.Needs.{sealing-same}
use Rattle.fk_input.specs.Lines.{pieces}
use Rattle.fk_input.specs.declared.fault.Fault.{Fault as LineFault}
use Rattle.fk_input.proofs.Readings.{Reads-one}
use Rattle.fk_view.specs.Viewing.{FailsToView, view_status}
use Rattle.fk_view.specs.Viewing.{HoldsSome}
use Rattle.fk_view.proofs.Viewed.{NoneBoth, not_damaged}
use Rattle.fk_tool.specs.Causes.{FailsByAnswer}
use Rattle.fk_tool.specs.Lines.{ShowsLines}
use Rattle.fk_tool.specs.Outside.{Outside, streams_of}
use Rattle.fk_tool.specs.Ready.{CountsNone, EndsAs, HoldsSealing, IsJobBy, IsReadyFor, IsReadyForJob, IsWrongText, MeetsNoFault, NamesNoFile, NamesWrongFile}
use Rattle.fk_tool.specs.Running.{PrintsJournal, Runs, RunsJob, RunsTool}
use Rattle.fk_tool.specs.Streams.{HasLines, IsJobLine, ReadsLines, Streams, stop_status}
use Rattle.fk_tool.specs.declared.job.Job.{Job}
use Rattle.fk_tool.specs.declared.job.Job.TheVariants.{Decode, Encode}
use Rattle.fk_tool.specs.declared.stop.Stop.{Stop}
use Rattle.fk_tool.specs.declared.stop.Stop.TheVariants as stop

-- the answer is no fault of an object
record IsCalm (answer : Status) : Type 0 where
  files : answer ≢ status.FileFault
  entropy : answer ≢ status.EntropyFault
  disk : answer ≢ status.DiskFault
  input : answer ≢ status.ReadFault
  sink : answer ≢ status.SinkFault

rose : (old new : ℕ) → new ≡ counted old → Rose old new
rose old new is = subst (λ (n : ℕ). Rose old n) (sym is) (counted-Rose old)

not-only : (fault answer : Status) (old new : ℕ) → FailsOnlyAs fault answer old new → (Rose old new → ⊥) → answer ≢ fault
not-only fault answer old new only calm =
    elim only [
      | inl fails ↦ absurd (calm (rose old new fails.1))
      | inr stands ↦ stands.0
    ]

not-sink : (answer : Status) (old new : ℕ) → FailsSink answer old new → (Rose old new → ⊥) → answer ≢ status.SinkFault
not-sink answer old new fails calm = λ is. calm (rose old new (subst (λ (a : Status). FailsSink a old new) is fails))

calm : (answer : Status) (old new : Outside) → FailsByAnswer answer old new → CountsNone old new → IsCalm answer
calm answer old new fails none = record {
  files = not-only status.FileFault answer old.files.faults new.files.faults fails.files none.files;
  entropy = not-only status.EntropyFault answer old.entropy.faults new.entropy.faults fails.entropy none.entropy;
  disk = not-only status.DiskFault answer old.disk.faults new.disk.faults fails.disk none.disk;
  input = not-only status.ReadFault answer old.input.faults new.input.faults fails.input none.input;
  sink = not-sink answer old.sink.faults new.sink.faults fails.sink none.sink;
}

printed-ends : (is_broken : Bool) (answer : Status) → answer ≡ printed_status is_broken → IsCalm answer → EndsAs status.Done answer
printed-ends false answer is calm = inl is
printed-ends true answer is calm = absurd (calm.sink is)

lines-end : {IsText : ℕ → List ℕ → Type 0} (count : ℕ) (old new : SinkView) (answer : Status) → ShowsLines IsText count old new answer → IsCalm answer → EndsAs status.Done answer
lines-end count old new answer shows calm =
    elim shows [
      | inl all ↦ inl all.0
      | inr less ↦ elim less [
        | inl broken ↦ absurd (calm.sink broken.0)
        | inr short ↦ inr short.0
      ]
    ]

keys-end : (old new : Outside) (answer : Status) → MakesKeys old.entropy new.entropy old.sink new.sink answer → IsCalm answer → EndsAs status.Done answer
keys-end old new answer makes calm =
    elim makes [
      | inl failed ↦ absurd (calm.entropy failed.1.answered)
      | inr drawn ↦ elim drawn.2 [
        | inl short ↦ inr short.answered
        | inr shows ↦ printed-ends shows.is_broken answer shows.answered calm
      ]
    ]

view-ends : (why : JournalErr) (answer : Status) (old new : View) → FailsToView why old new → answer ≡ view_status why → IsCalm answer → NoneBoth
    → HoldsSome old.told → IsSome new.told → EndsAs status.Done answer
view-ends journal.Disk answer old new fails is calm none holds tells = absurd (calm.disk is)
view-ends (journal.Damaged place) answer old new fails is calm none holds tells = absurd (not_damaged old.told new.told place none holds tells fails.0)
view-ends journal.NoMemory answer old new fails is calm none holds tells = inr is

journal-ends : (old new : Outside) (answer : Status) → PrintsJournal old.disk new.disk old.sink new.sink answer → IsCalm answer → NoneBoth
    → HoldsSome old.disk.told → IsSome new.disk.told → EndsAs status.Done answer
journal-ends old new answer prints calm none holds tells =
    elim prints.came [
      | inl shows ↦ lines-end _ old.sink new.sink answer shows.shows calm
      | inr nothing ↦ view-ends nothing.fault answer old.disk new.disk nothing.fails nothing.told.answered calm none holds tells
    ]

-- the same names
pub job-named : (job : Sealing → Job) (f file n name : List ℕ) (files later : FilesView) (old new : Streams) (answer : Status) → f ≡ file → n ≡ name
    → RunsJob job f n files later old new answer → RunsJob job file name files later old new answer
job-named job f file n name files later old new answer same_file same_name runs =
    subst (λ (x : List ℕ). RunsJob job x name files later old new answer) same_file
    (subst (λ (x : List ℕ). RunsJob job f x files later old new answer) same_name runs)

-- no fault of the file or of its stanza is told
sealing-ends : (file name : List ℕ) (fault : Fault) (old new : FilesView) → HoldsSealing file name old → FindsNoSealing file name fault old new → IsCalm (client_status fault)
    → EndsAs status.Done (client_status fault)
sealing-ends file name (Common (FileNotHeld named)) old new ready fails calm = absurd (calm.files refl)
sealing-ends file name (Common (FileNotRead named)) old new ready fails calm = absurd (calm.files refl)
sealing-ends file name (Common (WrongFile named line what)) old new ready fails calm =
    let text : fails.1.0 ≡ ready.text = held-same file file ready.text fails.1.0 old.held refl ready.held fails.1.1.held in
    absurd (none-told (λ found. WrongFile file found.0 (conf_fault_name found.1)) (rc_fault fails.1.0) (WrongFile named line what)
    (subst (λ (t : List ℕ). rc_fault t ≡ None) (sym text) ready.says.faultless) fails.1.2)
sealing-ends file name (LacksSetting named what) old new ready fails calm =
    let lacks = fails.2 in
    let text : lacks.read.text ≡ ready.text = held-same file file ready.text lacks.read.text old.held refl ready.held lacks.read.read.held in
    let says : ReadsRc ready.text lacks.stanzas = subst (λ (t : List ℕ). ReadsRc t lacks.stanzas) text lacks.read.says in
    absurd (none-wrong (sealing_fault lacks.stanzas name) lacks.fault (sealing-same ready.text lacks.stanzas ready.stanzas name says ready.says ∙ ready.needs) lacks.first)
sealing-ends file name (Common WantsMemory) old new ready fails calm = inr refl
sealing-ends file name (Common (WrongWords why)) old new ready fails calm = absurd fails
sealing-ends file name EntropyFails old new ready fails calm = absurd fails
sealing-ends file name LinkFails old new ready fails calm = absurd fails

-- an input of which each line is right has no fault
right-input : (job : Job) (left : Option (List ℕ)) (lines : List (List ℕ)) (fault : LineFault) → IsSomeAnd left (λ text. (right : List (List ℕ)) × ReadsLines job (pieces text) right None)
    → IfSome left (λ text. ReadsLines job (pieces text) lines (Some fault)) → ⊥
right-input job None lines fault right wrong = absurd right
right-input job (Some text) lines fault right wrong =
    let one = Reads-one (IsJobLine job) (λ line a b is other. is.0 ∙ sym other.0) right.1 wrong in
    let none : None ≡ Some fault = one.1 in cc

stop-ends : (job : Job) (how : Stop) (is_broken : Bool) (old new : Streams) (lines : List (List ℕ)) (answer : Status)
    → IsSomeAnd old.input.left (λ text. (right : List (List ℕ)) × ReadsLines job (pieces text) right None)
    → HasLines job how old.input.left new.input.left lines → answer ≡ stop_status how is_broken → IsCalm answer → EndsAs status.Done answer
stop-ends job stop.End is_broken old new lines answer right reading is calm = printed-ends is_broken answer is calm
stop-ends job stop.BadLine is_broken old new lines answer right reading is calm = absurd (right-input job old.input.left lines _ right reading)
stop-ends job stop.LongInput is_broken old new lines answer right reading is calm = absurd (right-input job old.input.left lines _ right reading)
stop-ends job stop.ReadFault is_broken old new lines answer right reading is calm = absurd (calm.input is)
stop-ends job stop.EntropyFault is_broken old new lines answer right reading is calm = absurd (calm.entropy is)
stop-ends job stop.NoMemory is_broken old new lines answer right reading is calm = inr is

told-right : (job : Sealing → Job) (sealing : Sealing) (left : Option (List ℕ))
    → IsSomeAnd left (λ text. (sealing : Sealing) → (lines : List (List ℕ)) × ReadsLines (job sealing) (pieces text) lines None)
    → IsSomeAnd left (λ text. (right : List (List ℕ)) × ReadsLines (job sealing) (pieces text) right None)
told-right job sealing None told = absurd told
told-right job sealing (Some text) told = told sealing

job-ends : (job : Sealing → Job) (file name : List ℕ) (old new : Outside) (answer : Status) → IsReadyForJob job file name old.files old.input
    → RunsJob job file name old.files new.files (streams_of old) (streams_of new) answer → IsCalm answer → EndsAs status.Done answer
job-ends job file name old new answer ready runs calm =
    elim runs [
      | inl lacks ↦ subst (EndsAs status.Done) (sym lacks.2.told.answered)
          (sealing-ends file name lacks.0 old.files new.files ready.seals lacks.1 (subst IsCalm lacks.2.told.answered calm))
      | inr sealed ↦
          let answers = sealed.3 in
          stop-ends (job sealed.0) answers.how answers.is_broken (streams_of old) (streams_of new) answers.lines answer (told-right job sealed.0 old.input.left ready.told)
          answers.reading answers.answered calm
    ]

runs-end : (asked : Command) (old new : Outside) (answer : Status) → IsReadyFor asked old new → Runs asked old new answer → IsCalm answer → NoneBoth → EndsAs status.Done answer
runs-end (command.Generate count) old new answer ready runs calm none = lines-end count old.sink new.sink answer runs.1 calm
runs-end command.KeyGen old new answer ready runs calm none = keys-end old new answer runs.2 calm
runs-end command.Journal old new answer ready runs calm none = journal-ends old new answer runs.2 calm none ready.0 ready.1
runs-end (command.Encode file name) old new answer ready runs calm none = job-ends Encode file name old new answer ready runs.1 calm
runs-end (command.Decode file name) old new answer ready runs calm none = job-ends Decode file name old new answer ready runs.1 calm
runs-end command.Help old new answer ready runs calm none = printed-ends runs.1.is_broken answer runs.1.answered calm
runs-end command.Version old new answer ready runs calm none = printed-ends runs.1.is_broken answer runs.1.answered calm
runs-end (command.Serve conf access packets turns verbose) old new answer ready runs calm none = absurd runs
runs-end (command.Trial conf access quiet verbose) old new answer ready runs calm none = absurd runs
runs-end command.List old new answer ready runs calm none = absurd runs
runs-end (command.Send send) old new answer ready runs calm none = absurd runs

-- words that are a command are told nothing of, unless memory is wanting
word-ends : (words : List (List ℕ)) (fault : WordFault) (asked : Command) (wanted answer : Status) → IsWordErr Fko words fault → ReadsWords Fko words asked
    → answer ≡ fault_status (fault_of_words fault) → EndsAs wanted answer
word-ends words word.NoMemory asked wanted answer why reads is = inr is
word-ends words (word.Unknown place) asked wanted answer why reads is = let read = reads.reads in absurd cc
word-ends words (word.NoValue place) asked wanted answer why reads is = let read = reads.reads in absurd cc
word-ends words (word.Twice place) asked wanted answer why reads is = let read = reads.reads in absurd cc
word-ends words (word.BadValue place) asked wanted answer why reads is = let read = reads.reads in absurd cc
word-ends words word.Modes asked wanted answer why reads is = let read = reads.reads in absurd cc

-- words ask for one command
abbrev pub OneCommand : Type 0
OneCommand = (words : List (List ℕ)) (a b : Command) → ReadsWords Fko words a → ReadsWords Fko words b → a ≡ b

-- a call in whose way nothing stands ends well
pub tool-ends : (words : List (List ℕ)) (old new : Outside) (answer : Status) → RunsTool words old new answer → FailsByAnswer answer old new → NoneBoth → OneCommand
    → MeetsNoFault words old new → EndsAs status.Done answer
tool-ends words old new answer runs fails none one meets =
    let quiet : IsCalm answer = calm answer old new fails meets.counts in
    elim runs [
      | inl refuses ↦ word-ends words refuses.fault meets.command status.Done answer refuses.first meets.reads refuses.told.answered
      | inr obeys ↦
          runs-end obeys.command old new answer
          (subst (λ (c : Command). IsReadyFor c old new) (one words meets.command obeys.command meets.reads obeys.reads) meets.ready) obeys.runs quiet none
    ]

-- usage

no-usage-printed : (is_broken : Bool) (answer : Status) → answer ≡ printed_status is_broken → answer ≢ status.Usage
no-usage-printed false answer is = λ usage. cc
no-usage-printed true answer is = λ usage. cc

no-usage-lines : {IsText : ℕ → List ℕ → Type 0} (count : ℕ) (old new : SinkView) (answer : Status) → ShowsLines IsText count old new answer → answer ≢ status.Usage
no-usage-lines count old new answer shows =
    elim shows [
      | inl all ↦ let is = all.0 in λ usage. cc
      | inr less ↦ elim less [
        | inl broken ↦ let is = broken.0 in λ usage. cc
        | inr short ↦ let is = short.0 in λ usage. cc
      ]
    ]

no-usage-keys : (old new : Outside) (answer : Status) → MakesKeys old.entropy new.entropy old.sink new.sink answer → answer ≢ status.Usage
no-usage-keys old new answer makes =
    elim makes [
      | inl failed ↦ let is = failed.1.answered in λ usage. cc
      | inr drawn ↦ elim drawn.2 [
        | inl short ↦ let is = short.answered in λ usage. cc
        | inr shows ↦ no-usage-printed shows.is_broken answer shows.answered
      ]
    ]

no-usage-view : (why : JournalErr) (answer : Status) → answer ≡ view_status why → answer ≢ status.Usage
no-usage-view journal.Disk answer is = λ usage. cc
no-usage-view (journal.Damaged place) answer is = λ usage. cc
no-usage-view journal.NoMemory answer is = λ usage. cc

no-usage-journal : (old new : Outside) (answer : Status) → PrintsJournal old.disk new.disk old.sink new.sink answer → answer ≢ status.Usage
no-usage-journal old new answer prints =
    elim prints.came [
      | inl shows ↦ no-usage-lines _ old.sink new.sink answer shows.shows
      | inr nothing ↦ no-usage-view nothing.fault answer nothing.told.answered
    ]

no-usage-fault : (file name : List ℕ) (fault : Fault) (old new : FilesView) → FindsNoSealing file name fault old new → client_status fault ≢ status.Usage
no-usage-fault file name (Common (FileNotHeld named)) old new fails = λ usage. cc
no-usage-fault file name (Common (FileNotRead named)) old new fails = λ usage. cc
no-usage-fault file name (Common (WrongFile named line what)) old new fails = λ usage. cc
no-usage-fault file name (Common WantsMemory) old new fails = λ usage. cc
no-usage-fault file name (Common (WrongWords why)) old new fails = absurd fails
no-usage-fault file name (LacksSetting named what) old new fails = λ usage. cc
no-usage-fault file name EntropyFails old new fails = absurd fails
no-usage-fault file name LinkFails old new fails = absurd fails

no-usage-stop : (how : Stop) (is_broken : Bool) → stop_status how is_broken ≢ status.Usage
no-usage-stop stop.End false = λ usage. cc
no-usage-stop stop.End true = λ usage. cc
no-usage-stop stop.BadLine is_broken = λ usage. cc
no-usage-stop stop.LongInput is_broken = λ usage. cc
no-usage-stop stop.ReadFault is_broken = λ usage. cc
no-usage-stop stop.EntropyFault is_broken = λ usage. cc
no-usage-stop stop.NoMemory is_broken = λ usage. cc

no-usage-job : (job : Sealing → Job) (file name : List ℕ) (files later : FilesView) (old new : Streams) (answer : Status) → RunsJob job file name files later old new answer
    → answer ≢ status.Usage
no-usage-job job file name files later old new answer runs =
    elim runs [
      | inl lacks ↦ λ usage. no-usage-fault file name lacks.0 files later lacks.1 (sym lacks.2.told.answered ∙ usage)
      | inr sealed ↦ λ usage. no-usage-stop sealed.3.how sealed.3.is_broken (sym sealed.3.answered ∙ usage)
    ]

-- a command is never answered usage
no-usage : (asked : Command) (old new : Outside) (answer : Status) → Runs asked old new answer → answer ≢ status.Usage
no-usage (command.Generate count) old new answer runs = no-usage-lines count old.sink new.sink answer runs.1
no-usage command.KeyGen old new answer runs = no-usage-keys old new answer runs.2
no-usage command.Journal old new answer runs = no-usage-journal old new answer runs.2
no-usage (command.Encode file name) old new answer runs = no-usage-job Encode file name old.files new.files (streams_of old) (streams_of new) answer runs.1
no-usage (command.Decode file name) old new answer runs = no-usage-job Decode file name old.files new.files (streams_of old) (streams_of new) answer runs.1
no-usage command.Help old new answer runs = no-usage-printed runs.1.is_broken answer runs.1.answered
no-usage command.Version old new answer runs = no-usage-printed runs.1.is_broken answer runs.1.answered
no-usage (command.Serve conf access packets turns verbose) old new answer runs = absurd runs
no-usage (command.Trial conf access quiet verbose) old new answer runs = absurd runs
no-usage command.List old new answer runs = absurd runs
no-usage (command.Send send) old new answer runs = absurd runs

err-of : {T : Type 0} (read : Result T WordFault) (fault : WordFault) → read ≡ Err fault → IsErr read
err-of (Ok set) fault is = absurd cc
err-of (Err e) fault is = refl

ok-no_err : {T : Type 0} (read : Result T WordFault) (set : T) → read ≡ Ok set → IsErr read → ⊥
ok-no_err (Ok set) other is wrong = cc
ok-no_err (Err e) other is wrong = cc

word-refused : (words : List (List ℕ)) (fault : WordFault) (answer : Status) → IsWordErr Fko words fault → answer ≡ fault_status (fault_of_words fault)
    → answer ≡ status.Usage → IsErr (set_read Fko words)
word-refused words word.NoMemory answer why is usage = absurd cc
word-refused words (word.Unknown place) answer why is usage = err-of (set_read Fko words) (word.Unknown place) why
word-refused words (word.NoValue place) answer why is usage = err-of (set_read Fko words) (word.NoValue place) why
word-refused words (word.Twice place) answer why is usage = err-of (set_read Fko words) (word.Twice place) why
word-refused words (word.BadValue place) answer why is usage = err-of (set_read Fko words) (word.BadValue place) why
word-refused words word.Modes answer why is usage = err-of (set_read Fko words) word.Modes why

refused-word : (words : List (List ℕ)) (fault : WordFault) (answer : Status) → IsWordErr Fko words fault → answer ≡ fault_status (fault_of_words fault)
    → IsErr (set_read Fko words) → answer ≡ status.Usage
refused-word words word.NoMemory answer why is wrong = absurd (ok-no_err (set_read Fko words) why.set why.reads wrong)
refused-word words (word.Unknown place) answer why is wrong = is
refused-word words (word.NoValue place) answer why is wrong = is
refused-word words (word.Twice place) answer why is wrong = is
refused-word words (word.BadValue place) answer why is wrong = is
refused-word words word.Modes answer why is wrong = is

-- the answer is usage exactly where the words fail a test
pub tool-usage : (words : List (List ℕ)) (old new : Outside) (answer : Status) → RunsTool words old new answer → (answer ≡ status.Usage) ↔ IsErr (set_read Fko words)
tool-usage words old new answer runs =
    elim runs [
      | inl refuses ↦ (
        λ is. word-refused words refuses.fault answer refuses.first refuses.told.answered is,
        λ wrong. refused-word words refuses.fault answer refuses.first refuses.told.answered wrong,
      )
      | inr obeys ↦ (
        λ is. absurd (no-usage obeys.command old new answer obeys.runs is),
        λ wrong. absurd (ok-no_err (set_read Fko words) obeys.reads.set obeys.reads.reads wrong),
      )
    ]

-- the file that the words name

no-file : (file name : List ℕ) (fault : Fault) (old new : FilesView) → IsSomeAnd old.held (λ held. bytes_of_file file held ≡ None) → FindsNoSealing file name fault old new
    → EndsAs status.FileFault (client_status fault)
no-file file name (Common (FileNotHeld named)) old new missing fails = inl refl
no-file file name (Common (FileNotRead named)) old new missing fails = inl refl
no-file file name (Common (WrongFile named line what)) old new missing fails = absurd (not-held file file fails.1.0 old.held refl missing fails.1.1.held)
no-file file name (LacksSetting named what) old new missing fails = absurd (not-held file file fails.2.read.text old.held refl missing fails.2.read.read.held)
no-file file name (Common WantsMemory) old new missing fails = inr refl
no-file file name (Common (WrongWords why)) old new missing fails = absurd fails
no-file file name EntropyFails old new missing fails = absurd fails
no-file file name LinkFails old new missing fails = absurd fails

job-missing : (job : Sealing → Job) (of file by name : List ℕ) (old new : Outside) (answer : Status) → of ≡ file → by ≡ name
    → IsSomeAnd old.files.held (λ held. bytes_of_file file held ≡ None) → RunsJob job of by old.files new.files (streams_of old) (streams_of new) answer
    → EndsAs status.FileFault answer
job-missing job of file by name old new answer same_file same_name missing ran =
    let runs = job-named job of file by name old.files new.files (streams_of old) (streams_of new) answer same_file same_name ran in
    elim runs [
      | inl lacks ↦ subst (EndsAs status.FileFault) (sym lacks.2.told.answered) (no-file file name lacks.0 old.files new.files missing lacks.1)
      | inr sealed ↦ absurd (not-held file file sealed.1.read.text old.files.held refl missing sealed.1.read.read.held)
    ]

asked-missing : (asked : Command) (file name : List ℕ) (old new : Outside) (answer : Status) → IsJobBy file name asked
    → IsSomeAnd old.files.held (λ held. bytes_of_file file held ≡ None) → Runs asked old new answer → EndsAs status.FileFault answer
asked-missing (command.Encode of by) file name old new answer same missing runs = job-missing Encode of file by name old new answer same.0 same.1 missing runs.1
asked-missing (command.Decode of by) file name old new answer same missing runs = job-missing Decode of file by name old new answer same.0 same.1 missing runs.1
asked-missing (command.Generate count) file name old new answer same missing runs = absurd same
asked-missing command.KeyGen file name old new answer same missing runs = absurd same
asked-missing command.Journal file name old new answer same missing runs = absurd same
asked-missing command.Help file name old new answer same missing runs = absurd same
asked-missing command.Version file name old new answer same missing runs = absurd same
asked-missing (command.Serve conf access packets turns verbose) file name old new answer same missing runs = absurd runs
asked-missing (command.Trial conf access quiet verbose) file name old new answer same missing runs = absurd runs
asked-missing command.List file name old new answer same missing runs = absurd runs
asked-missing (command.Send send) file name old new answer same missing runs = absurd runs

-- a file that is not held ends the tool as a fault of the files
pub tool-missing : (words : List (List ℕ)) (old new : Outside) (answer : Status) → RunsTool words old new answer → OneCommand → NamesNoFile words old.files
    → EndsAs status.FileFault answer
tool-missing words old new answer runs one names =
    elim runs [
      | inl refuses ↦ word-ends words refuses.fault names.asks.command status.FileFault answer refuses.first names.asks.reads refuses.told.answered
      | inr obeys ↦ asked-missing obeys.command names.file names.name old new answer
          (subst (IsJobBy names.file names.name) (one words names.asks.command obeys.command names.asks.reads obeys.reads) names.asks.by) names.missing obeys.runs
    ]

wrong-file : (file name : List ℕ) (fault : Fault) (old new : FilesView) → (Rose old.faults new.faults → ⊥) → FindsNoSealing file name fault old new
    → EndsAs status.Config (client_status fault)
wrong-file file name (Common (FileNotHeld named)) old new calm fails = absurd (calm (rose old.faults new.faults (ap (λ (files : FilesView). files.faults) fails.1)))
wrong-file file name (Common (FileNotRead named)) old new calm fails = absurd (calm (rose old.faults new.faults (ap (λ (files : FilesView). files.faults) fails.1)))
wrong-file file name (Common (WrongFile named line what)) old new calm fails = inl refl
wrong-file file name (LacksSetting named what) old new calm fails = inl refl
wrong-file file name (Common WantsMemory) old new calm fails = inr refl
wrong-file file name (Common (WrongWords why)) old new calm fails = absurd fails
wrong-file file name EntropyFails old new calm fails = absurd fails
wrong-file file name LinkFails old new calm fails = absurd fails

-- a wrong text does not seal
no-sealing : (file name text : List ℕ) (files : FilesView) (sealing : Sealing) → IsSomeAnd files.held (λ held. bytes_of_file file held ≡ Some text) → IsWrongText name text
    → HasSealing file name files sealing → ⊥
no-sealing file name text files sealing held wrong has =
    let found : has.read.text ≡ text = held-same file file text has.read.text files.held refl held has.read.read.held in
    let says : ReadsRc text has.stanzas = subst (λ (t : List ℕ). ReadsRc t has.stanzas) found has.read.says in
    elim wrong [
      | inl line ↦ line says.faultless
      | inr lacks ↦ lacks.2 (sym (sealing-same text has.stanzas lacks.0 name says lacks.1) ∙ has.gives.faultless)
    ]

job-wrong : (job : Sealing → Job) (of file by name text : List ℕ) (old new : Outside) (answer : Status) → of ≡ file → by ≡ name
    → IsSomeAnd old.files.held (λ held. bytes_of_file file held ≡ Some text) → IsWrongText name text → (Rose old.files.faults new.files.faults → ⊥)
    → RunsJob job of by old.files new.files (streams_of old) (streams_of new) answer → EndsAs status.Config answer
job-wrong job of file by name text old new answer same_file same_name held wrong calm ran =
    let runs = job-named job of file by name old.files new.files (streams_of old) (streams_of new) answer same_file same_name ran in
    elim runs [
      | inl lacks ↦ subst (EndsAs status.Config) (sym lacks.2.told.answered) (wrong-file file name lacks.0 old.files new.files calm lacks.1)
      | inr sealed ↦ absurd (no-sealing file name text old.files sealed.0 held wrong sealed.1)
    ]

asked-wrong : (asked : Command) (file name text : List ℕ) (old new : Outside) (answer : Status) → IsJobBy file name asked
    → IsSomeAnd old.files.held (λ held. bytes_of_file file held ≡ Some text) → IsWrongText name text → (Rose old.files.faults new.files.faults → ⊥)
    → Runs asked old new answer → EndsAs status.Config answer
asked-wrong (command.Encode of by) file name text old new answer same held wrong calm runs = job-wrong Encode of file by name text old new answer same.0 same.1 held wrong calm runs.1
asked-wrong (command.Decode of by) file name text old new answer same held wrong calm runs = job-wrong Decode of file by name text old new answer same.0 same.1 held wrong calm runs.1
asked-wrong (command.Generate count) file name text old new answer same held wrong calm runs = absurd same
asked-wrong command.KeyGen file name text old new answer same held wrong calm runs = absurd same
asked-wrong command.Journal file name text old new answer same held wrong calm runs = absurd same
asked-wrong command.Help file name text old new answer same held wrong calm runs = absurd same
asked-wrong command.Version file name text old new answer same held wrong calm runs = absurd same
asked-wrong (command.Serve conf access packets turns verbose) file name text old new answer same held wrong calm runs = absurd runs
asked-wrong (command.Trial conf access quiet verbose) file name text old new answer same held wrong calm runs = absurd runs
asked-wrong command.List file name text old new answer same held wrong calm runs = absurd runs
asked-wrong (command.Send send) file name text old new answer same held wrong calm runs = absurd runs

-- a file whose text is wrong ends the tool as one, unless the files fail
pub tool-config : (words : List (List ℕ)) (old new : Outside) (answer : Status) → RunsTool words old new answer → OneCommand → NamesWrongFile words old.files
    → (Rose old.files.faults new.files.faults → ⊥) → EndsAs status.Config answer
tool-config words old new answer runs one names calm =
    elim runs [
      | inl refuses ↦ word-ends words refuses.fault names.asks.command status.Config answer refuses.first names.asks.reads refuses.told.answered
      | inr obeys ↦ asked-wrong obeys.command names.file names.name names.text old new answer
          (subst (IsJobBy names.file names.name) (one words names.asks.command obeys.command names.asks.reads obeys.reads) names.asks.by) names.held names.wrong calm obeys.runs
    ]
