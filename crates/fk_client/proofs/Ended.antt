-- A client in whose way nothing stands ends well, and only wrong words are usage.
use Rattle.std.proofs.Common.{◌≡◌, ◌≢◌, ◌↔◌, ℕ, Bool, true, false, List, Option, Some, None, IfSome, IsSomeAnd, Result, Ok, Err, IsErr, refl, sym, ap, subst, inl, inr, ◌∙◌}
use Rattle.std.specs.Option.{option_map}
use Rattle.fk_base.specs.declared.status.Status.{Status}
use Rattle.fk_base.specs.declared.status.Status.TheVariants as status
use Rattle.fk_host.specs.declared.files.HeldFile.{HeldFile}
use Rattle.fk_host.specs.Count.{counted, Rose}
use Rattle.fk_host.specs.Files.{bytes_of_file}
use Rattle.fk_host.proofs.Counts.{counted-Rose}
use Rattle.fk_log.specs.Causes.{FailsOnlyAs, FailsSink}
use Rattle.fk_conf.specs.FaultNames.{conf_fault_name}
use Rattle.fk_conf.specs.RcFault.{rc_fault}
use Rattle.fk_conf.specs.ReadsRc.{ReadsRc}
use Rattle.fk_words.specs.declared.command.Command.{Command}
use Rattle.fk_words.specs.declared.command.Command.TheVariants as command
use Rattle.fk_words.specs.declared.command.SendWords.{SendWords}
use Rattle.fk_words.specs.declared.tool.Tool.TheVariants.{Client}
use Rattle.fk_words.specs.declared.word_fault.WordFault.{WordFault}
use Rattle.fk_words.specs.declared.word_fault.WordFault.TheVariants as word
use Rattle.fk_words.specs.ReadsWords.{IsWordErr, ReadsWords, set_read}
use Rattle.fk_client.specs.declared.sent.Packet.{Packet}
use Rattle.fk_client.specs.declared.settled.Settings.{Settings}
use Rattle.fk_client.specs.Causes.{FailsByAnswer}
use Rattle.fk_client.specs.Faults.{Fault, fault_status}
use Rattle.fk_program.specs.Faults.{Fault as FileFault, fault_of_words}
use Rattle.fk_program.specs.Files.{FilesView}
use Rattle.fk_program.specs.Telling.{printed_status}
use Rattle.fk_client.specs.Faults.Fault.{Common, LacksSetting, EntropyFails, LinkFails}
use Rattle.fk_program.specs.Faults.Fault.{WrongWords, FileNotHeld, FileNotRead, WrongFile, WantsMemory}
use Rattle.fk_client.specs.Outside.{Outside}
use Rattle.fk_client.specs.Ready.{CountsNone, EndsAs, IsReadyFor, IsReadyToSend, IsWrongText, MeetsNoFault, NamesNoFile, NamesWrongFile}
use Rattle.fk_client.specs.Running.{Delivers, FindsNoSettings, HasSettings, MakesKeys, RunsClient, RunsSend, Runs, SendsBy}
use Rattle.fk_client.specs.Settle.{need_fault}
use Rattle.fk_words.specs.CommandOf.{AskAlike, SaysSame}
use Rattle.fk_client.proofs.Needs.{needs-same}

-- the answer is no fault of an object
pub record IsCalm (answer : Status) : Type 0 where
  pub files : answer ≢ status.FileFault
  pub entropy : answer ≢ status.EntropyFault
  pub link : answer ≢ status.LinkFault
  pub sink : answer ≢ status.SinkFault

rose : (old new : ℕ) → new ≡ counted old → Rose old new
rose old new is = subst (λ (n : ℕ). Rose old n) (sym is) (counted-Rose old)

not-only : (fault answer : Status) (old new : ℕ) → FailsOnlyAs fault answer old new → (Rose old new → ⊥) → answer ≢ fault
not-only fault answer old new only calm =
    elim only [
      | inl fails ↦ absurd (calm (rose old new fails.1))
      | inr stands ↦ stands.0
    ]

not-sink : (answer : Status) (old new : ℕ) → FailsSink answer old new → (Rose old new → ⊥) → answer ≢ status.SinkFault
not-sink answer old new fails calm = λ is. calm (rose old new (subst (λ (a : Status). FailsSink a old new) is fails))

calm : (answer : Status) (old new : Outside) → FailsByAnswer answer old new → CountsNone old new → IsCalm answer
calm answer old new fails none = record {
  files = not-only status.FileFault answer old.files.faults new.files.faults fails.files none.files;
  entropy = not-only status.EntropyFault answer old.entropy.faults new.entropy.faults fails.entropy none.entropy;
  link = not-only status.LinkFault answer old.link.faults new.link.faults fails.link none.link;
  sink = not-sink answer old.sink.faults new.sink.faults fails.sink none.sink;
}

printed-ends : (is_broken : Bool) (answer : Status) → answer ≡ printed_status is_broken → IsCalm answer → EndsAs status.Done answer
printed-ends false answer is calm = inl is
printed-ends true answer is calm = absurd (calm.sink is)

pub held-same : (name other text found : List ℕ) (held : Option (List HeldFile)) → other ≡ name
    → IsSomeAnd held (λ held. bytes_of_file name held ≡ Some text) → IfSome held (λ held. bytes_of_file other held ≡ Some found) → found ≡ text
held-same name other text found None names right told = absurd right
held-same name other text found (Some held) names right told =
    let at : bytes_of_file name held ≡ Some found = subst (λ (n : List ℕ). bytes_of_file n held ≡ Some found) names told in
    cc

pub none-wrong : {X : Type 0} (fault : Option X) (x : X) → fault ≡ None → fault ≡ Some x → ⊥
none-wrong fault x none wrong = cc

pub none-told : {X : Type 0} (f : X → FileFault) (found : Option X) (fault : FileFault) → found ≡ None → option_map f found ≡ Some fault → ⊥
none-told f None fault is told = cc
none-told f (Some x) fault is told = cc

-- no fault of what is read is told
settles-ends : (send asked : SendWords) (fault : Fault) (old new : FilesView) → SaysSame send asked → IsReadyToSend asked old → FindsNoSettings send fault old new
    → IsCalm (fault_status fault) → EndsAs status.Done (fault_status fault)
settles-ends send asked (Common (FileNotHeld name)) old new same ready fails calm = absurd (calm.files refl)
settles-ends send asked (Common (FileNotRead name)) old new same ready fails calm = absurd (calm.files refl)
settles-ends send asked (Common (WrongFile name line what)) old new same ready fails calm =
    let text : fails.1.0 ≡ ready.text = held-same asked.file send.file ready.text fails.1.0 old.held same.file ready.held fails.1.1.held in
    absurd (none-told (λ found. WrongFile send.file found.0 (conf_fault_name found.1)) (rc_fault fails.1.0) (WrongFile name line what)
    (subst (λ (t : List ℕ). rc_fault t ≡ None) (sym text) ready.says.faultless) fails.1.2)
settles-ends send asked (LacksSetting name what) old new same ready fails calm =
    let lacks = fails.2 in
    let text : lacks.read.text ≡ ready.text = held-same asked.file send.file ready.text lacks.read.text old.held same.file ready.held lacks.read.read.held in
    let says : ReadsRc ready.text lacks.stanzas = subst (λ (t : List ℕ). ReadsRc t lacks.stanzas) text lacks.read.says in
    absurd (none-wrong (need_fault lacks.stanzas send) lacks.fault (needs-same ready.text lacks.stanzas ready.stanzas send asked says ready.says same ∙ ready.needs) lacks.first)
settles-ends send asked (Common WantsMemory) old new same ready fails calm = inr refl
settles-ends send asked (Common (WrongWords why)) old new same ready fails calm = absurd fails
settles-ends send asked EntropyFails old new same ready fails calm = absurd fails
settles-ends send asked LinkFails old new same ready fails calm = absurd fails

delivery-ends : (is_shown : Bool) (packet : Packet) (old new : Outside) (answer : Status) → Delivers is_shown packet old new answer → IsCalm answer → EndsAs status.Done answer
delivery-ends true packet old new answer delivers calm = printed-ends delivers.1.is_broken answer delivers.1.answered calm
delivery-ends false packet old new answer delivers calm =
    elim delivers [
      | inl failed ↦ absurd (calm.link failed.1.answered)
      | inr sent ↦ printed-ends sent.1.is_broken answer sent.1.answered calm
    ]

settled-ends : (is_shown : Bool) (settings : Settings) (moment : ℕ) (old new : Outside) (answer : Status) → SendsBy is_shown settings moment old new answer
    → IsCalm answer → EndsAs status.Done answer
settled-ends is_shown settings moment old new answer sends calm =
    elim sends [
      | inl failed ↦ absurd (calm.entropy failed.told.answered)
      | inr drawn ↦ elim drawn.2 [
        | inl short ↦ inr short.1.answered
        | inr made ↦ delivery-ends is_shown made.0 old new answer made.2 calm
      ]
    ]

send-ends : (send asked : SendWords) (moment : ℕ) (old new : Outside) (answer : Status) → SaysSame send asked → IsReadyToSend asked old.files
    → RunsSend send moment old new answer → IsCalm answer → EndsAs status.Done answer
send-ends send asked moment old new answer same ready runs calm =
    elim runs [
      | inl lacks ↦ subst (EndsAs status.Done) (sym lacks.2.told.answered)
          (settles-ends send asked lacks.0 old.files new.files same ready lacks.1 (subst IsCalm lacks.2.told.answered calm))
      | inr settled ↦ settled-ends send.print settled.0 moment old new answer settled.3 calm
    ]

keys-end : (old new : Outside) (answer : Status) → MakesKeys old.entropy new.entropy old.sink new.sink answer → IsCalm answer → EndsAs status.Done answer
keys-end old new answer makes calm =
    elim makes [
      | inl failed ↦ absurd (calm.entropy failed.1.answered)
      | inr drawn ↦ elim drawn.2 [
        | inl short ↦ inr short.answered
        | inr shows ↦ printed-ends shows.is_broken answer shows.answered calm
      ]
    ]

asked-ends : (ran asked : Command) (moment : ℕ) (old new : Outside) (answer : Status) → AskAlike ran asked → IsReadyFor asked old.files
    → Runs ran moment old new answer → IsCalm answer → EndsAs status.Done answer
asked-ends (command.Send send) (command.Send asked) moment old new answer alike ready runs calm =
    send-ends send asked moment old new answer alike ready runs calm
asked-ends (command.Send send) _ moment old new answer alike ready runs calm = absurd alike
asked-ends command.KeyGen asked moment old new answer alike ready runs calm = keys-end old new answer runs.2 calm
asked-ends command.Help asked moment old new answer alike ready runs calm = printed-ends runs.1.is_broken answer runs.1.answered calm
asked-ends command.Version asked moment old new answer alike ready runs calm = printed-ends runs.1.is_broken answer runs.1.answered calm
asked-ends (command.Serve conf access packets turns verbose) asked moment old new answer alike ready runs calm = absurd runs
asked-ends (command.Trial conf access quiet verbose) asked moment old new answer alike ready runs calm = absurd runs
asked-ends command.List asked moment old new answer alike ready runs calm = absurd runs
asked-ends (command.Encode file name) asked moment old new answer alike ready runs calm = absurd runs
asked-ends (command.Decode file name) asked moment old new answer alike ready runs calm = absurd runs
asked-ends command.Journal asked moment old new answer alike ready runs calm = absurd runs
asked-ends (command.Generate count) asked moment old new answer alike ready runs calm = absurd runs

word-stops : (words : List (List ℕ)) (fault : WordFault) (asked : Command) (wanted answer : Status) → IsWordErr Client words fault → ReadsWords Client words asked
    → answer ≡ fault_status (Common (fault_of_words fault)) → EndsAs wanted answer
word-stops words word.NoMemory asked wanted answer why reads is = inr is
word-stops words (word.Unknown place) asked wanted answer why reads is = let read = reads.reads in absurd cc
word-stops words (word.NoValue place) asked wanted answer why reads is = let read = reads.reads in absurd cc
word-stops words (word.Twice place) asked wanted answer why reads is = let read = reads.reads in absurd cc
word-stops words (word.BadValue place) asked wanted answer why reads is = let read = reads.reads in absurd cc
word-stops words word.Modes asked wanted answer why reads is = let read = reads.reads in absurd cc

-- a client in whose way nothing stands ends well
pub client-ends : (words : List (List ℕ)) (moment : ℕ) (old new : Outside) (answer : Status) → RunsClient words moment old new answer
    → FailsByAnswer answer old new → ((a b : Command) → ReadsWords Client words a → ReadsWords Client words b → AskAlike a b)
    → MeetsNoFault words old new → EndsAs status.Done answer
client-ends words moment old new answer runs fails alike meets =
    let quiet : IsCalm answer = calm answer old new fails meets.counts in
    elim runs [
      | inl refuses ↦ word-stops words refuses.fault meets.command status.Done answer refuses.first meets.reads refuses.told.answered
      | inr obeys ↦ asked-ends obeys.command meets.command moment old new answer (alike obeys.command meets.command obeys.reads meets.reads) meets.ready obeys.runs quiet
    ]

-- usage

no-usage-printed : (is_broken : Bool) (answer : Status) → answer ≡ printed_status is_broken → answer ≢ status.Usage
no-usage-printed false answer is = λ usage. cc
no-usage-printed true answer is = λ usage. cc

no-usage-settled : (send : SendWords) (fault : Fault) (old new : FilesView) → FindsNoSettings send fault old new → fault_status fault ≢ status.Usage
no-usage-settled send (Common (FileNotHeld name)) old new fails = λ usage. cc
no-usage-settled send (Common (FileNotRead name)) old new fails = λ usage. cc
no-usage-settled send (Common (WrongFile name line what)) old new fails = λ usage. cc
no-usage-settled send (LacksSetting name what) old new fails = λ usage. cc
no-usage-settled send (Common WantsMemory) old new fails = λ usage. cc
no-usage-settled send (Common (WrongWords why)) old new fails = absurd fails
no-usage-settled send EntropyFails old new fails = absurd fails
no-usage-settled send LinkFails old new fails = absurd fails

no-usage-delivered : (is_shown : Bool) (packet : Packet) (old new : Outside) (answer : Status) → Delivers is_shown packet old new answer → answer ≢ status.Usage
no-usage-delivered true packet old new answer delivers = no-usage-printed delivers.1.is_broken answer delivers.1.answered
no-usage-delivered false packet old new answer delivers =
    elim delivers [
      | inl failed ↦ let is = failed.1.answered in λ usage. cc
      | inr sent ↦ no-usage-printed sent.1.is_broken answer sent.1.answered
    ]

no-usage-sent : (is_shown : Bool) (settings : Settings) (moment : ℕ) (old new : Outside) (answer : Status) → SendsBy is_shown settings moment old new answer → answer ≢ status.Usage
no-usage-sent is_shown settings moment old new answer sends =
    elim sends [
      | inl failed ↦ let is = failed.told.answered in λ usage. cc
      | inr drawn ↦ elim drawn.2 [
        | inl short ↦ let is = short.1.answered in λ usage. cc
        | inr made ↦ no-usage-delivered is_shown made.0 old new answer made.2
      ]
    ]

no-usage-keys : (old new : Outside) (answer : Status) → MakesKeys old.entropy new.entropy old.sink new.sink answer → answer ≢ status.Usage
no-usage-keys old new answer makes =
    elim makes [
      | inl failed ↦ let is = failed.1.answered in λ usage. cc
      | inr drawn ↦ elim drawn.2 [
        | inl short ↦ let is = short.answered in λ usage. cc
        | inr shows ↦ no-usage-printed shows.is_broken answer shows.answered
      ]
    ]

no-usage : (asked : Command) (moment : ℕ) (old new : Outside) (answer : Status) → Runs asked moment old new answer → answer ≢ status.Usage
no-usage (command.Send send) moment old new answer runs =
    elim runs [
      | inl lacks ↦ let is = lacks.2.told.answered in λ usage. no-usage-settled send lacks.0 old.files new.files lacks.1 (sym is ∙ usage)
      | inr settled ↦ no-usage-sent send.print settled.0 moment old new answer settled.3
    ]
no-usage command.KeyGen moment old new answer runs = no-usage-keys old new answer runs.2
no-usage command.Help moment old new answer runs = no-usage-printed runs.1.is_broken answer runs.1.answered
no-usage command.Version moment old new answer runs = no-usage-printed runs.1.is_broken answer runs.1.answered
no-usage (command.Serve conf access packets turns verbose) moment old new answer runs = absurd runs
no-usage (command.Trial conf access quiet verbose) moment old new answer runs = absurd runs
no-usage command.List moment old new answer runs = absurd runs
no-usage (command.Encode file name) moment old new answer runs = absurd runs
no-usage (command.Decode file name) moment old new answer runs = absurd runs
no-usage command.Journal moment old new answer runs = absurd runs
no-usage (command.Generate count) moment old new answer runs = absurd runs

err-of : {T : Type 0} (read : Result T WordFault) (fault : WordFault) → read ≡ Err fault → IsErr read
err-of (Ok set) fault is = absurd cc
err-of (Err e) fault is = refl

ok-no_err : {T : Type 0} (read : Result T WordFault) (set : T) → read ≡ Ok set → IsErr read → ⊥
ok-no_err (Ok set) other is wrong = cc
ok-no_err (Err e) other is wrong = cc

usage-words : (words : List (List ℕ)) (fault : WordFault) (answer : Status) → IsWordErr Client words fault → answer ≡ fault_status (Common (fault_of_words fault))
    → (answer ≡ status.Usage) ↔ IsErr (set_read Client words)
usage-words words word.NoMemory answer why is = (λ usage. absurd cc, λ wrong. absurd (ok-no_err (set_read Client words) why.set why.reads wrong))
usage-words words (word.Unknown place) answer why is = (λ usage. err-of (set_read Client words) (word.Unknown place) why, λ wrong. is)
usage-words words (word.NoValue place) answer why is = (λ usage. err-of (set_read Client words) (word.NoValue place) why, λ wrong. is)
usage-words words (word.Twice place) answer why is = (λ usage. err-of (set_read Client words) (word.Twice place) why, λ wrong. is)
usage-words words (word.BadValue place) answer why is = (λ usage. err-of (set_read Client words) (word.BadValue place) why, λ wrong. is)
usage-words words word.Modes answer why is = (λ usage. err-of (set_read Client words) word.Modes why, λ wrong. is)

-- the answer is usage exactly where the words fail a test
pub client-usage : (words : List (List ℕ)) (moment : ℕ) (old new : Outside) (answer : Status) → RunsClient words moment old new answer
    → (answer ≡ status.Usage) ↔ IsErr (set_read Client words)
client-usage words moment old new answer runs =
    elim runs [
      | inl refuses ↦ usage-words words refuses.fault answer refuses.first refuses.told.answered
      | inr obeys ↦ (
        λ usage. absurd (no-usage obeys.command moment old new answer obeys.runs usage),
        λ wrong. absurd (ok-no_err (set_read Client words) obeys.reads.set obeys.reads.reads wrong),
      )
    ]

-- the file that the words name

pub not-held : (name other text : List ℕ) (held : Option (List HeldFile)) → other ≡ name → IsSomeAnd held (λ held. bytes_of_file name held ≡ None)
    → IfSome held (λ held. bytes_of_file other held ≡ Some text) → ⊥
not-held name other text None names missing told = absurd missing
not-held name other text (Some held) names missing told =
    let at : bytes_of_file name held ≡ Some text = subst (λ (n : List ℕ). bytes_of_file n held ≡ Some text) names told in
    absurd cc

missing-ends : (send asked : SendWords) (fault : Fault) (old new : FilesView) → SaysSame send asked → IsSomeAnd old.held (λ held. bytes_of_file asked.file held ≡ None)
    → FindsNoSettings send fault old new → EndsAs status.FileFault (fault_status fault)
missing-ends send asked (Common (FileNotHeld name)) old new same missing fails = inl refl
missing-ends send asked (Common (FileNotRead name)) old new same missing fails = inl refl
missing-ends send asked (Common (WrongFile name line what)) old new same missing fails =
    absurd (not-held asked.file send.file fails.1.0 old.held same.file missing fails.1.1.held)
missing-ends send asked (LacksSetting name what) old new same missing fails =
    absurd (not-held asked.file send.file fails.2.read.text old.held same.file missing fails.2.read.read.held)
missing-ends send asked (Common WantsMemory) old new same missing fails = inr refl
missing-ends send asked (Common (WrongWords why)) old new same missing fails = absurd fails
missing-ends send asked EntropyFails old new same missing fails = absurd fails
missing-ends send asked LinkFails old new same missing fails = absurd fails

wrong-ends : (send asked : SendWords) (fault : Fault) (old new : FilesView) → (Rose old.faults new.faults → ⊥) → FindsNoSettings send fault old new
    → EndsAs status.Config (fault_status fault)
wrong-ends send asked (Common (FileNotHeld name)) old new calm fails = absurd (calm (rose old.faults new.faults (ap (λ (files : FilesView). files.faults) fails.1)))
wrong-ends send asked (Common (FileNotRead name)) old new calm fails = absurd (calm (rose old.faults new.faults (ap (λ (files : FilesView). files.faults) fails.1)))
wrong-ends send asked (Common (WrongFile name line what)) old new calm fails = inl refl
wrong-ends send asked (LacksSetting name what) old new calm fails = inl refl
wrong-ends send asked (Common WantsMemory) old new calm fails = inr refl
wrong-ends send asked (Common (WrongWords why)) old new calm fails = absurd fails
wrong-ends send asked EntropyFails old new calm fails = absurd fails
wrong-ends send asked LinkFails old new calm fails = absurd fails

-- a wrong text gives no settings
no-settings : (send asked : SendWords) (text : List ℕ) (files : FilesView) (settings : Settings) → SaysSame send asked
    → IsSomeAnd files.held (λ held. bytes_of_file asked.file held ≡ Some text) → IsWrongText asked text → HasSettings send files settings → ⊥
no-settings send asked text files settings same held wrong has =
    let found : has.read.text ≡ text = held-same asked.file send.file text has.read.text files.held same.file held has.read.read.held in
    let says : ReadsRc text has.stanzas = subst (λ (t : List ℕ). ReadsRc t has.stanzas) found has.read.says in
    elim wrong [
      | inl line ↦ line says.faultless
      | inr lacks ↦ lacks.2 (sym (needs-same text has.stanzas lacks.0 send asked says lacks.1 same) ∙ has.settles.faultless)
    ]

asked-missing : (ran : Command) (asked : SendWords) (moment : ℕ) (old new : Outside) (answer : Status) → AskAlike ran (command.Send asked)
    → IsSomeAnd old.files.held (λ held. bytes_of_file asked.file held ≡ None) → Runs ran moment old new answer → EndsAs status.FileFault answer
asked-missing (command.Send send) asked moment old new answer alike missing runs =
    elim runs [
      | inl lacks ↦ subst (EndsAs status.FileFault) (sym lacks.2.told.answered) (missing-ends send asked lacks.0 old.files new.files alike missing lacks.1)
      | inr settled ↦ absurd (not-held asked.file send.file settled.1.read.text old.files.held alike.file missing settled.1.read.read.held)
    ]
asked-missing command.KeyGen asked moment old new answer alike missing runs = absurd alike
asked-missing command.Help asked moment old new answer alike missing runs = absurd alike
asked-missing command.Version asked moment old new answer alike missing runs = absurd alike
asked-missing (command.Serve conf access packets turns verbose) asked moment old new answer alike missing runs = absurd runs
asked-missing (command.Trial conf access quiet verbose) asked moment old new answer alike missing runs = absurd runs
asked-missing command.List asked moment old new answer alike missing runs = absurd runs
asked-missing (command.Encode file name) asked moment old new answer alike missing runs = absurd runs
asked-missing (command.Decode file name) asked moment old new answer alike missing runs = absurd runs
asked-missing command.Journal asked moment old new answer alike missing runs = absurd runs
asked-missing (command.Generate count) asked moment old new answer alike missing runs = absurd runs

-- a file that is not held ends a client as a fault of the files
pub client-missing : (words : List (List ℕ)) (moment : ℕ) (old new : Outside) (answer : Status) → RunsClient words moment old new answer
    → ((a b : Command) → ReadsWords Client words a → ReadsWords Client words b → AskAlike a b) → NamesNoFile words old.files → EndsAs status.FileFault answer
client-missing words moment old new answer runs alike names =
    elim runs [
      | inl refuses ↦ word-stops words refuses.fault (command.Send names.send) status.FileFault answer refuses.first names.reads refuses.told.answered
      | inr obeys ↦ asked-missing obeys.command names.send moment old new answer (alike obeys.command (command.Send names.send) obeys.reads names.reads) names.missing obeys.runs
    ]

asked-wrong : (ran : Command) (asked : SendWords) (moment : ℕ) (text : List ℕ) (old new : Outside) (answer : Status) → AskAlike ran (command.Send asked)
    → IsSomeAnd old.files.held (λ held. bytes_of_file asked.file held ≡ Some text) → IsWrongText asked text → (Rose old.files.faults new.files.faults → ⊥)
    → Runs ran moment old new answer → EndsAs status.Config answer
asked-wrong (command.Send send) asked moment text old new answer alike held wrong calm runs =
    elim runs [
      | inl lacks ↦ subst (EndsAs status.Config) (sym lacks.2.told.answered) (wrong-ends send asked lacks.0 old.files new.files calm lacks.1)
      | inr settled ↦ absurd (no-settings send asked text old.files settled.0 alike held wrong settled.1)
    ]
asked-wrong command.KeyGen asked moment text old new answer alike held wrong calm runs = absurd alike
asked-wrong command.Help asked moment text old new answer alike held wrong calm runs = absurd alike
asked-wrong command.Version asked moment text old new answer alike held wrong calm runs = absurd alike
asked-wrong (command.Serve conf access packets turns verbose) asked moment text old new answer alike held wrong calm runs = absurd runs
asked-wrong (command.Trial conf access quiet verbose) asked moment text old new answer alike held wrong calm runs = absurd runs
asked-wrong command.List asked moment text old new answer alike held wrong calm runs = absurd runs
asked-wrong (command.Encode file name) asked moment text old new answer alike held wrong calm runs = absurd runs
asked-wrong (command.Decode file name) asked moment text old new answer alike held wrong calm runs = absurd runs
asked-wrong command.Journal asked moment text old new answer alike held wrong calm runs = absurd runs
asked-wrong (command.Generate count) asked moment text old new answer alike held wrong calm runs = absurd runs

-- a wrong file ends a client as one
pub client-wrong : (words : List (List ℕ)) (moment : ℕ) (old new : Outside) (answer : Status) → RunsClient words moment old new answer
    → ((a b : Command) → ReadsWords Client words a → ReadsWords Client words b → AskAlike a b) → NamesWrongFile words old.files
    → (Rose old.files.faults new.files.faults → ⊥) → EndsAs status.Config answer
client-wrong words moment old new answer runs alike names calm =
    elim runs [
      | inl refuses ↦ word-stops words refuses.fault (command.Send names.send) status.Config answer refuses.first names.reads refuses.told.answered
      | inr obeys ↦ asked-wrong obeys.command names.send moment names.text old new answer (alike obeys.command (command.Send names.send) obeys.reads names.reads)
          names.held names.wrong calm obeys.runs
    ]
