-- Which counts of faults rose, by the answer of a client.
use Rattle.std.proofs.Common.{◌≡◌, ◌≢◌, ℕ, Bool, true, false, List, refl, sym, ap, subst, inl, inr}
use Rattle.fk_base.specs.declared.status.Status.{Status}
use Rattle.fk_base.specs.declared.status.Status.TheVariants as status
use Rattle.fk_words.specs.declared.command.Command.{Command}
use Rattle.fk_words.specs.declared.command.Command.TheVariants as command
use Rattle.fk_words.specs.declared.command.SendWords.{SendWords}
use Rattle.fk_words.specs.declared.word_fault.WordFault.{WordFault}
use Rattle.fk_log.specs.Causes.{FailsOnlyAs, FailsSink}
use Rattle.fk_log.specs.Printing.{SinkView}
use Rattle.fk_client.specs.declared.help.TheConstants.{HELP, VERSION}
use Rattle.fk_client.specs.declared.sent.Packet.{Packet}
use Rattle.fk_client.specs.declared.settled.Settings.{Settings}
use Rattle.fk_client.specs.Causes.{FailsByAnswer}
use Rattle.fk_client.specs.ClientText.{keys_text, sent_text, shown_text}
use Rattle.fk_client.specs.Faults.{Fault, Tells, fault_status, fault_text}
use Rattle.fk_program.specs.Faults.{fault_of_words}
use Rattle.fk_program.specs.Files.{FilesView}
use Rattle.fk_program.specs.Telling.{Says, Shows}
use Rattle.fk_program.proofs.Counting.{Blames, fault-blames, file-count, shown-blames, shows-sink, told-sink as common-told, words-spare-files}
use Rattle.fk_program.proofs.Saying.{said-once}
use Rattle.fk_client.specs.Faults.Fault.{Common, LacksSetting, EntropyFails, LinkFails}
use Rattle.fk_program.specs.Faults.Fault.{WantsMemory}
use Rattle.fk_client.specs.Outside.{EntropyView, LinkView, Outside, undrawn}
use Rattle.fk_client.specs.Running.{rc_test, Delivers, FindsNoSettings, MakesKeys, OnlyPrints, RunsClient, RunsSend, Runs, SendsBy, SendsPacket}

-- the output's count after a fault was told
told-sink : (fault : Fault) (old new : SinkView) → Says (fault_text fault) old new → FailsSink (fault_status fault) old.faults new.faults
told-sink (Common fault) old new says = common-told fault old new says
told-sink (LacksSetting name what) old new says = said-once (fault_text (LacksSetting name what)) old new says
told-sink EntropyFails old new says = said-once (fault_text EntropyFails) old new says
told-sink LinkFails old new says = said-once (fault_text LinkFails) old new says

tells-sink : (fault : Fault) (old new : SinkView) (answer : Status) → Tells fault old new answer → FailsSink answer old.faults new.faults
tells-sink fault old new answer tells = subst (λ (a : Status). FailsSink a old.faults new.faults) (sym tells.answered) (told-sink fault old new tells.said)

-- nothing but the output failed
calm-counts : (old new : Outside) (answer : Status) → (answer ≢ status.FileFault) × Blames answer → new.files.faults ≡ old.files.faults → new.entropy.faults ≡ old.entropy.faults
    → new.link.faults ≡ old.link.faults → FailsSink answer old.sink.faults new.sink.faults → FailsByAnswer answer old new
calm-counts old new answer blames files entropy link sink = record {
  files = inr (blames.0, files);
  entropy = inr (blames.1.entropy, entropy);
  link = inr (blames.1.link, link);
  sink = sink;
}

shown-counts : (text : List ℕ) (old new : Outside) (answer : Status) → new.files.faults ≡ old.files.faults → new.entropy.faults ≡ old.entropy.faults
    → new.link.faults ≡ old.link.faults → Shows text old.sink new.sink answer → FailsByAnswer answer old new
shown-counts text old new answer files entropy link shows =
    calm-counts old new answer (shown-blames shows.is_broken answer shows.answered) files entropy link (shows-sink text old.sink new.sink answer shows)

-- a fault that is told, by the counts of the three objects
pub record CountsOf (fault : Fault) (old new : Outside) : Type 0 where
  pub files : FailsOnlyAs status.FileFault (fault_status fault) old.files.faults new.files.faults
  pub entropy : FailsOnlyAs status.EntropyFault (fault_status fault) old.entropy.faults new.entropy.faults
  pub link : FailsOnlyAs status.LinkFault (fault_status fault) old.link.faults new.link.faults

told-counts : (fault : Fault) (old new : Outside) (answer : Status) → CountsOf fault old new → Tells fault old.sink new.sink answer → FailsByAnswer answer old new
told-counts fault old new answer counts tells = record {
  files = subst (λ (a : Status). FailsOnlyAs status.FileFault a old.files.faults new.files.faults) (sym tells.answered) counts.files;
  entropy = subst (λ (a : Status). FailsOnlyAs status.EntropyFault a old.entropy.faults new.entropy.faults) (sym tells.answered) counts.entropy;
  link = subst (λ (a : Status). FailsOnlyAs status.LinkFault a old.link.faults new.link.faults) (sym tells.answered) counts.link;
  sink = tells-sink fault old.sink new.sink answer tells;
}

same-files : (old new : Outside) → new.files ≡ old.files → new.files.faults ≡ old.files.faults
same-files old new same = ap (λ (files : FilesView). files.faults) same

same-entropy : (old new : Outside) → new.entropy ≡ old.entropy → new.entropy.faults ≡ old.entropy.faults
same-entropy old new same = ap (λ (entropy : EntropyView). entropy.faults) same

same-link : (old new : Outside) → new.link ≡ old.link → new.link.faults ≡ old.link.faults
same-link old new same = ap (λ (link : LinkView). link.faults) same

-- the words were no command
word-counts : (fault : WordFault) (old new : Outside) → OnlyPrints old new → CountsOf (Common (fault_of_words fault)) old new
word-counts fault old new only = record {
  files = inr (words-spare-files fault, same-files old new only.files);
  entropy = inr ((fault-blames (fault_of_words fault)).entropy, same-entropy old new only.entropy);
  link = inr ((fault-blames (fault_of_words fault)).link, same-link old new only.link);
}

-- there were no settings
settle-counts : (send : SendWords) (fault : Fault) (old new : Outside) → FindsNoSettings send fault old.files new.files → new.entropy ≡ old.entropy → new.link ≡ old.link
    → CountsOf fault old new
settle-counts send (Common fault) old new fails entropy link = record {
  files = file-count (rc_test send.file) send.file fault old.files new.files fails;
  entropy = inr ((fault-blames fault).entropy, same-entropy old new entropy);
  link = inr ((fault-blames fault).link, same-link old new link);
}
settle-counts send (LacksSetting name what) old new fails entropy link = record { files = inr (λ e. cc, same-files old new fails.1); entropy = inr (λ e. cc, same-entropy old new entropy); link = inr (λ e. cc, same-link old new link) }
settle-counts send EntropyFails old new fails entropy link = absurd fails
settle-counts send LinkFails old new fails entropy link = absurd fails

-- the entropy failed
undrawn-counts : (old new : Outside) (answer : Status) → new.files.faults ≡ old.files.faults → new.entropy ≡ undrawn old.entropy → new.link.faults ≡ old.link.faults
    → Tells EntropyFails old.sink new.sink answer → FailsByAnswer answer old new
undrawn-counts old new answer files entropy link tells =
    told-counts EntropyFails old new answer
    (record { files = inr (λ e. cc, files); entropy = inl (refl, ap (λ (view : EntropyView). view.faults) entropy); link = inr (λ e. cc, link) }) tells

-- memory was wanting
short-counts : (old new : Outside) (answer : Status) → new.files.faults ≡ old.files.faults → new.entropy.faults ≡ old.entropy.faults → new.link.faults ≡ old.link.faults
    → Tells (Common WantsMemory) old.sink new.sink answer → FailsByAnswer answer old new
short-counts old new answer files entropy link tells =
    told-counts (Common WantsMemory) old new answer (record { files = inr (λ e. cc, files); entropy = inr (λ e. cc, entropy); link = inr (λ e. cc, link) }) tells

-- the packet was sent, or the link failed
sent-counts : (packet : Packet) (old new : Outside) (answer : Status) → new.files.faults ≡ old.files.faults → new.entropy.faults ≡ old.entropy.faults
    → SendsPacket packet old.link new.link old.sink new.sink answer → FailsByAnswer answer old new
sent-counts packet old new answer files entropy sends =
    elim sends [
      | inl failed ↦ told-counts LinkFails old new answer
          (record { files = inr (λ e. cc, files); entropy = inr (λ e. cc, entropy); link = inl (refl, ap (λ (link : LinkView). link.faults) failed.0) }) failed.1
      | inr sent ↦ shown-counts (sent_text packet) old new answer files entropy sent.0.unfailed sent.1
    ]

delivery-counts : (is_shown : Bool) (packet : Packet) (old new : Outside) (answer : Status) → new.files.faults ≡ old.files.faults
    → new.entropy.faults ≡ old.entropy.faults → Delivers is_shown packet old new answer → FailsByAnswer answer old new
delivery-counts true packet old new answer files entropy delivers =
    shown-counts (shown_text packet) old new answer files entropy (same-link old new delivers.0) delivers.1
delivery-counts false packet old new answer files entropy delivers = sent-counts packet old new answer files entropy delivers

settled-counts : (is_shown : Bool) (settings : Settings) (moment : ℕ) (old new : Outside) (answer : Status) → new.files.faults ≡ old.files.faults
    → SendsBy is_shown settings moment old new answer → FailsByAnswer answer old new
settled-counts is_shown settings moment old new answer files sends =
    elim sends [
      | inl failed ↦ undrawn-counts old new answer files failed.entropy (same-link old new failed.link) failed.told
      | inr drawn ↦ elim drawn.2 [
        | inl short ↦ short-counts old new answer files drawn.1.unfailed (same-link old new short.0) short.1
        | inr made ↦ delivery-counts is_shown made.0 old new answer files drawn.1.unfailed made.2
      ]
    ]

send-counts : (send : SendWords) (moment : ℕ) (old new : Outside) (answer : Status) → RunsSend send moment old new answer → FailsByAnswer answer old new
send-counts send moment old new answer runs =
    elim runs [
      | inl lacks ↦ told-counts lacks.0 old new answer (settle-counts send lacks.0 old new lacks.1 lacks.2.entropy lacks.2.link) lacks.2.told
      | inr settled ↦ settled-counts send.print settled.0 moment old new answer (same-files old new settled.2) settled.3
    ]

keys-counts : (old new : Outside) (answer : Status) → new.files.faults ≡ old.files.faults → new.link.faults ≡ old.link.faults
    → MakesKeys old.entropy new.entropy old.sink new.sink answer → FailsByAnswer answer old new
keys-counts old new answer files link makes =
    elim makes [
      | inl failed ↦ undrawn-counts old new answer files failed.0 link failed.1
      | inr drawn ↦ elim drawn.2 [
        | inl short ↦ short-counts old new answer files drawn.1.unfailed link short
        | inr shows ↦ shown-counts (keys_text drawn.0) old new answer files drawn.1.unfailed link shows
      ]
    ]

asked-counts : (asked : Command) (moment : ℕ) (old new : Outside) (answer : Status) → Runs asked moment old new answer → FailsByAnswer answer old new
asked-counts (command.Serve conf access packets turns verbose) moment old new answer runs = absurd runs
asked-counts (command.Trial conf access quiet verbose) moment old new answer runs = absurd runs
asked-counts command.List moment old new answer runs = absurd runs
asked-counts (command.Encode file name) moment old new answer runs = absurd runs
asked-counts (command.Decode file name) moment old new answer runs = absurd runs
asked-counts command.Journal moment old new answer runs = absurd runs
asked-counts (command.Generate count) moment old new answer runs = absurd runs
asked-counts (command.Send send) moment old new answer runs = send-counts send moment old new answer runs
asked-counts command.KeyGen moment old new answer runs = keys-counts old new answer (same-files old new runs.0) (same-link old new runs.1) runs.2
asked-counts command.Help moment old new answer runs =
    shown-counts HELP.now old new answer (same-files old new runs.0.files) (same-entropy old new runs.0.entropy) (same-link old new runs.0.link) runs.1
asked-counts command.Version moment old new answer runs =
    shown-counts VERSION.now old new answer (same-files old new runs.0.files) (same-entropy old new runs.0.entropy) (same-link old new runs.0.link) runs.1

-- each object has failed exactly where the answer is its fault's
pub client-counts : (words : List (List ℕ)) (moment : ℕ) (old new : Outside) (answer : Status) → RunsClient words moment old new answer → FailsByAnswer answer old new
client-counts words moment old new answer runs =
    elim runs [
      | inl refuses ↦ told-counts (Common (fault_of_words refuses.fault)) old new answer (word-counts refuses.fault old new refuses.only) refuses.told
      | inr obeys ↦ asked-counts obeys.command moment old new answer obeys.runs
    ]
