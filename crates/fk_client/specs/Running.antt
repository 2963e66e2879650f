-- What a client does: what it reads, draws, sends and prints, and how it ends.
use Rattle.std.specs.Prelude.{◌≡◌, ◌⊎◌, ℕ, Bool, true, false, List, length, Option, Some}
use Rattle.std.specs.Option.{option_map}
use Rattle.fk_base.specs.declared.status.Status.{Status}
use Rattle.fk_host.specs.Link.{Sends}
use Rattle.fk_host.specs.Stream.{Takes}
use Rattle.fk_log.specs.Printing.{SinkView}
use Rattle.fk_conf.specs.FaultNames.{conf_fault_name}
use Rattle.fk_conf.specs.RcFault.{rc_fault}
use Rattle.fk_conf.specs.ReadsRc.{ReadsRc}
use Rattle.fk_conf.specs.declared.rc_stanza.RcStanza.{RcStanza}
use Rattle.fk_words.specs.ReadsWords.{IsWordErr, ReadsWords}
use Rattle.fk_words.specs.declared.command.Command.{Command}
use Rattle.fk_words.specs.declared.command.Command.TheVariants as command
use Rattle.fk_words.specs.declared.command.SendWords.{SendWords}
use Rattle.fk_words.specs.declared.tool.Tool.TheVariants.{Client}
use Rattle.fk_words.specs.declared.word_fault.WordFault.{WordFault}
use Rattle.fk_client.specs.declared.help.TheConstants.{HELP, VERSION}
use Rattle.fk_client.specs.declared.need_fault.NeedFault.{NeedFault}
use Rattle.fk_client.specs.declared.sent.Packet.{Packet}
use Rattle.fk_client.specs.declared.sealed.Sealing.{Sealing}
use Rattle.fk_client.specs.declared.settled.Settings.{Settings}
use Rattle.fk_client.specs.ClientText.{keys_text, need_name, sent_text, shown_text}
use Rattle.fk_client.specs.Faults.{Fault, Tells}
use Rattle.fk_client.specs.Faults.Fault.{Common, LacksSetting, EntropyFails, LinkFails}
use Rattle.fk_client.specs.Outside.{EntropyView, LinkView, Outside, undrawn, unsent}
use Rattle.fk_program.specs.Faults.{Fault as FileFault, fault_of_words}
use Rattle.fk_program.specs.Faults.Fault.{WrongFile, WantsMemory}
use Rattle.fk_program.specs.Files.{FailsFile, FilesView, HasText}
use Rattle.fk_program.specs.Telling.{Shows}
use Rattle.fk_client.specs.Sent.{IsSent}
use Rattle.fk_client.specs.Settle.{GivesSealing, GivesSettings, need_fault, sealing_fault}

-- the file of this name has these stanzas
pub record HasStanzas (name : List ℕ) (files : FilesView) (stanzas : List RcStanza) : Type 0 where
  pub text : List ℕ
  pub read : HasText name files text
  pub says : ReadsRc text stanzas

-- the first fault of a text, told of the file of this name
abbrev pub rc_test : List ℕ → List ℕ → Option FileFault
rc_test name text = option_map (λ found. WrongFile name found.0 (conf_fault_name found.1)) (rc_fault text)

-- the words and their file give these settings
pub record HasSettings (send : SendWords) (files : FilesView) (settings : Settings) : Type 0 where
  pub stanzas : List RcStanza
  pub read : HasStanzas send.file files stanzas
  pub settles : GivesSettings stanzas send settings

-- the first thing that the words and their file lack
pub record LacksNeed (send : SendWords) (files : FilesView) (what : List ℕ) : Type 0 where
  pub stanzas : List RcStanza
  pub read : HasStanzas send.file files stanzas
  pub fault : NeedFault
  pub first : need_fault stanzas send ≡ Some fault
  pub named : what ≡ need_name fault

-- why there are no settings: the file has no stanzas, or something is needed that it does not give
abbrev pub FindsNoSettings : SendWords → Fault → FilesView → FilesView → Type 0
FindsNoSettings send (Common fault) old new = FailsFile (rc_test send.file) send.file fault old new
FindsNoSettings send (LacksSetting named what) old new = (named ≡ send.file) × (new ≡ old) × LacksNeed send old what
FindsNoSettings send _ old new = ⊥

-- the file of this name has a stanza of that name which seals so
pub record HasSealing (file_name name : List ℕ) (files : FilesView) (sealing : Sealing) : Type 0 where
  pub stanzas : List RcStanza
  pub read : HasStanzas file_name files stanzas
  pub gives : GivesSealing stanzas name sealing

-- the first thing that the file of this name lacks for sealing by the stanza of that name
pub record LacksSealing (file_name name : List ℕ) (files : FilesView) (what : List ℕ) : Type 0 where
  pub stanzas : List RcStanza
  pub read : HasStanzas file_name files stanzas
  pub fault : NeedFault
  pub first : sealing_fault stanzas name ≡ Some fault
  pub named : what ≡ need_name fault

-- why there is no sealing: the file has no stanzas, or something is needed that it does not give
abbrev pub FindsNoSealing : (file_name name : List ℕ) → Fault → FilesView → FilesView → Type 0
FindsNoSealing file_name name (Common fault) old new = FailsFile (rc_test file_name) file_name fault old new
FindsNoSealing file_name name (LacksSetting named what) old new = (named ≡ file_name) × (new ≡ old) × LacksSealing file_name name old what
FindsNoSealing file_name name _ old new = ⊥

-- so many bytes were drawn
pub record Draws (count : ℕ) (drawn : List ℕ) (old new : EntropyView) : Type 0 where
  pub len : length drawn ≡ count
  pub taken : Takes drawn old.left new.left
  pub unfailed : new.faults ≡ old.faults

-- one datagram was sent, to the packet's server and port
pub record SendsOne (packet : Packet) (old new : LinkView) : Type 0 where
  pub sent : Sends packet.server packet.port packet.datagram old.told new.told
  pub unfailed : new.faults ≡ old.faults

-- the packet that these settings make at this moment of these drawn bytes
pub record IsPacket (settings : Settings) (moment : ℕ) (drawn : List ℕ) (packet : Packet) : Type 0 where
  pub datagram : IsSent settings moment drawn packet.datagram
  pub server : packet.server ≡ settings.server
  pub port : packet.port ≡ settings.port

-- only the output was asked for something
pub record OnlyPrints (old new : Outside) : Type 0 where
  pub files : new.files ≡ old.files
  pub entropy : new.entropy ≡ old.entropy
  pub link : new.link ≡ old.link

-- this fault was met, and nothing was drawn or sent
pub record MeetsFault (fault : Fault) (old new : Outside) (answer : Status) : Type 0 where
  pub entropy : new.entropy ≡ old.entropy
  pub link : new.link ≡ old.link
  pub told : Tells fault old.sink new.sink answer

-- the entropy failed, and nothing was sent
pub record DrawsNothing (old new : Outside) (answer : Status) : Type 0 where
  pub entropy : new.entropy ≡ undrawn old.entropy
  pub link : new.link ≡ old.link
  pub told : Tells EntropyFails old.sink new.sink answer

-- a packet is sent, once, and that told; or the link failed
abbrev pub SendsPacket : Packet → LinkView → LinkView → SinkView → SinkView → Status → Type 0
SendsPacket packet link linked sink printed answer =
    ((linked ≡ unsent link) × Tells LinkFails sink printed answer) ⊎ (SendsOne packet link linked × Shows (sent_text packet) sink printed answer)

-- the packet is shown and nothing sent, as the Bool says, or it is sent
abbrev pub Delivers : Bool → Packet → Outside → Outside → Status → Type 0
Delivers true packet old new answer = (new.link ≡ old.link) × Shows (shown_text packet) old.sink new.sink answer
Delivers false packet old new answer = SendsPacket packet old.link new.link old.sink new.sink answer

-- memory was wanting, and nothing was sent or printed
abbrev pub StopsShort : Outside → Outside → Status → Type 0
StopsShort old new answer = (new.link ≡ old.link) × Tells (Common WantsMemory) old.sink new.sink answer

-- what comes of 24 drawn bytes: their packet is delivered, or memory was wanting
abbrev pub SendsDrawn : Bool → Settings → ℕ → List ℕ → Outside → Outside → Status → Type 0
SendsDrawn is_shown settings moment drawn old new answer =
    StopsShort old new answer ⊎ ((packet : Packet) × IsPacket settings moment drawn packet × Delivers is_shown packet old new answer)

-- what comes of settings: 24 bytes are drawn for one packet, or the entropy failed
abbrev pub SendsBy : Bool → Settings → ℕ → Outside → Outside → Status → Type 0
SendsBy is_shown settings moment old new answer =
    DrawsNothing old new answer
    ⊎ ((drawn : List ℕ) × Draws 24 drawn old.entropy new.entropy × SendsDrawn is_shown settings moment drawn old new answer)

-- what comes of words that ask for a packet: there are no settings for a fault that is told, or there are these
abbrev pub RunsSend : SendWords → ℕ → Outside → Outside → Status → Type 0
RunsSend send moment old new answer =
    ((fault : Fault) × FindsNoSettings send fault old.files new.files × MeetsFault fault old new answer)
    ⊎ ((settings : Settings) × HasSettings send old.files settings × (new.files ≡ old.files) × SendsBy send.print settings moment old new answer)

-- what comes of drawn bytes for new keys
abbrev pub ShowsKeys : List ℕ → SinkView → SinkView → Status → Type 0
ShowsKeys drawn sink printed answer = Tells (Common WantsMemory) sink printed answer ⊎ Shows (keys_text drawn) sink printed answer

-- new keys are made of 96 drawn bytes, or the entropy failed
abbrev pub MakesKeys : EntropyView → EntropyView → SinkView → SinkView → Status → Type 0
MakesKeys entropy rest sink printed answer =
    ((rest ≡ undrawn entropy) × Tells EntropyFails sink printed answer)
    ⊎ ((drawn : List ℕ) × Draws 96 drawn entropy rest × ShowsKeys drawn sink printed answer)

-- what a command of the client does
abbrev pub Runs : Command → ℕ → Outside → Outside → Status → Type 0
Runs (command.Send send) moment old new answer = RunsSend send moment old new answer
Runs command.KeyGen moment old new answer =
    (new.files ≡ old.files) × (new.link ≡ old.link) × MakesKeys old.entropy new.entropy old.sink new.sink answer
Runs command.Help moment old new answer = OnlyPrints old new × Shows HELP.now old.sink new.sink answer
Runs command.Version moment old new answer = OnlyPrints old new × Shows VERSION.now old.sink new.sink answer
Runs _ moment old new answer = ⊥

-- the words are no command, and the first test that they fail is told; or memory is wanting for the names that they give
pub record RefusesWords (words : List (List ℕ)) (old new : Outside) (answer : Status) : Type 0 where
  pub fault : WordFault
  pub first : IsWordErr Client words fault
  pub only : OnlyPrints old new
  pub told : Tells (Common (fault_of_words fault)) old.sink new.sink answer

-- the words are a command, and it is done
pub record ObeysWords (words : List (List ℕ)) (moment : ℕ) (old new : Outside) (answer : Status) : Type 0 where
  pub command : Command
  pub reads : ReadsWords Client words command
  pub runs : Runs command moment old new answer

-- what a client does with its words, at this moment
abbrev pub RunsClient : List (List ℕ) → ℕ → Outside → Outside → Status → Type 0
RunsClient words moment old new answer = RefusesWords words old new answer ⊎ ObeysWords words moment old new answer
