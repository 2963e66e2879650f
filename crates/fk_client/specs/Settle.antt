-- The settings of a packet: each from the words, else from the named stanza of the client's file, else from its stanza `default`, else
-- what holds without it.
use Rattle.std.specs.Prelude.{◌≡◌, ℕ, List, [], ◌∷◌, codes, find, Option, Some, None, is_some, unwrap_or, if◌then◌else◌}
use Rattle.std.specs.Option.{option_and_then, option_or}
use Rattle.std.specs.Str.{bytes_eq}
use Rattle.fk_base.specs.FirstFailed.{first_failed}
use Rattle.fk_base.specs.declared.address.Ip4.{Ip4}
use Rattle.fk_base.specs.declared.hash_kind.HashKind.TheVariants.{Sha256}
use Rattle.fk_base.specs.declared.pair.Pair.{Pair}
use Rattle.fk_conf.specs.declared.rc_stanza.RcStanza.{RcStanza}
use Rattle.fk_words.specs.declared.command.SendWords.{SendWords}
use Rattle.fk_fields.specs.declared.fields.Ask.{Ask}
use Rattle.fk_fields.specs.declared.fields.Ask.TheVariants.{Access, Timed}
use Rattle.fk_client.specs.declared.need_fault.NeedFault.{NeedFault}
use Rattle.fk_client.specs.declared.need_fault.NeedFault.TheVariants.{NoStanza, NoServer, NoAccess, NoAllow, NoKey, NoHmacKey, NoMemory}
use Rattle.fk_client.specs.declared.sealed.Sealing.{Sealing}
use Rattle.fk_client.specs.declared.settled.Settings.{Settings}

-- the stanza of this name, where the file has one
abbrev pub stanza_named : List ℕ → List RcStanza → Option RcStanza
stanza_named name file = find (λ stanza. bytes_eq stanza.name name) file

-- what a stanza of this name gives, where it does
abbrev pub from_stanza : {X : Type 0} → (RcStanza → Option X) → List RcStanza → List ℕ → Option X
from_stanza field file name = option_and_then field (stanza_named name file)

-- what the file gives under this name: by the stanza of the name, else by the stanza `default`
abbrev pub from_file : {X : Type 0} → (RcStanza → Option X) → List RcStanza → List ℕ → Option X
from_file field file name = option_or (from_stanza field file name) (from_stanza field file (codes "default"))

-- the server, which no datagram needs that is shown and not sent
abbrev pub server_of : List RcStanza → SendWords → Option (List ℕ)
server_of file words =
    option_or words.server (option_or (from_file (λ stanza. stanza.server) file words.name) (if words.print then Some [] else None))

abbrev pub port_of : List RcStanza → SendWords → ℕ
port_of file words = unwrap_or (option_or words.port (from_file (λ stanza. stanza.port) file words.name)) 62201

abbrev pub pairs_of : List RcStanza → SendWords → Option (List Pair)
pairs_of file words = option_or words.pairs (from_file (λ stanza. stanza.pairs) file words.name)

abbrev pub address_of : List RcStanza → SendWords → Option Ip4
address_of file words = option_or words.allow (from_file (λ stanza. stanza.allow) file words.name)

-- for how many seconds is asked, where that is said
abbrev pub seconds_of : List RcStanza → SendWords → Option ℕ
seconds_of file words = option_or words.seconds (from_file (λ stanza. stanza.timeout) file words.name)

-- with a time the request is timed
abbrev pub ask_of : Option ℕ → Ip4 → List Pair → Ask
ask_of None ip pairs = Access ip pairs
ask_of (Some seconds) ip pairs = Timed ip pairs seconds

-- what is asked for, where there are an address and pairs
abbrev pub ask_from : Option ℕ → Option Ip4 → Option (List Pair) → Option Ask
ask_from seconds (Some ip) (Some pairs) = Some (ask_of seconds ip pairs)
ask_from seconds _ _ = None

-- the first thing that is needed and not given
abbrev pub need_fault : List RcStanza → SendWords → Option NeedFault
need_fault file words = first_failed (
    (is_some (stanza_named words.name file), NoStanza) ∷ (is_some (server_of file words), NoServer)
    ∷ (is_some (pairs_of file words), NoAccess) ∷ (is_some (address_of file words), NoAllow)
    ∷ (is_some (from_file (λ stanza. stanza.key) file words.name), NoKey)
    ∷ (is_some (from_file (λ stanza. stanza.mac_key) file words.name), NoHmacKey) ∷ []
    )

-- nothing that is needed is missing, and the settings are these
pub record GivesSettings (file : List RcStanza) (words : SendWords) (settings : Settings) : Type 0 where
  pub faultless : need_fault file words ≡ None
  pub server : server_of file words ≡ Some settings.server
  pub port : settings.port ≡ port_of file words
  pub ask : ask_from (seconds_of file words) (address_of file words) (pairs_of file words) ≡ Some settings.ask
  pub key : from_file (λ stanza. stanza.key) file words.name ≡ Some settings.keys.key
  pub mac_key : from_file (λ stanza. stanza.mac_key) file words.name ≡ Some settings.keys.mac_key
  pub mac_kind : settings.keys.kind ≡ unwrap_or (from_file (λ stanza. stanza.mac_kind) file words.name) Sha256
  pub kind : settings.kind ≡ unwrap_or (from_file (λ stanza. stanza.kind) file words.name) Sha256
  pub user : settings.user ≡ unwrap_or (from_file (λ stanza. stanza.user) file words.name) (codes "fwknop")

-- the answer where there are no settings: what is needed first, or want of memory where nothing is
abbrev pub IsNeedErr : List RcStanza → SendWords → NeedFault → Type 0
IsNeedErr file words NoMemory = need_fault file words ≡ None
IsNeedErr file words fault = need_fault file words ≡ Some fault

-- the first thing that sealing by the stanza of this name needs, and that the file does not give
abbrev pub sealing_fault : List RcStanza → List ℕ → Option NeedFault
sealing_fault file name = first_failed (
    (is_some (stanza_named name file), NoStanza) ∷ (is_some (from_file (λ stanza. stanza.key) file name), NoKey)
    ∷ (is_some (from_file (λ stanza. stanza.mac_key) file name), NoHmacKey) ∷ []
    )

-- nothing that sealing needs is missing, and it is done by these keys and hashes, for so many seconds where the file says how many
pub record GivesSealing (file : List RcStanza) (name : List ℕ) (sealing : Sealing) : Type 0 where
  pub faultless : sealing_fault file name ≡ None
  pub key : from_file (λ stanza. stanza.key) file name ≡ Some sealing.keys.key
  pub mac_key : from_file (λ stanza. stanza.mac_key) file name ≡ Some sealing.keys.mac_key
  pub mac_kind : sealing.keys.kind ≡ unwrap_or (from_file (λ stanza. stanza.mac_kind) file name) Sha256
  pub kind : sealing.kind ≡ unwrap_or (from_file (λ stanza. stanza.kind) file name) Sha256
  pub seconds : sealing.seconds ≡ from_file (λ stanza. stanza.timeout) file name

-- the answer where there is no sealing: what is needed first, or want of memory where nothing is
abbrev pub IsSealingErr : List RcStanza → List ℕ → NeedFault → Type 0
IsSealingErr file name NoMemory = sealing_fault file name ≡ None
IsSealingErr file name fault = sealing_fault file name ≡ Some fault
