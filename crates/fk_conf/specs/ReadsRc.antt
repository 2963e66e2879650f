-- What a client's file says.
use Rattle.std.specs.Prelude.{◌≡◌, ℕ, List, [], ◌∷◌, Option, Some, None, if◌then◌else◌}
use Rattle.std.specs.List.{AllZip}
use Rattle.std.specs.Option.{option_and_then}
use Rattle.fk_fields.specs.FieldText.{is_user}
use Rattle.fk_lines.specs.Lines.{NumberedLine, Setting}
use Rattle.fk_values.specs.KeyOf.{key_by}
use Rattle.fk_values.specs.Settings.{read_of}
use Rattle.fk_values.specs.Values.{hash_in, host_in, number_within, pairs_within}
use Rattle.fk_base.specs.declared.moment.TheConstants.{LONGEST_TIME}
use Rattle.fk_conf.specs.declared.rc_name.RcName.{RcName}
use Rattle.fk_conf.specs.declared.rc_name.RcName.TheVariants.{SpaServer, SpaServerPort, Access, AllowIp, Key, KeyBase64, HmacKey, HmacKeyBase64, HmacDigestType, DigestType, FwTimeout, SpoofUser}
use Rattle.fk_conf.specs.declared.rc_stanza.RcStanza.{RcStanza}
use Rattle.fk_conf.specs.RcFault.{given_by_lines, rc_fault, rc_stanzas, said_name}
use Rattle.fk_conf.specs.RcTable.{allow_in, given_in, rc_rule}

-- the user that a text names
abbrev pub spoofed_user : List ℕ → Option (List ℕ)
spoofed_user text = if is_user text then Some text else None

-- the key that a setting gives, in base64 under this name
abbrev pub key_of : RcName → Option Setting → Option (List ℕ)
key_of base64_name given = option_and_then (key_by (rc_rule base64_name).name) given

-- the fields of a stanza are what is given
pub record IsRcGiven (given : ℕ → Option Setting) (stanza : RcStanza) : Type 0 where
  pub server : stanza.server ≡ read_of host_in (given_in given SpaServer)
  pub port : stanza.port ≡ read_of (number_within 1 65535) (given_in given SpaServerPort)
  pub pairs : stanza.pairs ≡ read_of (pairs_within 16) (given_in given Access)
  pub allow : stanza.allow ≡ read_of allow_in (given_in given AllowIp)
  pub key : stanza.key ≡ key_of KeyBase64 (given_in given Key)
  pub mac_key : stanza.mac_key ≡ key_of HmacKeyBase64 (given_in given HmacKey)
  pub mac_kind : stanza.mac_kind ≡ read_of hash_in (given_in given HmacDigestType)
  pub kind : stanza.kind ≡ read_of hash_in (given_in given DigestType)
  pub timeout : stanza.timeout ≡ read_of (number_within 1 LONGEST_TIME) (given_in given FwTimeout)
  pub user : stanza.user ≡ read_of spoofed_user (given_in given SpoofUser)

-- a head and the lines behind it say this
pub record SaysRc (head : NumberedLine) (lines : List NumberedLine) (stanza : RcStanza) : Type 0 where
  pub line : stanza.line ≡ head.number
  pub name : stanza.name ≡ said_name head.reading
  pub given : IsRcGiven (given_by_lines lines) stanza

-- the lines of a stanza say this
abbrev pub IsRcStanzaOf : List NumberedLine → RcStanza → Type 0
IsRcStanzaOf [] stanza = ⊥
IsRcStanzaOf (head ∷ lines) stanza = SaysRc head lines stanza

-- the client's file has no fault, and its stanzas say this, one by one
pub record ReadsRc (text : List ℕ) (stanzas : List RcStanza) : Type 0 where
  pub faultless : rc_fault text ≡ None
  pub each : AllZip IsRcStanzaOf (rc_stanzas text) stanzas
