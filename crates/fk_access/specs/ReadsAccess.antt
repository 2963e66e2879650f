-- What an access file says.
use Rattle.std.specs.Prelude.{◌≡◌, ℕ, false, List, [], ◌∷◌, Option, Some, None, unwrap_or}
use Rattle.std.specs.List.{AllZip}
use Rattle.std.specs.Option.{option_map}
use Rattle.fk_base.specs.declared.hash_kind.HashKind.TheVariants.{Sha256}
use Rattle.fk_base.specs.declared.moment.TheConstants.{GREATEST_MOMENT}
use Rattle.fk_lines.specs.Lines.{NumberedLine, Setting}
use Rattle.fk_subst.specs.Template.{IsTemplateOf}
use Rattle.fk_subst.specs.declared.piece.Piece.{Piece}
use Rattle.fk_values.specs.Settings.{given_by, read_of, settings_of}
use Rattle.fk_values.specs.Values.{number_within, flag_in, hash_in}
use Rattle.fk_access.specs.declared.access_name.AccessName.TheVariants.{Source, OpenPorts, RestrictPorts, HmacDigestType, RequireUsername, RequireSourceAddress, AccessExpireEpoch, CmdCycleOpen, CmdCycleClose, KeysUntil}
use Rattle.fk_access.specs.declared.sources.Sources.{Sources}
use Rattle.fk_access.specs.declared.key_ring.TimedKeys.{TimedKeys}
use Rattle.fk_access.specs.declared.stanza.Stanza.{Stanza}
use Rattle.fk_access.specs.AccessFault.{access_fault, access_stanzas}
use Rattle.fk_access.specs.AccessTable.{access_rules, given_in}
use Rattle.fk_access.specs.AccessValues.{pairs_in}
use Rattle.fk_access.specs.KeyPairs.{given_behind, key_pairs}
use Rattle.fk_access.specs.SourcesOf.{AreSourcesOf}
use Rattle.fk_access.specs.StanzaKeys.{hmac_key, sealing_key, timer_of}

-- the sources that a setting gives
abbrev pub GivesSources : Option Setting → Sources → Type 0
GivesSources None sources = ⊥
GivesSources (Some setting) sources = AreSourcesOf setting.value sources

-- the command that a setting gives
abbrev pub GivesCommand : Option Setting → List (List Piece) → Type 0
GivesCommand None template = ⊥
GivesCommand (Some setting) template = IsTemplateOf setting.value template

-- the fields of a stanza but its keys are what is given
pub record IsGiven (given : ℕ → Option Setting) (stanza : Stanza) : Type 0 where
  pub sources : GivesSources (given_in given Source) stanza.sources
  pub allowed : stanza.allowed ≡ read_of pairs_in (given_in given OpenPorts)
  pub barred : stanza.barred ≡ read_of pairs_in (given_in given RestrictPorts)
  pub user : stanza.user ≡ option_map (λ setting. setting.value) (given_in given RequireUsername)
  pub need_source : stanza.need_source ≡ unwrap_or (read_of flag_in (given_in given RequireSourceAddress)) false
  pub expire : stanza.expire ≡ read_of (number_within 0 GREATEST_MOMENT) (given_in given AccessExpireEpoch)
  pub opening : GivesCommand (given_in given CmdCycleOpen) stanza.opening
  pub closing : GivesCommand (given_in given CmdCycleClose) stanza.closing
  pub timer : timer_of given ≡ Some stanza.timer

-- the two keys of a pair, its hash and its last moment are what is given; without a last moment it has no end
pub record IsTimedBy (given : ℕ → Option Setting) (timed : TimedKeys) : Type 0 where
  pub key : sealing_key given ≡ Some timed.keys.key
  pub mac_key : hmac_key given ≡ Some timed.keys.mac_key
  pub kind : timed.keys.kind ≡ unwrap_or (read_of hash_in (given_in given HmacDigestType)) Sha256
  pub until : timed.until ≡ read_of (number_within 0 GREATEST_MOMENT) (given_in given KeysUntil)

-- the settings of one pair say this
abbrev pub IsPairOf : List Setting → TimedKeys → Type 0
IsPairOf settings timed = IsTimedBy (given_by access_rules settings) timed

-- the settings of a stanza say this, and its pairs of keys are these, one by one
pub record IsSaid (settings : List Setting) (stanza : Stanza) : Type 0 where
  pub fields : IsGiven (given_behind settings) stanza
  pub ring : AllZip IsPairOf (key_pairs settings) stanza.ring

-- the lines of a stanza, of which the first is its SOURCE line, say this
abbrev pub IsStanzaOf : List NumberedLine → Stanza → Type 0
IsStanzaOf [] stanza = ⊥
IsStanzaOf (source ∷ lines) stanza = (stanza.line ≡ source.number) × IsSaid (settings_of (source ∷ lines)) stanza

-- the access file has no fault, and its stanzas say this, one by one
pub record ReadsAccess (text : List ℕ) (stanzas : List Stanza) : Type 0 where
  pub faultless : access_fault text ≡ None
  pub each : AllZip IsStanzaOf (access_stanzas text) stanzas
