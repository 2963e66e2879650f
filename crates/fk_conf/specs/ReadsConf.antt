-- What a configuration says.
use Rattle.std.specs.Prelude.{◌≡◌, ℕ, max, List, Option, None, unwrap_or}
use Rattle.fk_lines.specs.Lines.{Setting, lines_of}
use Rattle.fk_values.specs.Settings.{given_by, read_of, settings_of}
use Rattle.fk_values.specs.Values.{port_in}
use Rattle.fk_conf.specs.declared.conf.Conf.{Conf}
use Rattle.fk_conf.specs.declared.conf_name.ConfName.{ConfName}
use Rattle.fk_conf.specs.declared.conf_name.ConfName.TheVariants.{MaxSpaPacketAge, UdpservPort, CycleLimit, JournalLimit, DigestKeep}
use Rattle.fk_conf.specs.Conf.{age_in, conf_rule, conf_rules, keep_in, live_in, room_in}
use Rattle.fk_conf.specs.ConfErr.{conf_fault}

-- the number that stands behind a name, or what holds without it
abbrev pub conf_number : ConfName → (List ℕ → Option ℕ) → ℕ → List Setting → ℕ
conf_number name read default settings = unwrap_or (read_of read (given_by conf_rules settings (conf_rule name).sets)) default

-- the configuration has no fault, and says this
pub record ReadsConf (text : List ℕ) (conf : Conf) : Type 0 where
  pub faultless : conf_fault text ≡ None
  pub age : conf.age ≡ conf_number MaxSpaPacketAge age_in 120 (settings_of (lines_of text))
  pub port : conf.port ≡ conf_number UdpservPort port_in 62201 (settings_of (lines_of text))
  pub live : conf.live ≡ conf_number CycleLimit live_in 256 (settings_of (lines_of text))
  pub room : conf.room ≡ conf_number JournalLimit room_in 16777216 (settings_of (lines_of text))
  -- no digest is forgotten while a packet with it may still be granted
  pub keep : conf.keep ≡ max (conf_number DigestKeep keep_in 86400 (settings_of (lines_of text))) conf.age
