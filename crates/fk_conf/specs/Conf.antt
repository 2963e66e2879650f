-- The daemon's configuration: its names, and what their values may be.
use Rattle.std.specs.Prelude.{ℕ, Bool, true, List, [], ◌∷◌, map, codes, Option}
use Rattle.std.specs.Str.{bytes_eq}
use Rattle.fk_values.specs.Settings.{NameRule, named, reads_as}
use Rattle.fk_values.specs.Values.{number_within, port_in}
use Rattle.fk_conf.specs.declared.conf_name.ConfName.{ConfName}
use Rattle.fk_conf.specs.declared.conf_name.ConfName.TheVariants.{MaxSpaPacketAge, UdpservPort, CycleLimit, JournalLimit, DigestKeep, EnableUdpServer, EnableSpaPacketAging, EnableDigestPersistence, PcapIntf, PcapFilter, EnablePcapPromisc, SyslogIdentity, SyslogFacility, FwknopRunDir}

-- `Y` and nothing else
abbrev pub is_yes : List ℕ → Bool
is_yes value = bytes_eq value (codes "Y")

-- any value, which has no effect
abbrev pub is_any : List ℕ → Bool
is_any value = true

-- how many seconds a packet's stamp may lie from the moment at which it comes
abbrev pub age_in : List ℕ → Option ℕ
age_in = number_within 1 31536000

-- how many seconds a digest is kept at least
abbrev pub keep_in : List ℕ → Option ℕ
keep_in = number_within 1 31536000

-- how many records may be live at once
abbrev pub live_in : List ℕ → Option ℕ
live_in = number_within 1 4096

-- how many bytes the journal may have
abbrev pub room_in : List ℕ → Option ℕ
room_in = number_within 16 67108864

-- the table of the names: the number of what each sets, and what its value may be
abbrev pub conf_rule : ConfName → NameRule
conf_rule MaxSpaPacketAge = named (codes "MAX_SPA_PACKET_AGE") 0 (reads_as age_in)
conf_rule UdpservPort = named (codes "UDPSERV_PORT") 1 (reads_as port_in)
conf_rule CycleLimit = named (codes "CYCLE_LIMIT") 2 (reads_as live_in)
conf_rule JournalLimit = named (codes "JOURNAL_LIMIT") 3 (reads_as room_in)
conf_rule DigestKeep = named (codes "DIGEST_KEEP") 4 (reads_as keep_in)
conf_rule EnableUdpServer = named (codes "ENABLE_UDP_SERVER") 5 is_yes
conf_rule EnableSpaPacketAging = named (codes "ENABLE_SPA_PACKET_AGING") 6 is_yes
conf_rule EnableDigestPersistence = named (codes "ENABLE_DIGEST_PERSISTENCE") 7 is_yes
conf_rule PcapIntf = named (codes "PCAP_INTF") 8 is_any
conf_rule PcapFilter = named (codes "PCAP_FILTER") 9 is_any
conf_rule EnablePcapPromisc = named (codes "ENABLE_PCAP_PROMISC") 10 is_any
conf_rule SyslogIdentity = named (codes "SYSLOG_IDENTITY") 11 is_any
conf_rule SyslogFacility = named (codes "SYSLOG_FACILITY") 12 is_any
conf_rule FwknopRunDir = named (codes "FWKNOP_RUN_DIR") 13 is_any

-- every name
abbrev pub conf_names : List ConfName
conf_names =
    MaxSpaPacketAge ∷ UdpservPort ∷ CycleLimit ∷ JournalLimit ∷ DigestKeep ∷ EnableUdpServer ∷ EnableSpaPacketAging ∷ EnableDigestPersistence
    ∷ PcapIntf ∷ PcapFilter ∷ EnablePcapPromisc ∷ SyslogIdentity ∷ SyslogFacility ∷ FwknopRunDir ∷ []

-- the rules of all names
abbrev pub conf_rules : List NameRule
conf_rules = map conf_rule conf_names
