-- The client's file: its names, and what their values may be.
use Rattle.std.specs.Prelude.{ℕ, List, [], ◌∷◌, map, codes, Option, Some, if◌then◌else◌}
use Rattle.std.specs.Str.{bytes_eq}
use Rattle.fk_base.specs.Address.{ip_in}
use Rattle.fk_base.specs.declared.address.Ip4.{Ip4}
use Rattle.fk_fields.specs.FieldText.{is_user}
use Rattle.fk_lines.specs.Lines.{Setting}
use Rattle.fk_values.specs.Settings.{NameRule, named, reads_as}
use Rattle.fk_values.specs.Values.{base64_key_in, hash_in, is_host, key_in, number_within, pairs_within, port_in}
use Rattle.fk_base.specs.declared.moment.TheConstants.{LONGEST_TIME}
use Rattle.fk_conf.specs.Conf.{is_yes}
use Rattle.fk_conf.specs.declared.rc_name.RcName.{RcName}
use Rattle.fk_conf.specs.declared.rc_name.RcName.TheVariants.{SpaServer, SpaServerPort, Access, AllowIp, Key, KeyBase64, HmacKey, HmacKeyBase64, HmacDigestType, DigestType, FwTimeout, SpoofUser, UseHmac}

-- an address, or `source` for 0.0.0.0, which stands for the one that the packet comes from
abbrev pub allow_in : List ℕ → Option Ip4
allow_in value = if bytes_eq value (codes "source") then Some (record { 0 = 0 }) else ip_in value

-- the table of the names: the number of what each sets, and what its value may be; two spellings of a key set one thing
abbrev pub rc_rule : RcName → NameRule
rc_rule SpaServer = named (codes "SPA_SERVER") 0 is_host
rc_rule SpaServerPort = named (codes "SPA_SERVER_PORT") 1 (reads_as port_in)
rc_rule Access = named (codes "ACCESS") 2 (reads_as (pairs_within 16))
rc_rule AllowIp = named (codes "ALLOW_IP") 3 (reads_as allow_in)
rc_rule Key = named (codes "KEY") 4 (reads_as key_in)
rc_rule KeyBase64 = named (codes "KEY_BASE64") 4 (reads_as base64_key_in)
rc_rule HmacKey = named (codes "HMAC_KEY") 5 (reads_as key_in)
rc_rule HmacKeyBase64 = named (codes "HMAC_KEY_BASE64") 5 (reads_as base64_key_in)
rc_rule HmacDigestType = named (codes "HMAC_DIGEST_TYPE") 6 (reads_as hash_in)
rc_rule DigestType = named (codes "DIGEST_TYPE") 7 (reads_as hash_in)
rc_rule FwTimeout = named (codes "FW_TIMEOUT") 8 (reads_as (number_within 1 LONGEST_TIME))
rc_rule SpoofUser = named (codes "SPOOF_USER") 9 is_user
rc_rule UseHmac = named (codes "USE_HMAC") 10 is_yes

-- every name
abbrev pub rc_names : List RcName
rc_names =
    SpaServer ∷ SpaServerPort ∷ Access ∷ AllowIp ∷ Key ∷ KeyBase64 ∷ HmacKey ∷ HmacKeyBase64 ∷ HmacDigestType ∷ DigestType
    ∷ FwTimeout ∷ SpoofUser ∷ UseHmac ∷ []

-- the rules of all names
abbrev pub rc_rules : List NameRule
rc_rules = map rc_rule rc_names

-- what is given for a name, where it is
abbrev pub given_in : (ℕ → Option Setting) → RcName → Option Setting
given_in given name = given (rc_rule name).sets

-- the name of a line that begins a stanza, as `[web]`
abbrev pub head_name : List ℕ
head_name = codes "["
