-- The names of an access file.
use Rattle.std.specs.Prelude.{ℕ, List, [], ◌∷◌, map, codes, Option}
use Rattle.fk_base.specs.declared.moment.TheConstants.{GREATEST_MOMENT}
use Rattle.fk_subst.specs.CommandFault.{is_template}
use Rattle.fk_lines.specs.Lines.{Setting}
use Rattle.fk_values.specs.Settings.{NameRule, named, reads_as}
use Rattle.fk_values.specs.Values.{number_within, flag_in, hash_in, has_len_within, key_in, base64_key_in}
use Rattle.fk_base.specs.declared.moment.TheConstants.{LONGEST_TIME}
use Rattle.fk_access.specs.AccessValues.{are_sources, pairs_in, is_closing}
use Rattle.fk_access.specs.declared.access_name.AccessName.{AccessName}
use Rattle.fk_access.specs.declared.access_name.AccessName.TheVariants.{Source, OpenPorts, RestrictPorts, Key, KeyBase64, HmacKey, HmacKeyBase64, HmacDigestType, RequireUsername, RequireSourceAddress, AccessExpireEpoch, CmdCycleOpen, CmdCycleClose, CmdCycleTimer, FwAccessTimeout, KeysUntil}

-- the table of the names: the number of what each sets, and what its value may be
abbrev pub access_rule : AccessName → NameRule
access_rule Source = named (codes "SOURCE") 0 are_sources
access_rule OpenPorts = named (codes "OPEN_PORTS") 1 (reads_as pairs_in)
access_rule RestrictPorts = named (codes "RESTRICT_PORTS") 2 (reads_as pairs_in)
access_rule Key = named (codes "KEY") 3 (reads_as key_in)
access_rule KeyBase64 = named (codes "KEY_BASE64") 3 (reads_as base64_key_in)
access_rule HmacKey = named (codes "HMAC_KEY") 4 (reads_as key_in)
access_rule HmacKeyBase64 = named (codes "HMAC_KEY_BASE64") 4 (reads_as base64_key_in)
access_rule HmacDigestType = named (codes "HMAC_DIGEST_TYPE") 5 (reads_as hash_in)
access_rule RequireUsername = named (codes "REQUIRE_USERNAME") 6 (has_len_within 64)
access_rule RequireSourceAddress = named (codes "REQUIRE_SOURCE_ADDRESS") 7 (reads_as flag_in)
access_rule AccessExpireEpoch = named (codes "ACCESS_EXPIRE_EPOCH") 8 (reads_as (number_within 0 GREATEST_MOMENT))
access_rule CmdCycleOpen = named (codes "CMD_CYCLE_OPEN") 9 is_template
access_rule CmdCycleClose = named (codes "CMD_CYCLE_CLOSE") 10 is_closing
access_rule CmdCycleTimer = named (codes "CMD_CYCLE_TIMER") 11 (reads_as (number_within 1 LONGEST_TIME))
access_rule FwAccessTimeout = named (codes "FW_ACCESS_TIMEOUT") 12 (reads_as (number_within 0 18446744073709551615))
access_rule KeysUntil = named (codes "KEYS_UNTIL") 13 (reads_as (number_within 0 GREATEST_MOMENT))

-- every name
abbrev pub access_names : List AccessName
access_names =
    Source ∷ OpenPorts ∷ RestrictPorts ∷ Key ∷ KeyBase64 ∷ HmacKey ∷ HmacKeyBase64 ∷ HmacDigestType ∷ RequireUsername
    ∷ RequireSourceAddress ∷ AccessExpireEpoch ∷ CmdCycleOpen ∷ CmdCycleClose ∷ CmdCycleTimer ∷ FwAccessTimeout ∷ KeysUntil ∷ []

-- the rules of all names
abbrev pub access_rules : List NameRule
access_rules = map access_rule access_names

-- the name of a line that begins a stanza
abbrev pub source_name : List ℕ
source_name = (access_rule Source).name

-- what is given for a name, where it is
abbrev pub given_in : (ℕ → Option Setting) → AccessName → Option Setting
given_in given name = given (access_rule name).sets
