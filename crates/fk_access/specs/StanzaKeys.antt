-- What a stanza needs, as it is given: the two keys of each pair, its two commands and its time. What it lacks first.
use Rattle.std.specs.Prelude.{ℕ, Bool, false, is_some, List, [], ◌∷◌, ◌++◌, Option, if◌then◌else◌}
use Rattle.std.specs.Option.{option_and_then, option_map_or}
use Rattle.fk_base.specs.FirstFailed.{first_failed}
use Rattle.fk_lines.specs.Lines.{Setting}
use Rattle.fk_subst.specs.CommandFault.{is_template}
use Rattle.fk_values.specs.KeyOf.{key_by}
use Rattle.fk_values.specs.Settings.{read_of}
use Rattle.fk_values.specs.Values.{number_within}
use Rattle.fk_base.specs.declared.moment.TheConstants.{LONGEST_TIME}
use Rattle.fk_access.specs.declared.access_err.AccessWhat.{AccessWhat}
use Rattle.fk_access.specs.declared.access_err.AccessWhat.TheVariants.{NoKey, NoHmacKey, NoOpen, NoClose, NoTimer}
use Rattle.fk_access.specs.declared.access_name.AccessName.TheVariants.{Key, KeyBase64, HmacKey, HmacKeyBase64, CmdCycleOpen, CmdCycleClose, CmdCycleTimer}
use Rattle.fk_access.specs.AccessTable.{access_rule, given_in}
use Rattle.fk_access.specs.AccessValues.{is_closing}
use Rattle.fk_access.specs.KeyPairs.{has_last_pair}

-- the key that packets are sealed under
abbrev pub sealing_key : (ℕ → Option Setting) → Option (List ℕ)
sealing_key given = option_and_then (key_by (access_rule KeyBase64).name) (given_in given Key)

-- the key of their HMAC
abbrev pub hmac_key : (ℕ → Option Setting) → Option (List ℕ)
hmac_key given = option_and_then (key_by (access_rule HmacKeyBase64).name) (given_in given HmacKey)

-- a setting is given whose value passes this test
abbrev pub has_value : (List ℕ → Bool) → Option Setting → Bool
has_value test given = option_map_or (λ setting. test setting.value) given false

-- how long a stanza lets in, in seconds
abbrev pub timer_of : (ℕ → Option Setting) → Option ℕ
timer_of given = read_of (number_within 1 LONGEST_TIME) (given_in given CmdCycleTimer)

-- both keys of a pair are given
abbrev pub pair_needs : (ℕ → Option Setting) → List (Bool × AccessWhat)
pair_needs given = (is_some (sealing_key given), NoKey) ∷ (is_some (hmac_key given), NoHmacKey) ∷ []

-- the pair at the end of a stanza needs its keys, where there is one behind so many that are ended
abbrev pub last_needs : ℕ → (ℕ → Option Setting) → List (Bool × AccessWhat)
last_needs ended given = if has_last_pair ended given then pair_needs given else []

-- the two commands and the time are given
abbrev pub rest_needs : (ℕ → Option Setting) → List (Bool × AccessWhat)
rest_needs given =
    (has_value is_template (given_in given CmdCycleOpen), NoOpen) ∷ (has_value is_closing (given_in given CmdCycleClose), NoClose)
    ∷ (is_some (timer_of given), NoTimer) ∷ []

-- what a stanza lacks first at its end, where so many pairs are ended
abbrev pub lacks_first : ℕ → (ℕ → Option Setting) → Option AccessWhat
lacks_first ended given = first_failed (last_needs ended given ++ rest_needs given)
