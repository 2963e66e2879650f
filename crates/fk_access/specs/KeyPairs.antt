-- The pairs of keys of a stanza. A line KEYS_UNTIL ends the pair whose lines stand before it, back to the SOURCE line or to the
-- KEYS_UNTIL before; what stands behind the last one is the pair that is begun.
use Rattle.std.specs.Prelude.{ℕ, Bool, ◌==◌, ◌||◌, is_some, length, List, [], ◌∷◌, ◌++◌, Option, if◌then◌else◌}
use Rattle.std.specs.List.{list_any}
use Rattle.fk_lines.specs.Lines.{Setting}
use Rattle.fk_values.specs.Settings.{given_by, is_for}
use Rattle.fk_access.specs.declared.access_name.AccessName.{AccessName}
use Rattle.fk_access.specs.declared.access_name.AccessName.TheVariants.{Key, HmacKey, HmacDigestType, KeysUntil}
use Rattle.fk_access.specs.AccessTable.{access_rule, access_rules, given_in}

-- the names that belong to one pair, and do not count for another
abbrev pub pair_names : List AccessName
pair_names = Key ∷ HmacKey ∷ HmacDigestType ∷ KeysUntil ∷ []

-- what has this number belongs to a pair
abbrev pub is_of_pair : ℕ → Bool
is_of_pair number = list_any (λ name. (access_rule name).sets == number) pair_names

-- the setting is a last moment, and ends its pair
abbrev pub ends_pair : Setting → Bool
ends_pair setting = is_for access_rules (access_rule KeysUntil).sets setting

-- the pairs that settings end, where these are in front of them: of each its settings, and the last of them ends it
abbrev pub ended_from : List Setting → List Setting → List (List Setting)
ended_from front [] = []
ended_from front (setting ∷ settings) =
    if ends_pair setting then (front ++ setting ∷ []) ∷ ended_from [] settings else ended_from (front ++ setting ∷ []) settings

-- the settings behind the last that ends a pair, where these are in front of them
abbrev pub begun_from : List Setting → List Setting → List Setting
begun_from front [] = front
begun_from front (setting ∷ settings) = begun_from (if ends_pair setting then [] else front ++ setting ∷ []) settings

-- the pairs of a stanza that are ended
abbrev pub ended_pairs : List Setting → List (List Setting)
ended_pairs settings = ended_from [] settings

-- the settings of the pair that is begun
abbrev pub begun_pair : List Setting → List Setting
begun_pair settings = begun_from [] settings

-- what settings of a stanza give so far: for the names of a pair those of the pair that is begun, for every other name all
abbrev pub given_behind : List Setting → ℕ → Option Setting
given_behind settings number = given_by access_rules (if is_of_pair number then begun_pair settings else settings) number

-- the stanza has one more pair than those that are ended: a line of it stands there, or no other pair does
abbrev pub has_last_pair : ℕ → (ℕ → Option Setting) → Bool
has_last_pair ended given = ended == 0 || list_any (λ name. is_some (given_in given name)) pair_names

-- the settings of each pair of a stanza, in the order of the file
abbrev pub key_pairs : List Setting → List (List Setting)
key_pairs settings =
    ended_pairs settings
    ++ (if has_last_pair (length (ended_pairs settings)) (given_behind settings) then begun_pair settings ∷ [] else [])
