-- The values that only an access file has.
use Rattle.std.specs.Prelude.{ℕ, Bool, ◌&&◌, ◌||◌, not, List, codes, Option}
use Rattle.std.specs.List.{AllZip, list_all}
use Rattle.std.specs.Str.{bytes_eq}
use Rattle.fk_base.specs.Net.{SpellsNet}
use Rattle.fk_base.specs.declared.pair.Pair.{Pair}
use Rattle.fk_base.specs.declared.net.Net4.{Net4}
use Rattle.fk_subst.specs.CommandFault.{is_template}
use Rattle.fk_values.specs.Values.{has_items_within, is_net_text, items_of, pairs_within}

-- a list of 1 to 64 pairs
abbrev pub pairs_in : List ℕ → Option (List Pair)
pairs_in value = pairs_within 64 value

-- the items, of which there are 1 to 16, are nets
abbrev pub are_nets : List (List ℕ) → Bool
are_nets items = has_items_within 16 items && list_all is_net_text items

-- a list of nets
abbrev pub is_net_list : List ℕ → Bool
is_net_list value = are_nets (items_of value)

-- the nets of a list, item by item
abbrev pub AreNetsOf : List ℕ → List Net4 → Type 0
AreNetsOf value nets = AllZip SpellsNet (items_of value) nets

-- any source
abbrev pub is_any_source : List ℕ → Bool
is_any_source value = bytes_eq value (codes "ANY")

-- any source, or a list of nets
abbrev pub are_sources : List ℕ → Bool
are_sources value = is_any_source value || is_net_list value

-- a command, but not the single word `NONE`; a value has no blanks at its ends
abbrev pub is_closing : List ℕ → Bool
is_closing value = not (bytes_eq value (codes "NONE")) && is_template value
