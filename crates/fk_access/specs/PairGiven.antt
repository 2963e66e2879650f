-- What the lines of one pair of keys give, by the numbers of what they set. No public contract cites it.
use Rattle.std.specs.Prelude.{List, [], ◌∷◌, Option, None}
use Rattle.std.specs.Option.{option_map}
use Rattle.fk_lines.specs.Lines.{Setting}
use Rattle.fk_values.specs.Given.{said_by}
use Rattle.fk_access.specs.declared.pair_lines.PairLines.{PairLines}

-- 3 is the key, 4 that of the HMAC, 5 its hash and 13 the last moment
abbrev pub pair_given : PairLines → List (Option Setting)
pair_given lines =
    None ∷ None ∷ None ∷ option_map said_by lines.key ∷ option_map said_by lines.mac_key ∷ option_map said_by lines.kind
    ∷ None ∷ None ∷ None ∷ None ∷ None ∷ None ∷ None ∷ option_map said_by lines.until ∷ []
