-- How far a reader of a list has come. No public contract cites it, so no caller has to believe it.
use Rattle.std.specs.Prelude.{ℕ, Bool, true, false, List, map}
use Rattle.fk_lines.specs.Lines.{trim_front}
use Rattle.fk_values.specs.Values.{items_of_parts}

-- the items that are left in these parts, behind the first item or with it
abbrev pub items_left : Bool → List (List ℕ) → List (List ℕ)
items_left true parts = map trim_front parts
items_left false parts = items_of_parts parts
