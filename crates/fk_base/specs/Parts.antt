-- A text's parts, as they stand between separators.
use Rattle.std.specs.Prelude.{ℕ, ◌==◌, List, [], Option, Some, None}
use Rattle.std.specs.Borrow.{Bor}
use Rattle.std.specs.List.{slice_split}

-- the parts of a text that is cut at each such byte: `a:b:` has three at `:`, the last of them empty
abbrev pub parts_at : ℕ → List ℕ → List (List ℕ)
parts_at separator text = slice_split (λ byte. byte == separator) text

-- the parts of what is left of a text, or none
abbrev pub parts_left : ℕ → Option (Bor (List ℕ)) → List (List ℕ)
parts_left separator None = []
parts_left separator (Some rest) = parts_at separator rest.now
