-- What a template is filled with.
use Rattle.std.specs.Prelude.{ℕ, ◌<◌, ◌^◌, Bool, ◌||◌, ◌==◌, List, [], ◌∷◌, map, codes}
use Rattle.std.specs.List.{flat_map}
use Rattle.std.specs.Char.{is_ascii_digit, is_ascii_lowercase}
use Rattle.std.specs.Fmt.{decimal}
use Rattle.fk_base.specs.declared.address.Ip4.{Ip4}
use Rattle.fk_base.specs.declared.pair.Pair.{Pair}
use Rattle.fk_base.specs.declared.grant.Grant.{Grant}
use Rattle.fk_base.specs.Address.{ip_text}
use Rattle.fk_base.specs.PairText.{proto_name}
use Rattle.fk_base.specs.Pairs.{IsPairs, pairs_text}
use Rattle.fk_subst.specs.declared.variable.Var.{Var}
use Rattle.fk_subst.specs.declared.variable.Var.TheVariants as var
use Rattle.fk_subst.specs.declared.piece.Piece.{Piece}
use Rattle.fk_subst.specs.declared.piece.Piece.TheVariants.{Plain, Name}

-- what this text is of the first pair; no grant is without one
abbrev pub of_first : (Pair → List ℕ) → List Pair → List ℕ
of_first text [] = []
of_first text (pair ∷ pairs) = text pair

-- what a grant puts in the place of a name
abbrev pub value_text : Grant → Var → List ℕ
value_text grant var.Ip = ip_text grant.ip
value_text grant var.PktSrc = ip_text grant.src
value_text grant var.Port = of_first (λ pair. decimal pair.port) grant.pairs
value_text grant var.Proto = of_first (λ pair. proto_name pair.proto) grant.pairs
value_text grant var.Timeout = decimal grant.seconds
value_text grant var.Access = pairs_text grant.pairs

-- a piece as a grant fills it: plain text stands for itself
abbrev pub piece_text : Grant → Piece → List ℕ
piece_text grant (Plain bytes) = bytes
piece_text grant (Name var) = value_text grant var

-- a template as a grant fills it, word by word: a value never becomes a word of its own, or two
abbrev pub filled : List (List Piece) → Grant → List (List ℕ)
filled template grant = map (flat_map (piece_text grant)) template

-- a byte that a value may have: a digit, a small letter, `,` (44), `.` (46) or `/` (47)
abbrev pub is_value_byte : ℕ → Bool
is_value_byte byte = is_ascii_digit byte || is_ascii_lowercase byte || byte == 44 || byte == 46 || byte == 47

-- a grant's numbers are within their types
pub record IsGrant (grant : Grant) : Type 0 where
  pub pairs : IsPairs grant.pairs
  pub seconds : grant.seconds < 2 ^ 32
