-- Words as numbers: the first byte of a word is the highest of its number. Only private contracts speak of this.
use Rattle.std.specs.Prelude.{ℕ, ◌+◌, ◌-◌, ◌%◌, List, [], ◌∷◌, ◌++◌, slice_index}
use Rattle.std.specs.Int.{to_be_bytes, w32}
use Rattle.fk_aes.specs.Field.{◌•◌}

-- the bytes of words, word after word
unfoldable pub bytes_of : List ℕ → List ℕ
bytes_of [] = []
bytes_of (n ∷ ns) = to_be_bytes w32 n ++ bytes_of ns

-- byte i of a word
abbrev pub byte_of : ℕ → ℕ → ℕ
byte_of n i = slice_index (to_be_bytes w32 n) i

-- the factor in row i and column j of a matrix whose first row is k0, k1, k2, k3 and whose rows each turn the one before by one
abbrev pub factor : (k0 k1 k2 k3 i j : ℕ) → ℕ
factor k0 k1 k2 k3 i j = slice_index (k0 ∷ k1 ∷ k2 ∷ k3 ∷ []) ((j + 4 - i) % 4)

-- what the byte b in row r of a column adds to it by MixColumns (5.1.3)
abbrev pub mixed_byte : ℕ → ℕ → List ℕ
mixed_byte r b =
    (factor 2 3 1 1 0 r • b) ∷ (factor 2 3 1 1 1 r • b) ∷ (factor 2 3 1 1 2 r • b) ∷ (factor 2 3 1 1 3 r • b) ∷ []

-- what the byte b in row r of a column adds to it by InvMixColumns (5.3.3)
abbrev pub inv_mixed_byte : ℕ → ℕ → List ℕ
inv_mixed_byte r b =
    (factor 14 11 13 9 0 r • b) ∷ (factor 14 11 13 9 1 r • b) ∷ (factor 14 11 13 9 2 r • b) ∷ (factor 14 11 13 9 3 r • b) ∷ []
