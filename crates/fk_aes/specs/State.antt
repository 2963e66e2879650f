-- The state and its transformations (FIPS 197, sections 3.4, 5.1 and 5.3). A state is the list of its 16 bytes in the order
-- of the input, column by column, so the byte in row r and column c is at place r + 4 c.
use Rattle.std.specs.Prelude.{ℕ, ◌+◌, ◌-◌, ◌*◌, ◌%◌, List, [], ◌∷◌, ◌++◌, map, take, drop, slice_index}
use Rattle.fk_aes.specs.Field.{◌⊕◌, ◌•◌, xor_bytes}
use Rattle.fk_aes.specs.Substitution.{sub_byte, inv_sub_byte}

-- the byte in row r and column c (3.4)
abbrev pub byte_at : List ℕ → ℕ → ℕ → ℕ
byte_at s r c = slice_index s (r + 4 * c)

-- the state with the byte f r c in row r and column c (3.4)
abbrev pub state_of : (ℕ → ℕ → ℕ) → List ℕ
state_of f =
    f 0 0 ∷ f 1 0 ∷ f 2 0 ∷ f 3 0
    ∷ f 0 1 ∷ f 1 1 ∷ f 2 1 ∷ f 3 1
    ∷ f 0 2 ∷ f 1 2 ∷ f 2 2 ∷ f 3 2
    ∷ f 0 3 ∷ f 1 3 ∷ f 2 3 ∷ f 3 3 ∷ []

-- SubBytes (5.1.1)
unfoldable pub sub_bytes : List ℕ → List ℕ
sub_bytes s = map sub_byte s

-- ShiftRows: row r moves r places to the left, round the end (5.1.2)
unfoldable pub shift_rows : List ℕ → List ℕ
shift_rows s = state_of (λ r c. byte_at s r ((c + r) % 4))

-- a row of a matrix times a column of bytes (4.3)
unfoldable pub row_times : (k0 k1 k2 k3 b0 b1 b2 b3 : ℕ) → ℕ
row_times k0 k1 k2 k3 b0 b1 b2 b3 = k0 • b0 ⊕ k1 • b1 ⊕ k2 • b2 ⊕ k3 • b3

-- the matrix of MixColumns times a column (5.1.3)
unfoldable pub mix_column : (b0 b1 b2 b3 : ℕ) → List ℕ
mix_column b0 b1 b2 b3 =
    row_times 0x02 0x03 0x01 0x01 b0 b1 b2 b3
    ∷ row_times 0x01 0x02 0x03 0x01 b0 b1 b2 b3
    ∷ row_times 0x01 0x01 0x02 0x03 b0 b1 b2 b3
    ∷ row_times 0x03 0x01 0x01 0x02 b0 b1 b2 b3 ∷ []

-- a map of columns at column c
abbrev pub at_column : ((b0 b1 b2 b3 : ℕ) → List ℕ) → List ℕ → ℕ → List ℕ
at_column f s c = f (byte_at s 0 c) (byte_at s 1 c) (byte_at s 2 c) (byte_at s 3 c)

-- MixColumns (5.1.3)
unfoldable pub mix_columns : List ℕ → List ℕ
mix_columns s = at_column mix_column s 0 ++ at_column mix_column s 1 ++ at_column mix_column s 2 ++ at_column mix_column s 3

-- the round key n: words 4 n to 4 n + 3 of the schedule w (5.1.4)
abbrev pub round_key : List ℕ → ℕ → List ℕ
round_key w n = take 16 (drop (16 * n) w)

-- AddRoundKey with the round key n of the schedule w (5.1.4)
unfoldable pub add_round_key : List ℕ → List ℕ → ℕ → List ℕ
add_round_key s w n = xor_bytes s (round_key w n)

-- InvShiftRows: row r moves r places to the right, round the end (5.3.1)
unfoldable pub inv_shift_rows : List ℕ → List ℕ
inv_shift_rows s = state_of (λ r c. byte_at s r ((c + 4 - r) % 4))

-- InvSubBytes (5.3.2)
unfoldable pub inv_sub_bytes : List ℕ → List ℕ
inv_sub_bytes s = map inv_sub_byte s

-- the matrix of InvMixColumns times a column (5.3.3)
unfoldable pub inv_mix_column : (b0 b1 b2 b3 : ℕ) → List ℕ
inv_mix_column b0 b1 b2 b3 =
    row_times 0x0e 0x0b 0x0d 0x09 b0 b1 b2 b3
    ∷ row_times 0x09 0x0e 0x0b 0x0d b0 b1 b2 b3
    ∷ row_times 0x0d 0x09 0x0e 0x0b b0 b1 b2 b3
    ∷ row_times 0x0b 0x0d 0x09 0x0e b0 b1 b2 b3 ∷ []

-- InvMixColumns (5.3.3)
unfoldable pub inv_mix_columns : List ℕ → List ℕ
inv_mix_columns s =
    at_column inv_mix_column s 0 ++ at_column inv_mix_column s 1 ++ at_column inv_mix_column s 2 ++ at_column inv_mix_column s 3
