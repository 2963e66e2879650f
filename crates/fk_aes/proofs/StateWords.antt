-- The state as four words: what the columns of a round make is the transformations of the state.
use Rattle.std.proofs.Common.{◌≡◌, ℕ, List, [], ◌∷◌, ◌++◌}
use Rattle.std.specs.Int.{to_be_bytes, w32}
use Rattle.fk_aes.specs.State.{inv_mix_column, inv_mix_columns, inv_shift_rows, inv_sub_bytes, mix_column, mix_columns, shift_rows, sub_bytes}
use Rattle.fk_aes.specs.Substitution.{inv_sub_byte, sub_byte}
use Rattle.fk_aes.specs.Words.{byte_of, bytes_of}

-- the substituted column whose row r is byte r of the word r
abbrev pub sub_column : (a b c d : ℕ) → List ℕ
sub_column a b c d = sub_byte (byte_of a 0) ∷ sub_byte (byte_of b 1) ∷ sub_byte (byte_of c 2) ∷ sub_byte (byte_of d 3) ∷ []

abbrev pub inv_sub_column : (a b c d : ℕ) → List ℕ
inv_sub_column a b c d = inv_sub_byte (byte_of a 0) ∷ inv_sub_byte (byte_of b 1) ∷ inv_sub_byte (byte_of c 2) ∷ inv_sub_byte (byte_of d 3) ∷ []

-- that column mixed
abbrev pub sub_mix_column : (a b c d : ℕ) → List ℕ
sub_mix_column a b c d = mix_column (sub_byte (byte_of a 0)) (sub_byte (byte_of b 1)) (sub_byte (byte_of c 2)) (sub_byte (byte_of d 3))

abbrev pub inv_sub_mix_column : (a b c d : ℕ) → List ℕ
inv_sub_mix_column a b c d = inv_mix_column (inv_sub_byte (byte_of a 0)) (inv_sub_byte (byte_of b 1)) (inv_sub_byte (byte_of c 2)) (inv_sub_byte (byte_of d 3))

module _ (a b c d p q r t : ℕ) where
  pub shifted : to_be_bytes w32 p ≡ sub_column a b c d → to_be_bytes w32 q ≡ sub_column b c d a
      → to_be_bytes w32 r ≡ sub_column c d a b → to_be_bytes w32 t ≡ sub_column d a b c
      → bytes_of (p ∷ q ∷ r ∷ t ∷ []) ≡ shift_rows (sub_bytes (bytes_of (a ∷ b ∷ c ∷ d ∷ [])))
  unfolding bytes_of shift_rows sub_bytes
  shifted e f g h = λ i. e i ++ (f i ++ (g i ++ (h i ++ [])))

  pub shifted_mixed : to_be_bytes w32 p ≡ sub_mix_column a b c d → to_be_bytes w32 q ≡ sub_mix_column b c d a
      → to_be_bytes w32 r ≡ sub_mix_column c d a b → to_be_bytes w32 t ≡ sub_mix_column d a b c
      → bytes_of (p ∷ q ∷ r ∷ t ∷ []) ≡ mix_columns (shift_rows (sub_bytes (bytes_of (a ∷ b ∷ c ∷ d ∷ []))))
  unfolding bytes_of shift_rows sub_bytes mix_columns mix_column
  shifted_mixed e f g h = λ i. e i ++ (f i ++ (g i ++ (h i ++ [])))

  pub inv_shifted : to_be_bytes w32 p ≡ inv_sub_column a d c b → to_be_bytes w32 q ≡ inv_sub_column b a d c
      → to_be_bytes w32 r ≡ inv_sub_column c b a d → to_be_bytes w32 t ≡ inv_sub_column d c b a
      → bytes_of (p ∷ q ∷ r ∷ t ∷ []) ≡ inv_shift_rows (inv_sub_bytes (bytes_of (a ∷ b ∷ c ∷ d ∷ [])))
  unfolding bytes_of inv_shift_rows inv_sub_bytes
  inv_shifted e f g h = λ i. e i ++ (f i ++ (g i ++ (h i ++ [])))

  pub inv_shifted_mixed : to_be_bytes w32 p ≡ inv_sub_mix_column a d c b → to_be_bytes w32 q ≡ inv_sub_mix_column b a d c
      → to_be_bytes w32 r ≡ inv_sub_mix_column c b a d → to_be_bytes w32 t ≡ inv_sub_mix_column d c b a
      → bytes_of (p ∷ q ∷ r ∷ t ∷ []) ≡ inv_mix_columns (inv_shift_rows (inv_sub_bytes (bytes_of (a ∷ b ∷ c ∷ d ∷ []))))
  unfolding bytes_of inv_shift_rows inv_sub_bytes inv_mix_columns inv_mix_column
  inv_shifted_mixed e f g h = λ i. e i ++ (f i ++ (g i ++ (h i ++ [])))
