-- AES-256 (FIPS 197, sections 5.1 and 5.3): 14 rounds over the 60 words of the key schedule.
use Rattle.std.specs.Prelude.{ℕ, zero, suc, ◌-◌, List}
use Rattle.fk_aes.specs.KeyExpansion.{key_expansion}
use Rattle.fk_aes.specs.State.{sub_bytes, shift_rows, mix_columns, add_round_key, inv_shift_rows, inv_sub_bytes, inv_mix_columns}

-- the state after the first n of the rounds 1 to 13, from a block, with the schedule w (5.1)
unfoldable pub after_rounds : List ℕ → List ℕ → ℕ → List ℕ
after_rounds w block zero = add_round_key block w 0
after_rounds w block (suc n) = add_round_key (mix_columns (shift_rows (sub_bytes (after_rounds w block n)))) w (suc n)

-- the cipher with the schedule w: round 14 has no MixColumns (5.1)
unfoldable pub cipher_by : List ℕ → List ℕ → List ℕ
cipher_by w block = add_round_key (shift_rows (sub_bytes (after_rounds w block 13))) w 14

-- Cipher (5.1)
unfoldable pub cipher : List ℕ → List ℕ → List ℕ
cipher key block = cipher_by (key_expansion key) block

-- the state after n of the rounds 13 down to 1 of the inverse cipher, from a block, with the schedule w (5.3)
unfoldable pub after_inv_rounds : List ℕ → List ℕ → ℕ → List ℕ
after_inv_rounds w block zero = add_round_key block w 14
after_inv_rounds w block (suc n) =
    inv_mix_columns (add_round_key (inv_sub_bytes (inv_shift_rows (after_inv_rounds w block n))) w (13 - n))

-- the inverse cipher with the schedule w: its last round has no InvMixColumns (5.3)
unfoldable pub decipher_by : List ℕ → List ℕ → List ℕ
decipher_by w block = add_round_key (inv_sub_bytes (inv_shift_rows (after_inv_rounds w block 13))) w 0

-- InvCipher (5.3)
unfoldable pub decipher : List ℕ → List ℕ → List ℕ
decipher key block = decipher_by (key_expansion key) block
