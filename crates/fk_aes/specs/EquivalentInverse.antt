-- The equivalent inverse cipher (FIPS 197, section 5.3.5): the transformations in the order of the cipher, with the round keys
-- 1 to 13 mixed by InvMixColumns. Only private contracts speak of it: what is promised is the inverse cipher of section 5.3.
use Rattle.std.specs.Prelude.{ℕ, zero, suc, ◌-◌, ◌<◌, ◌==◌, ◌≡◌, List, length, if◌then◌else◌}
use Rattle.fk_aes.specs.State.{add_round_key, inv_mix_columns, inv_shift_rows, inv_sub_bytes, round_key}

-- the round key n of the equivalent inverse cipher, from the schedule w of the cipher
abbrev pub inverse_round_key : List ℕ → ℕ → List ℕ
inverse_round_key w n = if n == 0 then round_key w n else (if n == 14 then round_key w n else inv_mix_columns (round_key w n))

-- dw is the schedule of the equivalent inverse cipher for the schedule w of the cipher
pub record IsInverseSchedule (w dw : List ℕ) : Type 0 where
  pub size : length dw ≡ 240
  pub keys : (n : ℕ) → n < 15 → round_key dw n ≡ inverse_round_key w n

-- the state after n of the rounds 13 down to 1 of the equivalent inverse cipher, from a block, with its schedule dw
unfoldable pub after_equivalent_rounds : List ℕ → List ℕ → ℕ → List ℕ
after_equivalent_rounds dw block zero = add_round_key block dw 14
after_equivalent_rounds dw block (suc n) =
    add_round_key (inv_mix_columns (inv_shift_rows (inv_sub_bytes (after_equivalent_rounds dw block n)))) dw (13 - n)

-- EqInvCipher: its last round has no InvMixColumns
unfoldable pub equivalent_decipher_by : List ℕ → List ℕ → List ℕ
equivalent_decipher_by dw block = add_round_key (inv_shift_rows (inv_sub_bytes (after_equivalent_rounds dw block 13))) dw 0
