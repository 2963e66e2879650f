-- The equivalent inverse cipher is the inverse cipher (FIPS 197, section 5.3.5): InvSubBytes and InvShiftRows may change places,
-- and InvMixColumns of a sum is the sum of both mixed.
use Rattle.std.proofs.Common.{◌≡◌, ℕ, zero, suc, ◌-◌, ◌<◌, List, ◌++◌, length, get_or, refl, sym, ap, ◌∙◌, arith}
use Rattle.std.proofs.lemmas.Bool.{ne_eqb}
use Rattle.fk_base.specs.Bytes.{HasBytes}
use Rattle.fk_aes.specs.Cipher.{after_inv_rounds, decipher_by}
use Rattle.fk_aes.specs.EquivalentInverse.{IsInverseSchedule, after_equivalent_rounds, equivalent_decipher_by, inverse_round_key}
use Rattle.fk_aes.specs.Field.{xor_bytes}
use Rattle.fk_aes.specs.State.{add_round_key, inv_mix_column, inv_mix_columns, inv_shift_rows, inv_sub_bytes, round_key}
use Rattle.fk_aes.proofs.ByteLists.{list-elements}
use Rattle.fk_aes.proofs.CipherLaws.{HasBytes-after_inv_rounds, HasBytes-inv_half_round, after_inv_rounds-suc, after_inv_rounds-zero, decipher_by-is}
use Rattle.fk_aes.proofs.Columns.{inv_mix_column-xor}
use Rattle.fk_aes.proofs.StateLemmas.{length-round_key}

pub after_equivalent_rounds-zero : (w block : List ℕ) → after_equivalent_rounds w block 0 ≡ add_round_key block w 14
unfolding after_equivalent_rounds
after_equivalent_rounds-zero w block = refl

pub after_equivalent_rounds-suc : (w block : List ℕ) (n : ℕ) → after_equivalent_rounds w block (suc n) ≡ add_round_key (inv_mix_columns (inv_shift_rows (inv_sub_bytes (after_equivalent_rounds w block n)))) w (13 - n)
unfolding after_equivalent_rounds
after_equivalent_rounds-suc w block n = refl

pub equivalent_decipher_by-is : (w block : List ℕ) → equivalent_decipher_by w block ≡ add_round_key (inv_shift_rows (inv_sub_bytes (after_equivalent_rounds w block 13))) w 0
unfolding equivalent_decipher_by
equivalent_decipher_by-is w block = refl

-- InvSubBytes and InvShiftRows in either order
inv_shift-inv_sub : (s : List ℕ) → length s ≡ 16 → inv_shift_rows (inv_sub_bytes s) ≡ inv_sub_bytes (inv_shift_rows s)
unfolding inv_shift_rows inv_sub_bytes
inv_shift-inv_sub s l = ap (λ (t : List ℕ). inv_shift_rows (inv_sub_bytes t)) (list-elements s 16 l)

-- InvMixColumns of a sum
inv_mix_columns-xor : (s k : List ℕ) → length s ≡ 16 → length k ≡ 16
    → inv_mix_columns (xor_bytes s k) ≡ xor_bytes (inv_mix_columns s) (inv_mix_columns k)
unfolding inv_mix_columns inv_mix_column xor_bytes
inv_mix_columns-xor s k ls lk =
    let x = λ (n : ℕ). get_or s n 0 in
    let y = λ (n : ℕ). get_or k n 0 in
    let column = λ (n m p q : ℕ). inv_mix_column-xor (x n) (x m) (x p) (x q) (y n) (y m) (y p) (y q) in
    (λ i. inv_mix_columns (xor_bytes (list-elements s 16 ls i) (list-elements k 16 lk i)))
    ∙ (λ i. column 0 1 2 3 i ++ column 4 5 6 7 i ++ column 8 9 10 11 i ++ column 12 13 14 15 i)

module _ (w dw block : List ℕ) (hw : HasBytes 240 w) (hb : HasBytes 16 block) (is : IsInverseSchedule w dw) where
  -- the first and the last round key are those of the cipher
  same_key : (s : List ℕ) (n : ℕ) → n < 15 → inverse_round_key w n ≡ round_key w n → add_round_key s dw n ≡ add_round_key s w n
  unfolding add_round_key
  same_key s n l e = ap (xor_bytes s) (is.keys n l ∙ e)

  -- a mixed state and a mixed round key
  mixed_key : (s : List ℕ) (n : ℕ) → 0 < n → n < 14 → length s ≡ 16 → add_round_key (inv_mix_columns s) dw n ≡ inv_mix_columns (add_round_key s w n)
  unfolding add_round_key
  mixed_key s n low high four =
      let inner : inverse_round_key w n ≡ inv_mix_columns (round_key w n) = rw (ne_eqb n 0 (omega arith), ne_eqb n 14 (omega arith)) refl in
      ap (xor_bytes (inv_mix_columns s)) (is.keys n (omega arith) ∙ inner)
      ∙ sym (inv_mix_columns-xor s (round_key w n) four (length-round_key w n (omega arith) hw.size))

  -- the states of both ciphers are the same
  same_rounds : (n : ℕ) → n < 14 → after_equivalent_rounds dw block n ≡ after_inv_rounds w block n
  same_rounds zero l = after_equivalent_rounds-zero dw block ∙ same_key block 14 (omega arith) refl ∙ sym (after_inv_rounds-zero w block)
  same_rounds (suc n) l =
      let s : List ℕ = after_inv_rounds w block n in
      let bytes = HasBytes-after_inv_rounds w block hw hb n in
      let half = HasBytes-inv_half_round s bytes in
      rw (after_equivalent_rounds-suc, same_rounds n (omega arith), inv_shift-inv_sub s bytes.size, after_inv_rounds-suc)
      (mixed_key (inv_sub_bytes (inv_shift_rows s)) (13 - n) (omega arith) (omega arith) half.size)

  pub equivalent_decipher_by-is_decipher_by : equivalent_decipher_by dw block ≡ decipher_by w block
  equivalent_decipher_by-is_decipher_by =
      let bytes = HasBytes-after_inv_rounds w block hw hb 13 in
      rw (equivalent_decipher_by-is, same_rounds 13 (omega arith), inv_shift-inv_sub (after_inv_rounds w block 13) bytes.size, decipher_by-is)
      (same_key _ 0 (omega arith) refl)
