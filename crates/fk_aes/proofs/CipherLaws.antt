-- The cipher and the inverse cipher undo each other: after n rounds of the one, the state is where the other was 13 - n
-- rounds from its start.
use Rattle.std.proofs.Common.{◌≡◌, ℕ, zero, suc, ◌+◌, ◌-◌, ◌<◌, List, refl, ap, ◌∙◌, arith}
use Rattle.fk_aes.specs.Cipher.{after_inv_rounds, after_rounds, cipher, cipher_by, decipher, decipher_by}
use Rattle.fk_base.specs.Bytes.{HasBytes}
use Rattle.fk_aes.specs.KeyExpansion.{key_expansion}
use Rattle.fk_aes.specs.State.{add_round_key, inv_mix_columns, inv_shift_rows, inv_sub_bytes, mix_columns, shift_rows, sub_bytes}
use Rattle.fk_aes.proofs.ScheduleLemmas.{HasBytes-key_expansion}
use Rattle.fk_aes.proofs.StateLemmas.{HasBytes-add_round_key, HasBytes-inv_mix_columns, HasBytes-inv_shift_rows, HasBytes-inv_sub_bytes, HasBytes-mix_columns, HasBytes-shift_rows, HasBytes-sub_bytes, add_round_key-twice, inv_mix_columns-mix_columns, inv_shift_rows-shift_rows, inv_sub_bytes-sub_bytes, mix_columns-inv_mix_columns, shift_rows-inv_shift_rows, sub_bytes-inv_sub_bytes}

-- ---- one round more, and the rounds' ends

pub after_rounds-zero : (w block : List ℕ) → after_rounds w block 0 ≡ add_round_key block w 0
unfolding after_rounds
after_rounds-zero w block = refl

pub after_rounds-suc : (w block : List ℕ) (n : ℕ) → after_rounds w block (suc n) ≡ add_round_key (mix_columns (shift_rows (sub_bytes (after_rounds w block n)))) w (suc n)
unfolding after_rounds
after_rounds-suc w block n = refl

pub cipher_by-is : (w block : List ℕ) → cipher_by w block ≡ add_round_key (shift_rows (sub_bytes (after_rounds w block 13))) w 14
unfolding cipher_by
cipher_by-is w block = refl

pub after_inv_rounds-zero : (w block : List ℕ) → after_inv_rounds w block 0 ≡ add_round_key block w 14
unfolding after_inv_rounds
after_inv_rounds-zero w block = refl

pub after_inv_rounds-suc : (w block : List ℕ) (n : ℕ) → after_inv_rounds w block (suc n) ≡ inv_mix_columns (add_round_key (inv_sub_bytes (inv_shift_rows (after_inv_rounds w block n))) w (13 - n))
unfolding after_inv_rounds
after_inv_rounds-suc w block n = refl

pub decipher_by-is : (w block : List ℕ) → decipher_by w block ≡ add_round_key (inv_sub_bytes (inv_shift_rows (after_inv_rounds w block 13))) w 0
unfolding decipher_by
decipher_by-is w block = refl

-- ---- half a round there and back

there_and_back : (s : List ℕ) → HasBytes 16 s → inv_sub_bytes (inv_shift_rows (shift_rows (sub_bytes s))) ≡ s
there_and_back s h = ap inv_sub_bytes (inv_shift_rows-shift_rows (sub_bytes s) (HasBytes-sub_bytes s h)) ∙ inv_sub_bytes-sub_bytes s h

back_and_there : (s : List ℕ) → HasBytes 16 s → shift_rows (sub_bytes (inv_sub_bytes (inv_shift_rows s))) ≡ s
back_and_there s h = ap shift_rows (sub_bytes-inv_sub_bytes (inv_shift_rows s) (HasBytes-inv_shift_rows s h)) ∙ shift_rows-inv_shift_rows s h

HasBytes-half_round : (s : List ℕ) → HasBytes 16 s → HasBytes 16 (shift_rows (sub_bytes s))
HasBytes-half_round s h = HasBytes-shift_rows (sub_bytes s) (HasBytes-sub_bytes s h)

pub HasBytes-inv_half_round : (s : List ℕ) → HasBytes 16 s → HasBytes 16 (inv_sub_bytes (inv_shift_rows s))
HasBytes-inv_half_round s h = HasBytes-inv_sub_bytes (inv_shift_rows s) (HasBytes-inv_shift_rows s h)

-- ---- the whole ciphers

module _ (w block : List ℕ) (hw : HasBytes 240 w) (hb : HasBytes 16 block) where
  HasBytes-after_rounds : (n : ℕ) → n < 15 → HasBytes 16 (after_rounds w block n)
  HasBytes-after_rounds zero l = rw after_rounds-zero (HasBytes-add_round_key block w 0 l hw hb)
  HasBytes-after_rounds (suc n) l = rw after_rounds-suc (HasBytes-add_round_key _ w (suc n) l hw (HasBytes-mix_columns _))

  pub HasBytes-after_inv_rounds : (n : ℕ) → HasBytes 16 (after_inv_rounds w block n)
  HasBytes-after_inv_rounds zero = rw after_inv_rounds-zero (HasBytes-add_round_key block w 14 (omega arith) hw hb)
  HasBytes-after_inv_rounds (suc n) = rw after_inv_rounds-suc (HasBytes-inv_mix_columns _)

  HasBytes-cipher_by : HasBytes 16 (cipher_by w block)
  HasBytes-cipher_by =
      rw cipher_by-is (HasBytes-add_round_key _ w 14 (omega arith) hw (HasBytes-half_round _ (HasBytes-after_rounds 13 (omega arith))))

  HasBytes-decipher_by : HasBytes 16 (decipher_by w block)
  HasBytes-decipher_by =
      rw decipher_by-is (HasBytes-add_round_key _ w 0 (omega arith) hw (HasBytes-inv_half_round _ (HasBytes-after_inv_rounds 13)))

  -- the inverse cipher on its way back through the states of the cipher
  inverse_meets : (n m : ℕ) → n + m ≡ 13 → after_inv_rounds w (cipher_by w block) n ≡ shift_rows (sub_bytes (after_rounds w block m))
  inverse_meets zero m e =
      let last : m ≡ 13 = omega arith in
      let bytes = HasBytes-after_rounds 13 (omega arith) in
      rw (after_inv_rounds-zero, cipher_by-is, last) (add_round_key-twice _ w 14 (omega arith) hw (HasBytes-half_round _ bytes))
  inverse_meets (suc n) m e =
      let round : 13 - n ≡ suc m = omega arith in
      let bytes = HasBytes-after_rounds m (omega arith) in
      let there = there_and_back (after_rounds w block (suc m)) (HasBytes-after_rounds (suc m) (omega arith)) in
      let added = add_round_key-twice (mix_columns (shift_rows (sub_bytes (after_rounds w block m)))) w (suc m) (omega arith) hw (HasBytes-mix_columns _) in
      rw (after_inv_rounds-suc, inverse_meets n (suc m) (omega arith), there, round, after_rounds-suc, added)
      (inv_mix_columns-mix_columns (shift_rows (sub_bytes (after_rounds w block m))) (HasBytes-half_round _ bytes))

  decipher_by-cipher_by : decipher_by w (cipher_by w block) ≡ block
  decipher_by-cipher_by =
      rw (decipher_by-is, inverse_meets 13 0 refl, there_and_back (after_rounds w block 0) (HasBytes-after_rounds 0 (omega arith)), after_rounds-zero)
      (add_round_key-twice block w 0 (omega arith) hw hb)

  -- the cipher on its way back through the states of the inverse cipher
  cipher_meets : (n m : ℕ) → n + m ≡ 13 → after_rounds w (decipher_by w block) n ≡ inv_sub_bytes (inv_shift_rows (after_inv_rounds w block m))
  cipher_meets zero m e =
      let last : m ≡ 13 = omega arith in
      rw (after_rounds-zero, decipher_by-is, last)
      (add_round_key-twice _ w 0 (omega arith) hw (HasBytes-inv_half_round _ (HasBytes-after_inv_rounds 13)))
  cipher_meets (suc n) m e =
      let round : 13 - m ≡ suc n = omega arith in
      let half = HasBytes-inv_half_round (after_inv_rounds w block m) (HasBytes-after_inv_rounds m) in
      let back = back_and_there (after_inv_rounds w block (suc m)) (HasBytes-after_inv_rounds (suc m)) in
      let mixed = mix_columns-inv_mix_columns (add_round_key (inv_sub_bytes (inv_shift_rows (after_inv_rounds w block m))) w (suc n))
      (HasBytes-add_round_key _ w (suc n) (omega arith) hw half) in
      rw (after_rounds-suc, cipher_meets n (suc m) (omega arith), back, after_inv_rounds-suc, round, mixed)
      (add_round_key-twice _ w (suc n) (omega arith) hw half)

  cipher_by-decipher_by : cipher_by w (decipher_by w block) ≡ block
  cipher_by-decipher_by =
      rw (cipher_by-is, cipher_meets 13 0 refl, back_and_there (after_inv_rounds w block 0) (HasBytes-after_inv_rounds 0), after_inv_rounds-zero)
      (add_round_key-twice block w 14 (omega arith) hw hb)

pub HasBytes-cipher : (key block : List ℕ) → HasBytes 32 key → HasBytes 16 block → HasBytes 16 (cipher key block)
unfolding cipher
HasBytes-cipher key block hk hb = HasBytes-cipher_by (key_expansion key) block (HasBytes-key_expansion key hk) hb

pub HasBytes-decipher : (key block : List ℕ) → HasBytes 32 key → HasBytes 16 block → HasBytes 16 (decipher key block)
unfolding decipher
HasBytes-decipher key block hk hb = HasBytes-decipher_by (key_expansion key) block (HasBytes-key_expansion key hk) hb

pub decipher-cipher : (key block : List ℕ) → HasBytes 32 key → HasBytes 16 block → decipher key (cipher key block) ≡ block
unfolding cipher decipher
decipher-cipher key block hk hb = decipher_by-cipher_by (key_expansion key) block (HasBytes-key_expansion key hk) hb

pub cipher-decipher : (key block : List ℕ) → HasBytes 32 key → HasBytes 16 block → cipher key (decipher key block) ≡ block
unfolding cipher decipher
cipher-decipher key block hk hb = cipher_by-decipher_by (key_expansion key) block (HasBytes-key_expansion key hk) hb
