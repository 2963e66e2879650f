-- The sealed bytes of the empty plaintext under the key "k" and the salt 0 to 7, computed from the definitions. OpenSSL writes the
-- same, by `openssl enc -aes-256-cbc -md md5 -S 0001020304050607 -pass pass:k`.
use Rattle.std.proofs.Common.{ℕ, ◌≡◌, List, [], ◌∷◌, ◌++◌, ◌<◌, codes, slice_index, refl, sym, subst, arith}
use Rattle.md5.specs.Md5.{md5, digest_bytes, hash_after, compress, rounds, block_words}
use Rattle.fk_aes.specs.Cipher.{after_rounds, cipher, cipher_by}
use Rattle.fk_aes.specs.Field.{◌•◌, inverse, last_below, product_by_bits, xor_bytes, xtime}
use Rattle.fk_aes.specs.KeyExpansion.{addend, first_words, key_expansion, next_word, power_of_x}
use Rattle.fk_aes.specs.State.{add_round_key, mix_column, mix_columns, row_times, shift_rows, sub_bytes}
use Rattle.fk_aes.specs.Substitution.{affine, affine_bits, sub_byte}
use Rattle.fk_aes.proofs.ByteLists.{written_out}
use Rattle.fk_cbc.specs.Chain.{Encrypts}
use Rattle.fk_cbc.specs.KeyDerivation.{chained_digest, cipher_key, initial_vector}
use Rattle.fk_cbc.specs.Padding.{padded}
use Rattle.fk_cbc.specs.Seals.{Seals, salt_mark}

salt : List ℕ
salt = 0x00 ∷ 0x01 ∷ 0x02 ∷ 0x03 ∷ 0x04 ∷ 0x05 ∷ 0x06 ∷ 0x07 ∷ []

key : List ℕ
key = 0x85 ∷ 0x48 ∷ 0xbf ∷ 0x32 ∷ 0xe0 ∷ 0x7a ∷ 0xc8 ∷ 0x12 ∷ 0xf0 ∷ 0x7e ∷ 0x6f ∷ 0xd9 ∷ 0xa5 ∷ 0x33 ∷ 0x95 ∷ 0xa1 ∷ 0x87 ∷ 0x29 ∷ 0x14 ∷ 0x26 ∷ 0x08 ∷ 0x18 ∷ 0xa3 ∷ 0x39 ∷ 0x85 ∷ 0xc7 ∷ 0xcb ∷ 0x61 ∷ 0x52 ∷ 0x50 ∷ 0x47 ∷ 0x69 ∷ []

vector : List ℕ
vector = 0x64 ∷ 0x8a ∷ 0x7b ∷ 0xb7 ∷ 0x4f ∷ 0x55 ∷ 0xb3 ∷ 0x7f ∷ 0x47 ∷ 0xeb ∷ 0xc2 ∷ 0xe5 ∷ 0x8c ∷ 0xd6 ∷ 0x48 ∷ 0xbf ∷ []

block : List ℕ
block = 0x58 ∷ 0x18 ∷ 0x0c ∷ 0x71 ∷ 0x01 ∷ 0xce ∷ 0x0b ∷ 0x4b ∷ 0x0c ∷ 0xb4 ∷ 0x48 ∷ 0xf5 ∷ 0xb5 ∷ 0xed ∷ 0xb0 ∷ 0xaf ∷ []

key_example : cipher_key (codes "k") salt ≡ key
unfolding salt key cipher_key chained_digest md5 digest_bytes hash_after compress rounds block_words
key_example = refl

vector_example : initial_vector (codes "k") salt ≡ vector
unfolding salt vector initial_vector chained_digest md5 digest_bytes hash_after compress rounds block_words
vector_example = refl

block_example : block ≡ cipher key (xor_bytes (padded []) vector)
unfolding key vector block cipher cipher_by after_rounds add_round_key mix_columns mix_column row_times shift_rows sub_bytes key_expansion first_words next_word addend power_of_x xor_bytes sub_byte affine affine_bits inverse last_below ◌•◌ product_by_bits xtime
block_example = refl

encrypts_example : Encrypts key vector (padded []) block
unfolding block
encrypts_example = record {
  ps = padded [] ∷ [];
  cs = block ∷ [];
  text_is = refl;
  encrypted_is = refl;
  chained = (
    written_out 16 (padded []) refl
        (omega arith, (omega arith, (omega arith, (omega arith, (omega arith, (omega arith, (omega arith, (omega arith, (omega arith, (omega arith, (omega arith, (omega arith, (omega arith, (omega arith, (omega arith, (omega arith, tt)))))))))))))))),
    block_example,
    tt,
  );
}

seals_example : Seals (codes "k") salt [] (salt_mark ++ salt ++ block)
unfolding salt
seals_example = record {
  blocks = block;
  salt_is = written_out 8 salt refl (omega arith, (omega arith, (omega arith, (omega arith, (omega arith, (omega arith, (omega arith, (omega arith, tt))))))));
  sealed_is = refl;
  encrypts =
      subst (λ k. Encrypts k (initial_vector (codes "k") salt) (padded []) block) (sym key_example)
      (subst (λ v. Encrypts key v (padded []) block) (sym vector_example) encrypts_example);
}

-- nothing is sealed with eight numbers of which one is above 255
no_wide_salt : (key salt plain sealed : List ℕ) (i : ℕ) → 255 < slice_index salt i → Seals key salt plain sealed → ⊥
no_wide_salt key salt plain sealed i wide h = let byte = h.salt_is.each i in omega arith
