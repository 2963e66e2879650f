-- The standard's own examples, computed from the definitions (FIPS 197, sections 4.2 and 5.1.1, appendices A.3 and C.3).
use Rattle.std.proofs.Common.{◌≡◌, ℕ, List, [], ◌∷◌, refl}
use Rattle.fk_aes.specs.Cipher.{after_inv_rounds, after_rounds, cipher, cipher_by, decipher, decipher_by}
use Rattle.fk_aes.specs.Field.{◌•◌, inverse, last_below, product_by_bits, xor_bytes, xtime}
use Rattle.fk_aes.specs.KeyExpansion.{addend, first_words, key_expansion, next_word, power_of_x, word_at}
use Rattle.fk_aes.specs.State.{add_round_key, inv_mix_column, inv_mix_columns, inv_shift_rows, inv_sub_bytes, mix_column, mix_columns, row_times, shift_rows, sub_bytes}
use Rattle.fk_aes.specs.Substitution.{affine, affine_bits, inv_sub_byte, inverse_affine, sub_byte}

products : (0x57 • 0x83) ∷ (0x57 • 0x13) ∷ [] ≡ 0xc1 ∷ 0xfe ∷ []
unfolding ◌•◌ product_by_bits xtime
products = refl

substitutions : inverse 0x53 ∷ sub_byte 0x53 ∷ inv_sub_byte 0xed ∷ [] ≡ 0xca ∷ 0xed ∷ 0x53 ∷ []
unfolding inv_sub_byte inverse_affine sub_byte affine affine_bits inverse last_below ◌•◌ product_by_bits xtime
substitutions = refl

-- the words 0, 8 and 59 of the schedule of a key
expansion_key : List ℕ
expansion_key =
    0x60 ∷ 0x3d ∷ 0xeb ∷ 0x10 ∷ 0x15 ∷ 0xca ∷ 0x71 ∷ 0xbe ∷ 0x2b ∷ 0x73 ∷ 0xae ∷ 0xf0 ∷ 0x85 ∷ 0x7d ∷ 0x77 ∷ 0x81
    ∷ 0x1f ∷ 0x35 ∷ 0x2c ∷ 0x07 ∷ 0x3b ∷ 0x61 ∷ 0x08 ∷ 0xd7 ∷ 0x2d ∷ 0x98 ∷ 0x10 ∷ 0xa3 ∷ 0x09 ∷ 0x14 ∷ 0xdf ∷ 0xf4 ∷ []

first_word : word_at (key_expansion expansion_key) 0 ≡ 0x60 ∷ 0x3d ∷ 0xeb ∷ 0x10 ∷ []
unfolding expansion_key key_expansion first_words next_word addend power_of_x xor_bytes sub_byte affine affine_bits inverse last_below ◌•◌ product_by_bits xtime
first_word = refl

word_8 : word_at (key_expansion expansion_key) 8 ≡ 0x9b ∷ 0xa3 ∷ 0x54 ∷ 0x11 ∷ []
unfolding expansion_key key_expansion first_words next_word addend power_of_x xor_bytes sub_byte affine affine_bits inverse last_below ◌•◌ product_by_bits xtime
word_8 = refl

last_word : word_at (key_expansion expansion_key) 59 ≡ 0x70 ∷ 0x6c ∷ 0x63 ∷ 0x1e ∷ []
unfolding expansion_key key_expansion first_words next_word addend power_of_x xor_bytes sub_byte affine affine_bits inverse last_below ◌•◌ product_by_bits xtime
last_word = refl

-- a block and what the cipher makes of it
example_key : List ℕ
example_key =
    0x00 ∷ 0x01 ∷ 0x02 ∷ 0x03 ∷ 0x04 ∷ 0x05 ∷ 0x06 ∷ 0x07 ∷ 0x08 ∷ 0x09 ∷ 0x0a ∷ 0x0b ∷ 0x0c ∷ 0x0d ∷ 0x0e ∷ 0x0f
    ∷ 0x10 ∷ 0x11 ∷ 0x12 ∷ 0x13 ∷ 0x14 ∷ 0x15 ∷ 0x16 ∷ 0x17 ∷ 0x18 ∷ 0x19 ∷ 0x1a ∷ 0x1b ∷ 0x1c ∷ 0x1d ∷ 0x1e ∷ 0x1f ∷ []

plain_block : List ℕ
plain_block = 0x00 ∷ 0x11 ∷ 0x22 ∷ 0x33 ∷ 0x44 ∷ 0x55 ∷ 0x66 ∷ 0x77 ∷ 0x88 ∷ 0x99 ∷ 0xaa ∷ 0xbb ∷ 0xcc ∷ 0xdd ∷ 0xee ∷ 0xff ∷ []

sealed_block : List ℕ
sealed_block = 0x8e ∷ 0xa2 ∷ 0xb7 ∷ 0xca ∷ 0x51 ∷ 0x67 ∷ 0x45 ∷ 0xbf ∷ 0xea ∷ 0xfc ∷ 0x49 ∷ 0x90 ∷ 0x4b ∷ 0x49 ∷ 0x60 ∷ 0x89 ∷ []

cipher_example : cipher example_key plain_block ≡ sealed_block
unfolding example_key plain_block sealed_block cipher cipher_by after_rounds add_round_key mix_columns mix_column row_times shift_rows sub_bytes key_expansion first_words next_word addend power_of_x xor_bytes sub_byte affine affine_bits inverse last_below ◌•◌ product_by_bits xtime
cipher_example = refl

decipher_example : decipher example_key sealed_block ≡ plain_block
unfolding example_key plain_block sealed_block decipher decipher_by after_inv_rounds add_round_key inv_mix_columns inv_mix_column row_times inv_shift_rows inv_sub_bytes inv_sub_byte inverse_affine key_expansion first_words next_word addend power_of_x xor_bytes sub_byte affine affine_bits inverse last_below ◌•◌ product_by_bits xtime
decipher_example = refl
