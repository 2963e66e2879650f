-- What a key opens, computed block by block. By `sealed_bytes_are_opened` it is the plaintext that was sealed.
use Rattle.std.specs.Prelude.{ℕ, zero, suc, ◌-◌, ◌%◌, ◌==◌, nat_le, Bool, ◌&&◌, List, [], ◌++◌, length, take, drop, slice_index, Option, Some, None, if◌then◌else◌}
use Rattle.std.specs.Str.{bytes_eq}
use Rattle.fk_aes.specs.Field.{xor_bytes}
use Rattle.fk_aes.specs.Cipher.{decipher}
use Rattle.fk_cbc.specs.KeyDerivation.{cipher_key, initial_vector}
use Rattle.fk_cbc.specs.Padding.{padding}
use Rattle.fk_cbc.specs.Seals.{salt_mark, salt_in, block_count}

-- n blocks deciphered, each under exclusive or with the one before it (NIST SP 800-38A, section 6.2)
unfoldable pub deciphered_blocks : (key before : List ℕ) → ℕ → List ℕ → List ℕ
deciphered_blocks key before zero bytes = []
deciphered_blocks key before (suc n) bytes =
    xor_bytes (decipher key (take 16 bytes)) before ++ deciphered_blocks key (take 16 bytes) n (drop 16 bytes)

-- the text that the blocks after the salt decipher to, with its padding
unfoldable pub deciphered_text : (key sealed : List ℕ) → List ℕ
deciphered_text key sealed =
    deciphered_blocks (cipher_key key (salt_in sealed)) (initial_vector key (salt_in sealed)) (block_count sealed) (drop 16 sealed)

-- the last byte of a text, which tells how long its padding is
abbrev pub padding_len : List ℕ → ℕ
padding_len text = slice_index text (length text - 1)

-- the text without its padding, where it has a right one
unfoldable pub unpadded : List ℕ → Option (List ℕ)
unpadded text =
    let n = padding_len text in
    if nat_le 1 n && nat_le n 16 && nat_le n (length text) && bytes_eq (drop (length text - n) text) (padding n)
    then Some (take (length text - n) text) else None

-- the bytes begin with the mark, and hold the salt and one block or more
abbrev pub is_marked : List ℕ → Bool
is_marked sealed = bytes_eq (take 8 sealed) salt_mark && nat_le 32 (length sealed) && (length sealed % 16 == 0)

-- the plaintext that the key opens
unfoldable pub opened : (key sealed : List ℕ) → Option (List ℕ)
opened key sealed = if is_marked sealed then unpadded (deciphered_text key sealed) else None

-- how many blocks are deciphered to open the bytes: all of them, or none where the mark or the length is wrong
abbrev pub blocks_opened : List ℕ → ℕ
blocks_opened sealed = if is_marked sealed then block_count sealed else 0
