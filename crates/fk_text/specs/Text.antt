-- Base64 without padding (RFC 4648, section 4), cut from one list of bits.
use Rattle.std.specs.Prelude.{ℕ, ◌+◌, ◌*◌, ◌/◌, ◌%◌, List, [], ◌∷◌, ◌++◌, map, codes, slice_index}

-- the 64 letters, in the order of their numbers (RFC 4648, table 1)
abbrev pub alphabet : List ℕ
alphabet = codes "ABCDEFGHIJKLMNOPQRSTUVWXYZabcdefghijklmnopqrstuvwxyz0123456789+/"

-- the letter of a number below 64
abbrev pub letter_of : ℕ → ℕ
letter_of n = slice_index alphabet n

-- the eight bits of a byte, highest first
abbrev pub byte_bits : ℕ → List ℕ
byte_bits b = b / 128 % 2 ∷ b / 64 % 2 ∷ b / 32 % 2 ∷ b / 16 % 2 ∷ b / 8 % 2 ∷ b / 4 % 2 ∷ b / 2 % 2 ∷ b % 2 ∷ []

-- the bits of all bytes, in their order
unfoldable pub bits_of : List ℕ → List ℕ
bits_of [] = []
bits_of (b ∷ bytes) = byte_bits b ++ bits_of bytes

-- the number that six bits are, highest first
abbrev pub six_number : ℕ → ℕ → ℕ → ℕ → ℕ → ℕ → ℕ
six_number a b c d e f = 32 * a + 16 * b + 8 * c + 4 * d + 2 * e + f

-- the numbers of the groups of six bits, the last group filled with zero bits
unfoldable pub group_numbers : List ℕ → List ℕ
group_numbers [] = []
group_numbers (a ∷ []) = six_number a 0 0 0 0 0 ∷ []
group_numbers (a ∷ b ∷ []) = six_number a b 0 0 0 0 ∷ []
group_numbers (a ∷ b ∷ c ∷ []) = six_number a b c 0 0 0 ∷ []
group_numbers (a ∷ b ∷ c ∷ d ∷ []) = six_number a b c d 0 0 ∷ []
group_numbers (a ∷ b ∷ c ∷ d ∷ e ∷ []) = six_number a b c d e 0 ∷ []
group_numbers (a ∷ b ∷ c ∷ d ∷ e ∷ f ∷ bits) = six_number a b c d e f ∷ group_numbers bits

-- the text of a list of bytes: the letter of each group of six of its bits
unfoldable pub text_of : List ℕ → List ℕ
text_of bytes = map letter_of (group_numbers (bits_of bytes))
