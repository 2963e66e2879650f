-- Bytes as elements of a finite field (FIPS 197, section 4). The bits of a byte are the coefficients of a polynomial of
-- degree below 8, and products are taken modulo x^8 + x^4 + x^3 + x + 1. Nothing here reads a table.
use Rattle.std.specs.Prelude.{ℕ, zero, suc, ◌*◌, ◌/◌, ◌%◌, ◌==◌, List, [], ◌∷◌, Bool, true, false, bit_xor, nat_lt, if◌then◌else◌}

infixl 61 ◌⊕◌
infixl 62 ◌•◌
-- the sum of two bytes: their bits are added modulo 2 (4.1)
abbrev pub ◌⊕◌ : ℕ → ℕ → ℕ
a ⊕ b = bit_xor a b

-- x^8 + x^4 + x^3 + x + 1 (4.2)
abbrev pub modulus : ℕ
modulus = 0x11b

-- the product of a byte with x: its bits moved up by one, less the modulus where that has a term x^8 (4.2)
unfoldable pub xtime : ℕ → ℕ
xtime a = if nat_lt a 128 then 2 * a else ((2 * a) ⊕ modulus)

-- the sum of a, a x, a x^2, .. over the lowest n bits of b that are 1 (4.2)
unfoldable pub product_by_bits : ℕ → ℕ → ℕ → ℕ
product_by_bits zero a b = 0
product_by_bits (suc n) a b = (b % 2 * a) ⊕ product_by_bits n (xtime a) (b / 2)

-- the product of two bytes (4.2)
unfoldable pub ◌•◌ : ℕ → ℕ → ℕ
a • b = product_by_bits 8 a b

-- the highest number below n that passes a test, or 0 where none does
unfoldable pub last_below : ℕ → (ℕ → Bool) → ℕ
last_below zero test = 0
last_below (suc n) test = elim (test n) [ true ↦ n | false ↦ last_below n test ]

-- the multiplicative inverse: the byte whose product with b is 1, and 0 for 0, which has none (4.2, 5.1.1)
unfoldable pub inverse : ℕ → ℕ
inverse b = last_below 256 (λ c. b • c == 1)

-- the sums of the bytes at equal places of two lists (5.1.4)
unfoldable pub xor_bytes : List ℕ → List ℕ → List ℕ
xor_bytes [] ks = []
xor_bytes (b ∷ bs) [] = []
xor_bytes (b ∷ bs) (k ∷ ks) = (b ⊕ k) ∷ xor_bytes bs ks
