-- The substitution of one byte and its inverse (FIPS 197, sections 5.1.1 and 5.3.2), computed and not looked up.
use Rattle.std.specs.Prelude.{ℕ, zero, suc, ◌+◌, ◌*◌, ◌%◌, ◌^◌, ◌==◌}
use Rattle.std.specs.Int.{bit_at}
use Rattle.fk_aes.specs.Field.{◌⊕◌, inverse, last_below}

-- bit i of the affine map: b_i + b_(i+4) + b_(i+5) + b_(i+6) + b_(i+7) + c_i, with places modulo 8 and c = 0x63 (5.1.1)
abbrev pub affine_bit : ℕ → ℕ → ℕ
affine_bit b i =
    bit_at b i ⊕ bit_at b ((i + 4) % 8) ⊕ bit_at b ((i + 5) % 8) ⊕ bit_at b ((i + 6) % 8) ⊕ bit_at b ((i + 7) % 8) ⊕ bit_at 0x63 i

-- the lowest n bits of the affine map
unfoldable pub affine_bits : ℕ → ℕ → ℕ
affine_bits b zero = 0
affine_bits b (suc n) = affine_bits b n + affine_bit b n * 2 ^ n

-- the affine map (5.1.1)
unfoldable pub affine : ℕ → ℕ
affine b = affine_bits b 8

-- the substitution: the inverse, then the affine map (5.1.1)
unfoldable pub sub_byte : ℕ → ℕ
sub_byte b = affine (inverse b)

-- the inverse of the affine map: the byte that it takes to b (5.3.2)
unfoldable pub inverse_affine : ℕ → ℕ
inverse_affine b = last_below 256 (λ c. affine c == b)

-- the inverse substitution: the inverse of the affine map, then the inverse (5.3.2)
unfoldable pub inv_sub_byte : ℕ → ℕ
inv_sub_byte b = inverse (inverse_affine b)
