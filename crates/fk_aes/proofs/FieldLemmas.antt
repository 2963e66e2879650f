-- The field of bytes: what computed tests over all 256 bytes say of each, and that a product is linear in its second factor.
use Rattle.std.proofs.Common.{◌≡◌, ℕ, zero, suc, ◌*◌, ◌/◌, ◌%◌, ◌<◌, ◌==◌, Bool, true, refl, sym, ap, ◌∙◌, arith, zero-mul, one-mul}
use Rattle.std.specs.Prelude.{if◌then◌else◌, nat_lt}
use Rattle.std.proofs.lemmas.Bool.{agree_below, agree_below_at, eqb-true, ltb-true}
use Rattle.std.proofs.lemmas.Nat.{xor_comm, xor_lt, xor_mod, xor_shr}
use lib.Bits.{xor_assoc, xor_self, xor_zero_r}
use Rattle.fk_aes.specs.Field.{◌⊕◌, ◌•◌, xtime, product_by_bits, inverse, last_below}

-- the test holds of each byte
abbrev pub of_each_byte : (ℕ → Bool) → Bool
of_each_byte test = agree_below test (λ _. true) 256

pub true_at : (test : ℕ → Bool) (b : ℕ) → of_each_byte test ≡ true → b < 256 → test b ≡ true
true_at test b h l = agree_below_at test (λ _. true) 256 b h l

-- two functions that a computed test finds to be equal at each byte
pub same_at : (f g : ℕ → ℕ) → of_each_byte (λ b. f b == g b) ≡ true → (b : ℕ) → b < 256 → f b ≡ g b
same_at f g h b l = eqb-true (f b) (g b) (true_at (λ x. f x == g x) b h l)

-- a function whose values a computed test finds to be bytes
pub byte_at_each : (f : ℕ → ℕ) → of_each_byte (λ b. nat_lt (f b) 256) ≡ true → (b : ℕ) → b < 256 → f b < 256
byte_at_each f h b l = ltb-true (f b) 256 (true_at (λ x. nat_lt (f x) 256) b h l)

pub xtime-below : (b : ℕ) → b < 256 → xtime b < 256
unfolding xtime
xtime-below = byte_at_each (λ b. xtime b) refl

-- the inverse is what the standard says: its product with the byte is 1
pub product-inverse : (b : ℕ) → b < 256 → b • inverse b ≡ if b == 0 then 0 else 1
unfolding ◌•◌ product_by_bits xtime inverse last_below
product-inverse = same_at (λ b. b • inverse b) (λ b. if b == 0 then 0 else 1) refl

-- (p + q) + (r + s) ≡ (p + r) + (q + s)
pub xor-interchange : (p q r s : ℕ) → p ⊕ q ⊕ (r ⊕ s) ≡ p ⊕ r ⊕ (q ⊕ s)
xor-interchange p q r s =
    xor_assoc p q (r ⊕ s)
    ∙ ap (λ (y : ℕ). p ⊕ y) (sym (xor_assoc q r s) ∙ ap (λ (y : ℕ). y ⊕ s) (xor_comm q r) ∙ xor_assoc r q s)
    ∙ sym (xor_assoc p r (q ⊕ s))

-- what is added twice is gone
pub xor-twice : (p q : ℕ) → p ⊕ q ⊕ q ≡ p
xor-twice p q = xor_assoc p q q ∙ ap (λ (y : ℕ). p ⊕ y) (xor_self q) ∙ xor_zero_r p

-- one bit of a sum times a
bit_times-xor : (x y a : ℕ) → x < 2 → y < 2 → (x ⊕ y) * a ≡ (x * a) ⊕ (y * a)
bit_times-xor zero y a hx hy = rw zero-mul refl
bit_times-xor (suc zero) zero a hx hy = rw zero-mul (sym (xor_zero_r (1 * a)))
bit_times-xor (suc zero) (suc zero) a hx hy = zero-mul a ∙ sym (xor_self (1 * a))
bit_times-xor (suc zero) (suc (suc y)) a hx hy = absurd (omega arith)
bit_times-xor (suc (suc x)) y a hx hy = absurd (omega arith)

product_by_bits-xor : (n a b c : ℕ) → product_by_bits n a (b ⊕ c) ≡ product_by_bits n a b ⊕ product_by_bits n a c
unfolding product_by_bits
product_by_bits-xor zero a b c = refl
product_by_bits-xor (suc n) a b c =
    let half : (b ⊕ c) / 2 ≡ (b / 2) ⊕ (c / 2) = xor_shr b c 1 in
    let low : (b ⊕ c) % 2 ≡ (b % 2) ⊕ (c % 2) = xor_mod b c 1 in
    let lb : b % 2 < 2 = omega arith in
    let lc : c % 2 < 2 = omega arith in
    rw (half, low, bit_times-xor (b % 2) (c % 2) a lb lc, product_by_bits-xor n (xtime a) (b / 2) (c / 2))
    (xor-interchange (b % 2 * a) (c % 2 * a) (product_by_bits n (xtime a) (b / 2)) (product_by_bits n (xtime a) (c / 2)))

-- a product with a sum
pub product-xor : (a b c : ℕ) → a • (b ⊕ c) ≡ a • b ⊕ a • c
unfolding ◌•◌
product-xor a b c = product_by_bits-xor 8 a b c

pub xor-below : (a b : ℕ) → a < 256 → b < 256 → a ⊕ b < 256
xor-below a b la lb = xor_lt 8 a b la lb

product_by_bits-below : (n a b : ℕ) → a < 256 → product_by_bits n a b < 256
unfolding product_by_bits
product_by_bits-below zero a b l = omega arith
product_by_bits-below (suc n) a b l =
    let low : b % 2 * a < 256 = bit_times-below (b % 2) a (omega arith) l in
    xor-below (b % 2 * a) (product_by_bits n (xtime a) (b / 2)) low (product_by_bits-below n (xtime a) (b / 2) (xtime-below a l))
  where
    bit_times-below : (x y : ℕ) → x < 2 → y < 256 → x * y < 256
    bit_times-below zero y hx hy = rw zero-mul (omega arith)
    bit_times-below (suc zero) y hx hy = rw one-mul hy
    bit_times-below (suc (suc x)) y hx hy = absurd (omega arith)

pub product-below : (a b : ℕ) → a < 256 → a • b < 256
unfolding ◌•◌
product-below a b l = product_by_bits-below 8 a b l
